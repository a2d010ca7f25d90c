-- `total` sums the bytes that digits spell.
use Rattle.flash.proofs.Kit.{refl, arith, sym}
use Rattle.intel_hex.specs.inner.Lines.{weight_from}
use Rattle.intel_hex.proofs.WeightLaws.{weight-more, weight-digit, digit-small, digit-pair}
use Rattle.intel_hex.proofs.codes.total.Goals as goal

pub loop-i-init : goal.loop-i-init
unfolding weight_from
loop-i-init c = (refl, omega arith)

pub byte_of-requires : goal.byte_of-requires
byte_of-requires c = digit-pair c.args.text.now c.args.from 16 c.loop-i.i c.requires.1 (omega arith)

pub loop-i-preserved : goal.loop-i-preserved
loop-i-preserved c =
    let l = c.loop-i in
    let D = digit-pair c.args.text.now c.args.from 16 l.i c.requires.1 (omega arith) in (
      rw (c.from-sum.ensures, c.byte_of.ensures)
          (weight-more c.args.text.now c.args.from l.i l.sum _ _ l.invariant.0 (sym (weight-digit _ D.0)) (sym (weight-digit _ D.1))),
      omega (arith, c.from-sum.ensures, c.byte_of.ensures, digit-small _ D.0, digit-small _ D.1),
    )
