-- `spell` gives the digits of each byte of an area, and their sum.
use Rattle.flash.proofs.Kit.{◌≡◌, refl, ◌∙◌, append-nil, ◌*◌, ◌<◌, arith, get_or, take, drop_of_length-le, take_all}
use Rattle.flash.specs.Lists.{concat_map, total}
use Rattle.intel_hex.proofs.Prints.{spelled-more, total-more}
use Rattle.intel_hex.proofs.print.spell.Goals as goal

pub loop-i-init : goal.loop-i-init
unfolding concat_map total
loop-i-init c = (refl, refl, omega arith)

pub loop-i-preserved : goal.loop-i-preserved
loop-i-preserved c =
    let l = c.loop-i in
    let a = c.args in
    let small : get_or a.area.now l.i 0 < 256 = omega arith in (
      rw (c.digit_of.ensures, c.digit_of-in-loop-i.ensures, l.invariant.0)
          (spelled-more a.area.now a.digits.now l.i (omega arith) (omega arith) small),
      omega (arith, c.from-sum.ensures, total-more a.area.now l.i (omega arith)),
      omega (arith, c.from-sum.ensures),
    )

pub returns : goal.returns
returns c =
    let l = c.loop-i in
    let a = c.args in
    let all : take l.i a.area.now ≡ a.area.now = take_all l.i a.area.now (omega arith) in
    let none = drop_of_length-le a.digits.now {i = 2 * l.i} (omega arith) in
    (l.invariant.0 ∙ rw (all, none, append-nil), l.invariant.1 ∙ rw all)
