-- `weight_from` gives what some bytes weigh.
use Rattle.flash.proofs.Kit.{refl, arith}
use Rattle.intel_hex.specs.inner.Lines.{weight_from}
use Rattle.intel_hex.proofs.WeightLaws.{weight-small, weight-more}
use Rattle.intel_hex.proofs.text.Text.weight_from.Goals as goal

pub loop-i-init : goal.loop-i-init
unfolding weight_from
loop-i-init c = refl

pub overflow_add-sum-in-loop-i : goal.overflow_add-sum-in-loop-i
overflow_add-sum-in-loop-i c =
    let l = c.loop-i in
    let a = c.args in
    omega (arith, c.of.ensures.1, c.of-in-loop-i.ensures.1, weight-small a.self.now.codes.now a.from l.i, l.invariant)

pub loop-i-preserved : goal.loop-i-preserved
loop-i-preserved c =
    let l = c.loop-i in
    let a = c.args in
    weight-more a.self.now.codes.now a.from l.i l.sum _ _ l.invariant c.of.ensures.0 c.of-in-loop-i.ensures.0
