-- `others` counts the codes that are no digit.
use Rattle.flash.proofs.Kit.{refl, ◌+◌, arith}
use Rattle.intel_hex.specs.inner.Lines.{others_from}
use Rattle.intel_hex.proofs.ChunkLaws.{others-more, others-few}
use Rattle.intel_hex.proofs.codes.others.Goals as goal

pub loop-i-init : goal.loop-i-init
unfolding others_from
loop-i-init c = refl

pub overflow_add-count : goal.overflow_add-count
overflow_add-count c =
    let l = c.loop-i in
    let a = c.args in
    let e = others-more a.text.now a.from l.i l.count _ l.invariant c.other-count.ensures in
    omega (arith, e, others-few a.text.now a.from (l.i + 1))

pub loop-i-preserved : goal.loop-i-preserved
loop-i-preserved c =
    let l = c.loop-i in
    let a = c.args in
    others-more a.text.now a.from l.i l.count _ l.invariant c.other-count.ensures
