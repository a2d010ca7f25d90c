-- `new` fills the table of weights.
use Rattle.flash.proofs.Kit.{arith}
use Rattle.intel_hex.proofs.WeightLaws.{weights-more}
use Rattle.intel_hex.proofs.weights.Weights.new.Goals as goal

pub loop-code-preserved : goal.loop-code-preserved
loop-code-preserved c =
    let l = c.loop-code in
    λ k h. weights-more l.entry-items l.code _ l.invariant (omega arith) c.weight.ensures k h

pub invariant_of-result : goal.invariant_of-result
invariant_of-result c = record { weigh = λ code h. c.loop-code.invariant code (omega arith) }
