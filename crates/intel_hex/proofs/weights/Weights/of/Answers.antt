-- `of` looks a weight up.
use Rattle.flash.proofs.Kit.{ℕ, ◌∙◌, ap, arith, get_or}
use Rattle.intel_hex.proofs.WeightLaws.{weight-bound}
use Rattle.intel_hex.proofs.weights.Weights.of.Goals as goal

pub returns : goal.returns
returns c =
    let a = c.args in
    let e = ap (λ (x : ℕ). get_or a.self.now.table x 0) c.from.ensures ∙ a.self.now.weigh a.code (omega arith) in
    (e, omega (arith, e, weight-bound a.code))
