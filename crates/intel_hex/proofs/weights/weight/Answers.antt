-- `weight` is that of a digit, or of a code that is none.
use Rattle.flash.proofs.Kit.{sym, ◌∙◌}
use Rattle.intel_hex.proofs.WeightLaws.{weight-digit, weight-other}
use Rattle.intel_hex.proofs.weights.weight.Goals as goal

pub returns-then-is_digit : goal.returns-then-is_digit
returns-then-is_digit c = c.from.ensures ∙ c.digit.ensures.0 ∙ sym (weight-digit _ (sym c.is_digit.ensures ∙ c.if-is_digit.true))

pub returns-else-is_digit : goal.returns-else-is_digit
returns-else-is_digit c = sym (weight-other _ (sym c.is_digit.ensures ∙ c.if-is_digit.false))
