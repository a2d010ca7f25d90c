-- `span_repeats` spares the pass of a span whose records rise.
use Rattle.flash.proofs.Kit.{refl, sym, ◌∙◌}
use Rattle.flash.proofs.Bools.{never_both}
use Rattle.intel_hex.proofs.read.span_repeats.Goals as goal

pub returns-then-is_some : goal.returns-then-is_some
returns-then-is_some c =
    record { repeated = λ e. absurd (never_both e refl); none = λ _. c.requires.rising (sym c.is_some.ensures ∙ c.if-is_some.true) }
