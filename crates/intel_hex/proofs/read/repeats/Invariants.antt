-- `repeats` looks at each span by itself.
use Rattle.flash.proofs.Kit.{ℕ, ◌≡◌, ◌<◌}
use Rattle.intel_hex.specs.Reading.{number_of}
use Rattle.intel_hex.specs.inner.Passes.{judged_by, only_in}
use Rattle.intel_hex.proofs.read.repeats.Given as goal

abbrev pub invariant-loop-w : goal.invariant-loop-w
invariant-loop-w l = (v : ℕ) → v < l.w → number_of (judged_by (only_in v) l.found.size l.text.codes.now) ≡ 10 → ⊥
