-- `weigh_codes` fills the table of weights.
use Rattle.flash.proofs.Kit.{ℕ, ◌≡◌, ◌<◌, get_or}
use Rattle.intel_hex.specs.inner.Lines.{weight_of}
use Rattle.intel_hex.proofs.weights.Weights.new.Given as goal

abbrev pub invariant-loop-code : goal.invariant-loop-code
invariant-loop-code l = (k : ℕ) → k < l.code → get_or l.entry-items k 0 ≡ weight_of k
