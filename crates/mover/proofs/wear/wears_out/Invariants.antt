-- `wears_out` looks at the counters of the store, block by block.
use Rattle.flash.proofs.Kit.{◌≡◌, Bool, false, ℕ, ◌+◌, ◌<◌, ltb}
use Rattle.flash.specs.declared.wear.Wear.{Wear}
use Rattle.flash.specs.Wear.{counter_at}
use Rattle.method.specs.Worn.{erases_of}
use Rattle.mover.proofs.wear.wears_out.Given as goal

abbrev pub test : (n : ℕ) → Wear → (limit block : ℕ) → Bool
test n wear limit block = ltb limit (counter_at wear block + erases_of n block)

abbrev pub invariant-loop-block : goal.invariant-loop-block
invariant-loop-block l = (b : ℕ) → b < l.block → test l.n l.fn.wear l.limit b ≡ false
