-- `is_sent_from` looks at one block after the other.
use Rattle.flash.proofs.Kit.{◌≡◌, Bool, false, List, ℕ, ◌+◌, ◌≤◌, ◌<◌, get_or}
use Rattle.split.specs.inner.Mask.{is_marked}
use Rattle.orders.specs.inner.Table.{cell}
use Rattle.orders.proofs.table.is_sent_from.Given as goal

-- the block at an index sends to the target
abbrev pub test : (table order : List ℕ) → (target : ℕ) → ℕ → Bool
test table order target j = is_marked table (cell (get_or order j 0) target)

abbrev pub invariant-loop-block : goal.invariant-loop-block
invariant-loop-block l = (x : ℕ) → x < l.from + l.block-index → l.from ≤ x → test l.table l.order l.target x ≡ false
