-- `next_mark` finds the first mark from `start` on.
use Rattle.flash.proofs.Kit.{◌≡◌, false, ℕ, ◌-◌, ◌≤◌, ◌<◌}
use Rattle.split.specs.inner.Mask.{is_marked}
use Rattle.split.proofs.drops.next_mark.Given as goal

abbrev pub invariant-loop-at : goal.invariant-loop-at
invariant-loop-at l = (l.start ≤ l.at) × (l.at ≤ 4096) × ((j : ℕ) → l.start ≤ j → j < l.at → is_marked l.masks j ≡ false)

abbrev pub decreases-loop-at : goal.decreases-loop-at
decreases-loop-at l = 4096 - l.at
