-- `begun_with` answers a number of blocks that there are.
use Rattle.flash.proofs.Kit.{◌-◌, ◌≤◌}
use Rattle.recovery.proofs.marks.begun_with.Given as goal

abbrev pub invariant-loop-low : goal.invariant-loop-low
invariant-loop-low l = (l.low ≤ l.high) × (l.high ≤ l.blocks)

abbrev pub decreases-loop-low : goal.decreases-loop-low
decreases-loop-low l = l.high - l.low
