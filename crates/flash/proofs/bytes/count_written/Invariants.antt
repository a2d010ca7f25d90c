-- `count_written` meets its contract: the count is that of the parts passed.
use Rattle.flash.proofs.Kit.{◌≡◌, ◌≤◌, ◌-◌, length, take}
use Rattle.flash.specs.PageSum.{written_bytes}
use Rattle.flash.proofs.bytes.count_written.Given as goal

abbrev pub invariant-loop-i : goal.invariant-loop-i
invariant-loop-i l = (l.i ≤ length l.page) × (l.count ≡ written_bytes (take l.i l.page)) × (l.count ≤ l.i)

abbrev pub decreases-loop-i : goal.decreases-loop-i
decreases-loop-i l = length l.page - l.i
