-- `last_to_page` makes of a page what a pass makes of it, piece by piece, and counts it.
use Rattle.flash.proofs.Kit.{◌≡◌, ◌++◌, ◌-◌, ◌≤◌, length, take, drop}
use Rattle.flash.specs.PageSum.{written_bytes}
use Rattle.flash.specs.inner.Terms.{passed}
use Rattle.flash.proofs.slots.last_to_page.Given as goal

-- the bytes before i are as they are to be and are counted, and those from i on are as they were
abbrev pub invariant-loop-i : goal.invariant-loop-i
invariant-loop-i l =
    (l.page ≡ take l.i (passed l.store l.p l.terms l.add l.initial.page) ++ drop l.i l.initial.page) × (l.written ≡ written_bytes (take l.i (passed l.store l.p l.terms l.add l.initial.page)))
    × (l.written ≤ l.i) × (l.i ≤ l.p) × (length l.page ≡ l.p)

abbrev pub decreases-loop-i : goal.decreases-loop-i
decreases-loop-i l = l.p - l.i
