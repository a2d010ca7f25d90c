-- `last_to_slot` makes of the page of a slot what a pass makes of it, piece by piece, and counts it.
use Rattle.flash.proofs.Kit.{◌≡◌, ◌++◌, ◌-◌, ◌≤◌, length, take, drop}
use Rattle.flash.specs.Lists.{part, set_part}
use Rattle.flash.specs.PageSum.{written_bytes}
use Rattle.flash.specs.inner.Terms.{passed}
use Rattle.flash.proofs.slots.last_to_slot.Given as goal

-- the bytes of the slot before i are as they are to be and are counted, and all others are as they were
abbrev pub invariant-loop-i : goal.invariant-loop-i
invariant-loop-i l =
    (l.store ≡ set_part l.p l.to l.initial.store (take l.i (passed l.initial.store l.p l.terms l.add (part l.p l.to l.initial.store)) ++ drop l.i (part l.p l.to l.initial.store)))
    × (l.written ≡ written_bytes (take l.i (passed l.initial.store l.p l.terms l.add (part l.p l.to l.initial.store)))) × (l.written ≤ l.i) × (l.i ≤ l.p) × (length l.store ≡ length l.initial.store)

abbrev pub decreases-loop-i : goal.decreases-loop-i
decreases-loop-i l = l.p - l.i
