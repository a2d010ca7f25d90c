-- `sum_to_slot` leaves the sum of the pages of all slots in the page of another slot, and counts it: a step's write.
use Rattle.flash.proofs.Kit.{◌≡◌, cond, [], ◌-◌, ◌<◌, ltb, length, take}
use Rattle.flash.specs.Lists.{part, set_part}
use Rattle.flash.specs.PageSum.{sum}
use Rattle.flash.proofs.slots.sum_to_slot.Given as goal

-- the pages of the first i slots are summed, and only the slot has changed; before the first pass it counts for nothing
abbrev pub invariant-loop-i : goal.invariant-loop-i
invariant-loop-i l =
    (cond (ltb 0 l.i) (part l.p l.to l.store) [] ≡ sum (λ t. part l.p t l.initial.store) (take l.i l.slots))
    × (l.store ≡ set_part l.p l.to l.initial.store (part l.p l.to l.store)) × (l.i < length l.slots) × (length l.store ≡ length l.initial.store)

abbrev pub decreases-loop-i : goal.decreases-loop-i
decreases-loop-i l = length l.slots - l.i
