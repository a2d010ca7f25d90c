-- `sum_to_page` leaves the sum of the pages of all slots in a page, and counts it: a read.
use Rattle.flash.proofs.Kit.{◌≡◌, cond, [], ◌-◌, ◌<◌, ltb, length, take}
use Rattle.flash.specs.Lists.{part}
use Rattle.flash.specs.PageSum.{sum}
use Rattle.flash.proofs.slots.sum_to_page.Given as goal

-- the pages of the first i slots are summed; before the first pass the page counts for nothing
abbrev pub invariant-loop-i : goal.invariant-loop-i
invariant-loop-i l =
    (cond (ltb 0 l.i) l.page [] ≡ sum (λ t. part l.p t l.store) (take l.i l.slots)) × (l.i < length l.slots) × (length l.page ≡ l.p)

abbrev pub decreases-loop-i : goal.decreases-loop-i
decreases-loop-i l = length l.slots - l.i
