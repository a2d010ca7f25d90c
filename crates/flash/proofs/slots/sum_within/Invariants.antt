-- `sum_within` leaves the sum of up to four pages of the store in another page of it, from a byte on.
use Rattle.flash.proofs.Kit.{◌≡◌, List, ◌++◌, ℕ, ◌-◌, ◌≤◌, length, take, drop}
use Rattle.flash.specs.Lists.{part, set_part}
use Rattle.flash.specs.inner.Terms.{passed}
use Rattle.flash.proofs.slots.sum_within.Given as goal

-- a page whose bytes from an index on are those of another
abbrev pub joined : (from : ℕ) (page new : List ℕ) → List ℕ
joined from page new = take from page ++ drop from new

-- the bytes of the slot before i are as they are to be, and all others are as they were
abbrev pub invariant-loop-i : goal.invariant-loop-i
invariant-loop-i l =
    (l.store ≡ set_part l.p l.to l.initial.store (take l.i (joined l.from (part l.p l.to l.initial.store) (passed l.initial.store l.p l.terms l.add (part l.p l.to l.initial.store))) ++ drop l.i (part l.p l.to l.initial.store))) × (length l.store ≡ length l.initial.store)
