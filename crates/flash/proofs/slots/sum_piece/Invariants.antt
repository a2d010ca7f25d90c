-- `sum_piece` leaves a piece of the sum of up to four pages of the store in a part outside it.
use Rattle.flash.proofs.Kit.{◌≡◌, cond, List, [], ◌++◌, ℕ, ◌-◌, ◌≤◌, length, take, drop}
use Rattle.flash.specs.PageSum.{◌⊕◌}
use Rattle.flash.specs.declared.slots.Terms.{Terms}
use Rattle.flash.specs.inner.Terms.{sum_of}
use Rattle.flash.proofs.slots.sum_piece.Given as goal

-- the piece of the sum that is due
abbrev pub due : (store : List ℕ) (p : ℕ) (terms : Terms) (at size : ℕ) → List ℕ
due store p terms at size = take size (drop at (sum_of store p terms))

-- the bytes before j are those of the sum, and those from j on are as they were
abbrev pub invariant-loop-j : goal.invariant-loop-j
invariant-loop-j l =
    l.piece ≡ take l.j (cond l.add l.initial.piece [] ⊕ due l.store l.p l.terms l.at (length l.initial.piece)) ++ drop l.j l.initial.piece
