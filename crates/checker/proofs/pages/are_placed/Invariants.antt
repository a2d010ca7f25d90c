-- `are_placed` looks for each original where the list sends it.
use Rattle.flash.proofs.Kit.{◌≡◌, ℕ, true, ◌^◌, ◌<◌, get_or, eqb}
use Rattle.flash.specs.Geometry.{slot_of}
use Rattle.checker.proofs.pages.are_placed.Given as goal

-- those that are passed lie there
abbrev pub invariant-loop-k : goal.invariant-loop-k
invariant-loop-k l = (j : ℕ) → j < l.k → eqb (get_or l.pages (slot_of l.m (get_or l.list j 0)) 0) (2 ^ j) ≡ true
