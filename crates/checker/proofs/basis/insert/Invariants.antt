-- `insert` goes from lowest bit to lowest bit, until a row is empty or nothing is left.
use Rattle.flash.proofs.Kit.{◌≡◌, ◌-◌, ◌<◌, ◌^◌}
use Rattle.checker.specs.inner.Elimination.{lowest_bit, inserted}
use Rattle.checker.proofs.basis.insert.Given as goal

-- no row has changed, and what is left of the mask goes where the mask goes
abbrev pub invariant-loop-rest : goal.invariant-loop-rest
invariant-loop-rest l = (l.basis ≡ l.initial.basis) × (l.rest < 2 ^ 64) × (inserted 0 l.initial.basis l.mask ≡ inserted 0 l.basis l.rest)

-- the lowest bit rises
abbrev pub decreases-loop-rest : goal.decreases-loop-rest
decreases-loop-rest l = 64 - lowest_bit l.rest
