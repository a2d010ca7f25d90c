-- `count_places` counts the decimal digits of a number, for the space that a printed number takes.
use Rattle.listing.specs.Digits.{places_up_to}
use Rattle.flash.proofs.Kit.{◌≡◌, ◌+◌, ◌-◌, ◌≤◌}
use Rattle.listing.proofs.digits.count_places.Given as goal

abbrev pub invariant-loop-rest : goal.invariant-loop-rest
invariant-loop-rest l = (l.count + l.rest ≤ l.n + 1) × (1 ≤ l.count) × (places_up_to l.n l.n + 1 ≡ l.count + places_up_to (l.n + 1 - l.count) l.rest)

abbrev pub decreases-loop-rest : goal.decreases-loop-rest
decreases-loop-rest l = l.rest
