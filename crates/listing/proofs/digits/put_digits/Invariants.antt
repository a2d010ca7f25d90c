-- `put_digits` prints so many digits of a number, lowest first from the right, and leaves the rest of the area.
use Rattle.flash.proofs.Kit.{◌++◌, take, drop, ◌≡◌, ◌-◌, ◌≤◌}
use Rattle.listing.specs.Digits.{small, digits}
use Rattle.listing.proofs.digits.put_digits.Given as goal

abbrev pub invariant-loop-i : goal.invariant-loop-i
invariant-loop-i l =
    (take l.at l.out ≡ take l.at l.initial.out)
    × (digits small l.base (l.i - l.at) l.rest ++ drop l.i (take l.end l.out) ≡ digits small l.base l.count l.n)
    × (l.at ≤ l.i)
    × (drop l.end l.out ≡ drop l.end l.initial.out)
