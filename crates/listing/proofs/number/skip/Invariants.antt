-- `skip` finds the next byte that is no separator.
use Rattle.flash.proofs.Kit.{◌≡◌, drop}
use Rattle.listing.specs.Numbers.{numbers_in}
use Rattle.listing.proofs.number.skip.Given as goal

abbrev pub invariant-loop-at : goal.invariant-loop-at
invariant-loop-at l = numbers_in (drop l.at l.text) ≡ numbers_in (drop l.from l.text)
