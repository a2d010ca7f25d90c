-- `spelled` reads the word at a position as a number of at most five digits.
use Rattle.flash.proofs.Kit.{◌+◌, ◌≤◌}
use Rattle.listing.proofs.NumberLaws.{Spelling}
use Rattle.listing.proofs.number.spelled.Given as goal

abbrev pub invariant-loop-at : goal.invariant-loop-at
invariant-loop-at l = Spelling l.text l.start l.at l.value × (l.at ≤ l.start + 5)
