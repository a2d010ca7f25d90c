-- `fill` reads numbers into the area until it is full or the input has no further number.
use Rattle.flash.proofs.Kit.{◌≡◌, [], ◌++◌, ◌-◌, length, take, drop}
use Rattle.listing.specs.Numbers.{numbers_in, taken, numbers_met}
use Rattle.listing.proofs.input.fill.Given as goal

abbrev pub invariant-loop-cell : goal.invariant-loop-cell
invariant-loop-cell l =
    (taken [] (length l.initial.area) (numbers_in (drop l.from l.text))
    ≡ taken (take l.cell-index l.area) (length l.initial.area - l.cell-index) (numbers_in (drop l.at l.text)))
    × (numbers_met (length l.initial.area) (numbers_in (drop l.from l.text))
    ≡ take l.cell-index l.area ++ numbers_met (length l.initial.area - l.cell-index) (numbers_in (drop l.at l.text)))
    × (drop l.cell-index l.area ≡ drop l.cell-index l.initial.area)
