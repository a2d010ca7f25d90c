-- `put` copies numbers that fit into a list or into bytes.
use Rattle.flash.proofs.Kit.{◌≡◌, map, take}
use Rattle.listing.proofs.fit.put.Given as goal

abbrev pub invariant-loop-i : goal.invariant-loop-i
invariant-loop-i g l = take l.i l.cells ≡ map g.T.Cell.of (take l.i l.numbers)
