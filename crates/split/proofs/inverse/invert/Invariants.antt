-- `invert` leaves the inverse of a row.
use Rattle.flash.proofs.Kit.{◌≡◌, length}
use Rattle.split.proofs.InverseLaws.{Back}
use Rattle.split.proofs.inverse.invert.Given as goal

abbrev pub invariant-loop-set : goal.invariant-loop-set
invariant-loop-set l = Back l.fn.row l.inverse l.set × (length l.inverse ≡ 64)
