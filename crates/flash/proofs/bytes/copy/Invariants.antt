-- `copy` leaves in one part the bytes of another.
use Rattle.flash.proofs.Kit.{◌≡◌, ◌++◌, take, drop}
use Rattle.flash.proofs.bytes.copy.Given as goal

abbrev pub invariant-loop-i : goal.invariant-loop-i
invariant-loop-i l = l.target ≡ take l.i l.source ++ drop l.i l.initial.target
