-- `position` meets its contract: what is gathered is the one position, once it is met.
use Rattle.flash.proofs.Kit.{◌≤◌, ◌-◌, length}
use Rattle.flash.proofs.Loops.{Placed}
use Rattle.flash.proofs.bytes.position.Given as goal

abbrev pub invariant-loop-i : goal.invariant-loop-i
invariant-loop-i l = Placed l.bytes l.value l.found l.i
