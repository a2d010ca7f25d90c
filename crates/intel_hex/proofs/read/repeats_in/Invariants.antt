-- `repeats_in` looks for repeated bytes in one span.
use Rattle.flash.proofs.Kit.{◌-◌, length}
use Rattle.intel_hex.proofs.LookLaws.{Looking}
use Rattle.intel_hex.proofs.read.repeats_in.Given as goal

abbrev pub invariant-loop-at : goal.invariant-loop-at
invariant-loop-at l = Looking l.text.codes.now l.found l.w l.words l.at l.upper

abbrev pub decreases-loop-at : goal.decreases-loop-at
decreases-loop-at l = length l.text.codes.now - l.at
