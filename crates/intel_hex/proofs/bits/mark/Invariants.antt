-- `mark` sets bits, and stops at one that was set.
use Rattle.intel_hex.proofs.BitLaws.{Marking}
use Rattle.intel_hex.proofs.bits.mark.Given as goal

abbrev pub invariant-loop-i : goal.invariant-loop-i
invariant-loop-i l = Marking l.initial.words l.from l.i l.words
