-- `others` counts the codes that are no digit.
use Rattle.flash.proofs.Kit.{◌≡◌}
use Rattle.intel_hex.specs.inner.Lines.{others_from}
use Rattle.intel_hex.proofs.codes.others.Given as goal

abbrev pub invariant-loop-i : goal.invariant-loop-i
invariant-loop-i l = l.count ≡ others_from l.text l.from l.i
