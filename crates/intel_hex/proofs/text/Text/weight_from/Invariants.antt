-- `weight_from` gives what some bytes weigh.
use Rattle.flash.proofs.Kit.{◌≡◌}
use Rattle.intel_hex.specs.inner.Lines.{weight_from}
use Rattle.intel_hex.proofs.text.Text.weight_from.Given as goal

abbrev pub invariant-loop-i : goal.invariant-loop-i
invariant-loop-i l = l.sum ≡ weight_from l.self.codes.now l.from l.i
