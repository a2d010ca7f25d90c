-- `total` sums the bytes that digits spell.
use Rattle.flash.proofs.Kit.{◌≡◌, ◌*◌, ◌≤◌}
use Rattle.intel_hex.specs.inner.Lines.{weight_from}
use Rattle.intel_hex.proofs.codes.total.Given as goal

abbrev pub invariant-loop-i : goal.invariant-loop-i
invariant-loop-i l = (l.sum ≡ weight_from l.text l.from l.i) × (l.sum ≤ 255 * l.i)
