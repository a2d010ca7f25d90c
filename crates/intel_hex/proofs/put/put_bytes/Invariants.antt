-- `put_bytes` leaves the bytes that digits spell in a part.
use Rattle.flash.proofs.Kit.{◌≡◌, ◌++◌, take, drop, length}
use Rattle.intel_hex.specs.inner.Lines.{bytes_from}
use Rattle.intel_hex.proofs.put.put_bytes.Given as goal

abbrev pub invariant-loop-i : goal.invariant-loop-i
invariant-loop-i l = l.part ≡ take l.i (bytes_from l.text l.from (length l.initial.part)) ++ drop l.i l.initial.part
