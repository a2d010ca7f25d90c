-- `count_few` meets its contract: the count is that of the bytes passed, and one of 128 bytes fits a byte.
use Rattle.flash.proofs.Kit.{◌≡◌, ◌≤◌, ◌-◌, length, take}
use Rattle.flash.specs.PageSum.{written_bytes}
use Rattle.flash.proofs.bytes.count_few.Given as goal

abbrev pub invariant-loop-byte : goal.invariant-loop-byte
invariant-loop-byte l = (l.count ≡ written_bytes (take l.byte-index l.bytes)) × (l.count ≤ l.byte-index)
