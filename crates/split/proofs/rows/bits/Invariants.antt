-- `bits` gathers the bits of the bytes: the two masks together have those of the bytes so far.
use Rattle.flash.proofs.Kit.{◌+◌, ◌*◌, ◌/◌, length, bit_or}
use Rattle.split.specs.inner.Rows.{Bits}
use Rattle.split.proofs.rows.bits.Given as goal

abbrev pub invariant-loop-first : goal.invariant-loop-first
invariant-loop-first l = Bits l.bytes 0 (l.first-index * 2) (bit_or l.one l.two)

abbrev pub invariant-loop-byte : goal.invariant-loop-byte
invariant-loop-byte l = Bits l.bytes 0 (length l.bytes / 2 * 2 + l.byte-index) (bit_or l.one l.two)
