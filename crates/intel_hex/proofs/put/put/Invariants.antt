-- `put` puts all bytes of a record, 16 at a time.
use Rattle.flash.proofs.Kit.{◌≡◌, ◌*◌}
use lib.Seq.{paste}
use Rattle.intel_hex.specs.inner.Lines.{bytes_from}
use Rattle.intel_hex.proofs.put.put.Given as goal

abbrev pub invariant-loop-chunk : goal.invariant-loop-chunk
invariant-loop-chunk l = l.image ≡ paste l.initial.image l.offset (bytes_from l.text l.from l.count) (l.chunk * 16)
