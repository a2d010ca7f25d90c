-- `put_data` prints all data records.
use Rattle.listing.specs.Lines.{Printed}
use Rattle.intel_hex.specs.Writing.{records_from, text_of}
use Rattle.intel_hex.proofs.write.put_data.Given as goal

abbrev pub invariant-loop-i : goal.invariant-loop-i
invariant-loop-i l = Printed (text_of (records_from l.image 0 l.i)) l.initial.text 0 l.text l.next
