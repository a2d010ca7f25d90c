-- `read_number` reads digits up to the first byte that is none.
use Rattle.flash.proofs.Kit.{◌≡◌, ◌+◌}
use Rattle.checker.proofs.TextLaws.{Reading}
use Rattle.checker.proofs.number.read_number.Given as goal

abbrev pub invariant-loop-byte : goal.invariant-loop-byte
invariant-loop-byte l = (l.next ≡ l.at + l.byte-index) × Reading l.text l.at l.next l.value
