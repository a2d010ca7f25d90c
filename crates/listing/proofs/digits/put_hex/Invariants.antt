-- `put_hex` prints a byte as two hexadecimal digits.
use Rattle.flash.proofs.Kit.{length, take, ◌≡◌}
use Rattle.flash.specs.Lists.{concat_map}
use Rattle.listing.specs.Digits.{small, hex}
use Rattle.listing.specs.Lines.{Printed}
use Rattle.listing.proofs.digits.put_hex.Given as goal

abbrev pub invariant-loop-byte : goal.invariant-loop-byte
invariant-loop-byte l = Printed (concat_map (hex small) (take l.byte-index l.bytes)) l.initial.out l.at l.out l.next × (length l.out ≡ length l.initial.out)
