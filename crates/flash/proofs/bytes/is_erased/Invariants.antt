-- `is_erased` meets its contract: all bits are in common while each byte is 255.
use Rattle.flash.proofs.Kit.{◌≡◌, ◌≤◌, ◌<◌, ◌-◌, eqb, length, take}
use Rattle.flash.specs.Lists.{all}
use Rattle.flash.proofs.bytes.is_erased.Given as goal

abbrev pub invariant-loop-byte : goal.invariant-loop-byte
invariant-loop-byte l =
    (l.common < 256) × (eqb l.common 255 ≡ all (λ byte. eqb byte 255) (take l.byte-index l.bytes))
