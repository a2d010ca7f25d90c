-- `is_filled` meets its contract: the gathered bits are 0 while each byte is the value.
use Rattle.flash.proofs.Kit.{◌≡◌, ◌≤◌, ◌-◌, eqb, length, take}
use Rattle.flash.specs.Lists.{all}
use Rattle.flash.proofs.bytes.is_filled.Given as goal

-- no bit differs while each byte before i is the value
abbrev pub invariant-loop-byte : goal.invariant-loop-byte
invariant-loop-byte l =
    (eqb l.different 0 ≡ all (λ byte. eqb byte l.value) (take l.byte-index l.bytes))
