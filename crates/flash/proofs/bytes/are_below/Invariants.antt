-- `are_below` meets its contract: the bits that are gathered tell whether each byte so far is below the limit.
use Rattle.flash.proofs.Kit.{◌≡◌, ◌≤◌, ◌-◌, ltb, length, take}
use Rattle.flash.specs.Lists.{all}
use Rattle.flash.proofs.bytes.are_below.Given as goal

abbrev pub invariant-loop-byte : goal.invariant-loop-byte
invariant-loop-byte l = (ltb l.bits l.limit ≡ all (λ byte. ltb byte l.limit) (take l.byte-index l.bytes))
