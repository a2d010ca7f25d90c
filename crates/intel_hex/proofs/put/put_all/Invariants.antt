-- `put_all` puts every byte where it goes.
use Rattle.flash.proofs.Kit.{◌≡◌, ◌-◌, length}
use Rattle.intel_hex.proofs.PlacingLaws.{Placing}
use Rattle.intel_hex.proofs.put.put_all.Given as goal

abbrev pub invariant-loop-at : goal.invariant-loop-at
invariant-loop-at l = Placing l.text.codes.now l.found l.image l.at l.upper × (length l.image ≡ l.found.size)

abbrev pub decreases-loop-at : goal.decreases-loop-at
decreases-loop-at l = length l.text.codes.now - l.at
