-- `highest_of` takes the counters block by block.
use Rattle.flash.proofs.Kit.{◌≡◌}
use Rattle.flash.specs.Wear.{noted_up_to}
use Rattle.flash.specs.inner.Unpaired.{unpaired}
use Rattle.flash.proofs.wear.highest_of.Given as goal

abbrev pub invariant-loop-count : goal.invariant-loop-count
invariant-loop-count l = l.highest ≡ (noted_up_to l.count-index (unpaired l.counters)).highest
