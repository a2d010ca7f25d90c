-- `lowest_with` stops at the first block that has the count, which is that of the pair.
use Rattle.flash.proofs.Kit.{◌-◌, ◌≤◌, ◌<◌}
use Rattle.flash.specs.Wear.{refreshed}
use Rattle.flash.specs.inner.Unpaired.{unpaired}
use Rattle.flash.proofs.wear.lowest_with.Given as goal

abbrev pub invariant-loop-block : goal.invariant-loop-block
invariant-loop-block l = l.block ≤ (refreshed (unpaired l.counters)).block
