-- `has_drop` tells whether an entry drops its page.
use Rattle.flash.proofs.Kit.{◌≡◌, eqb, take}
use Rattle.flash.specs.Lists.{any}
use Rattle.split.specs.OneToOne.{dropped}
use Rattle.split.proofs.drops.has_drop.Given as goal

abbrev pub invariant-loop-entry : goal.invariant-loop-entry
invariant-loop-entry l = l.found ≡ any (eqb dropped) (take l.entry-index l.list)
