-- `has_drop` tells whether an entry drops its page.
use Rattle.flash.proofs.Kit.{refl, ◌<◌, arith, eqb, length, get_or}
use Rattle.flash.specs.Lists.{any}
use Rattle.flash.proofs.Comparisons.{eqb_swap}
use Rattle.flash.proofs.Loops.{any-more}
use Rattle.split.specs.OneToOne.{dropped}
use Rattle.split.proofs.drops.has_drop.Goals as goal

pub loop-entry-init : goal.loop-entry-init
unfolding any
loop-entry-init c = refl

pub loop-entry-preserved : goal.loop-entry-preserved
loop-entry-preserved c =
    let list = c.args.list.now in
    let k = c.loop-entry.entry-index in
    let inside : k < length list = omega arith in
    rw (any-more (eqb dropped) list k inside, ← c.loop-entry.invariant, eqb_swap dropped (get_or list k 0))
