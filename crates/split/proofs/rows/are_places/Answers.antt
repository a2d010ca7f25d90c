-- `are_places` tells whether each number is a place of the table.
use Rattle.flash.proofs.Kit.{refl, ◌<◌, arith, ltb, length}
use Rattle.flash.specs.Lists.{all}
use Rattle.flash.proofs.Loops.{all_more}
use Rattle.split.proofs.rows.are_places.Goals as goal

pub loop-number-init : goal.loop-number-init
unfolding all
loop-number-init c = refl

pub loop-number-preserved : goal.loop-number-preserved
loop-number-preserved c =
    let list = c.args.list.now in
    let k = c.loop-number.number-index in
    let inside : k < length list = omega arith in
    rw (all_more (λ number. ltb number 4096) list k inside, ← c.loop-number.invariant, ← c.from.ensures)
