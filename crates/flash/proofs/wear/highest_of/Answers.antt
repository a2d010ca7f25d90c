-- `highest_of` takes the counters block by block.
use Rattle.flash.proofs.Kit.{◌≡◌, refl, ◌∙◌, arith}
use Rattle.flash.specs.Wear.{counter_at, noted_up_to, refreshed}
use Rattle.flash.proofs.CounterLaws.{highest-next}
use Rattle.flash.proofs.wear.highest_of.Goals as goal

pub loop-count-init : goal.loop-count-init
unfolding noted_up_to
loop-count-init c = refl

pub loop-count-preserved : goal.loop-count-preserved
unfolding counter_at
loop-count-preserved c = c.max-highest.ensures ∙ highest-next _ _ _ c.loop-count.invariant

pub returns : goal.returns
unfolding refreshed
returns c =
    let l = c.loop-count in
    let at : l.count-index ≡ 65 = omega arith in
    rw at at l.invariant
