-- `rise` raises the counter of its block, and keeps the pair.
use Rattle.flash.proofs.Kit.{sym, ◌∙◌}
use Rattle.flash.specs.Wear.{counter_at}
use Rattle.flash.proofs.CounterLaws.{rose-new, rose-old}
use Rattle.flash.proofs.wear.Wear.rise.Goals as goal

pub returns-then-replaces : goal.returns-then-replaces
unfolding counter_at
returns-then-replaces c =
    rose-new _ _ _ c.raised-count.ensures (sym c.replaces.ensures ∙ c.if-replaces.true)

pub returns-else-replaces : goal.returns-else-replaces
unfolding counter_at
returns-else-replaces c =
    rose-old _ _ _ c.raised-count.ensures (sym c.replaces.ensures ∙ c.if-replaces.false)
