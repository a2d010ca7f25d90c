-- `raised` counts the block that is left out.
use Rattle.flash.proofs.Kit.{le-leb, lt-leb}
use Rattle.orders.specs.Dictionary.{leaving}
use Rattle.orders.proofs.search.raised.Goals as goal

pub returns-then-left-block : goal.returns-then-left-block
unfolding leaving
returns-then-left-block c = rw (le-leb _ _ c.if-left-block.true)

pub returns-else-left-block : goal.returns-else-left-block
unfolding leaving
returns-else-left-block c = rw (lt-leb _ _ c.if-left-block.false)
