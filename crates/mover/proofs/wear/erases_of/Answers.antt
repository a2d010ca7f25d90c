-- `erases_of` tells how often a whole move erases a block.
use Rattle.method.specs.Worn.{erases_of}
use Rattle.mover.proofs.wear.erases_of.Goals as goal

pub returns-then-block-n : goal.returns-then-block-n
unfolding erases_of
returns-then-block-n c = rw c.if-block-n.true

pub returns-else-block-n : goal.returns-else-block-n
unfolding erases_of
returns-else-block-n c = rw c.if-block-n.false
