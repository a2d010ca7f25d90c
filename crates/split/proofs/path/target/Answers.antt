-- `target` gives the destination block of a page, from 0.
use Rattle.flash.proofs.Kit.{arith, ◌∙◌}
use Rattle.split.specs.Split.{dest_block}
use Rattle.split.specs.Rule.{block_at}
use Rattle.split.proofs.path.target.Goals as goal

pub returns : goal.returns
unfolding block_at dest_block
returns c = c.block_of.ensures ∙ omega arith
