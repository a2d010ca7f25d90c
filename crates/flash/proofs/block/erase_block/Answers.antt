-- `erase_block` erases the block's bytes and its marks.
use Rattle.flash.specs.Chip.{erase_block}
use Rattle.flash.proofs.Chips.{chip-eq}
use Rattle.flash.proofs.block.erase_block.Goals as goal

pub returns : goal.returns
unfolding erase_block
returns c = chip-eq c.erase_part.ensures c.erase_part-2.ensures
