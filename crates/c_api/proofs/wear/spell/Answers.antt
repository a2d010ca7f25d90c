-- `spell` writes the four bytes of a counter.
use Rattle.flash.proofs.Kit.{◌∙◌}
use Rattle.c_api.specs.Wear.{spelling}
use Rattle.c_api.proofs.wear.spell.Goals as goal

pub returns : goal.returns
unfolding spelling
returns c = c.copy_from_slice.ensures.after ∙ c.to_le_bytes.ensures
