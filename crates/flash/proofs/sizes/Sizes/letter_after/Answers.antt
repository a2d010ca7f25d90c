-- `letter_after` meets its contract.
use Rattle.flash.proofs.Kit.{rules}
use Rattle.flash.specs.Geometry.{letter}
use Rattle.flash.proofs.sizes.Sizes.letter_after.Goals as goal

pub returns : goal.returns
unfolding letter
returns c = search rules
