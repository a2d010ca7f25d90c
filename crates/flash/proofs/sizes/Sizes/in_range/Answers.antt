-- `in_range` meets its contract.
use Rattle.flash.proofs.Kit.{rules}
use Rattle.flash.specs.Geometry.{in_range, is_letter}
use Rattle.flash.proofs.sizes.Sizes.in_range.Goals as goal

pub returns : goal.returns
unfolding in_range is_letter
returns c = search rules
