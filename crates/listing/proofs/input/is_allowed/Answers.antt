-- `is_allowed` tests the program's own limits of the sizes.
use Rattle.flash.specs.Geometry.{is_letter}
use Rattle.listing.specs.Input.{is_allowed}
use Rattle.flash.proofs.Kit.{rules}
use Rattle.listing.proofs.input.is_allowed.Goals as goal

pub returns : goal.returns
unfolding is_allowed is_letter
returns c = search rules
