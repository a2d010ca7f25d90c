-- `replaces` is its definition.
use Rattle.flash.proofs.Kit.{refl}
use Rattle.flash.specs.Wear.{replaces}
use Rattle.flash.proofs.wear.replaces.Goals as goal

pub returns : goal.returns
unfolding replaces
returns c = refl
