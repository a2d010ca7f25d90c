-- `last_place` meets its contract.
use Rattle.flash.proofs.Kit.{rules}
use Rattle.method.specs.Place.{last_place}
use Rattle.places.proofs.place.last_place.Goals as goal

pub returns : goal.returns
unfolding last_place
returns c = search rules
