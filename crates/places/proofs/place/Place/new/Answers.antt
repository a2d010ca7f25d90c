-- `Place::new` meets its contract: the turn tells the pass and the block.
use Rattle.flash.proofs.Kit.{le-leb, lt-leb}
use Rattle.places.proofs.PlaceLaws.{new-forward, turns-in, new-backward}
use Rattle.places.proofs.place.Place.new.Goals as goal

pub overflow_sub-block : goal.overflow_sub-block
overflow_sub-block c = turns-in c.args.sizes c.args.at c.requires.1

pub returns-then-backward : goal.returns-then-backward
returns-then-backward c =
    rw (le-leb _ _ c.if-backward.true) (new-backward c.args.sizes c.args.at c.requires.1 c.if-backward.true)

pub returns-else-backward : goal.returns-else-backward
returns-else-backward c = let a = c.args in rw (lt-leb _ _ c.if-backward.false) (new-forward a.sizes a.at c.if-backward.false)
