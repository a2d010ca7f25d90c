-- `places_of` tells where the blocks of an order stand, if it is one.
use Rattle.orders.proofs.PlacingLaws.{Placing}
use Rattle.orders.proofs.places.places_of.Given as goal

abbrev pub invariant-loop-i : goal.invariant-loop-i
invariant-loop-i l = Placing l.n l.order l.i l.places
