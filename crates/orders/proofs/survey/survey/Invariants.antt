-- `survey` keeps the highest place, and the first page that goes back to it.
use Rattle.orders.specs.inner.Places.{Surveyed}
use Rattle.orders.proofs.survey.survey.Given as goal

abbrev pub invariant-loop-k : goal.invariant-loop-k
invariant-loop-k l = Surveyed l.m l.list l.places l.k l.found
