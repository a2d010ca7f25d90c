-- `best_number` keeps the first of the least so far.
use Rattle.orders.specs.Dictionary.{order_at}
use Rattle.orders.specs.inner.Table.{y_by}
use Rattle.orders.specs.inner.Search.{Searching}
use Rattle.orders.proofs.search.best_number.Given as goal

abbrev pub invariant-loop-k : goal.invariant-loop-k
invariant-loop-k l = Searching (λ x. y_by l.table (order_at l.n x)) l.n l.k l.at l.best
