-- `mark_sends` marks the bit of each page that is kept.
use Rattle.orders.specs.inner.Table.{Sends}
use Rattle.orders.proofs.table.mark_sends.Given as goal

abbrev pub invariant-loop-k : goal.invariant-loop-k
invariant-loop-k l = Sends l.m l.list l.k l.table
