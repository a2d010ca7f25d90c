-- `y_by` looks for the highest place that is sent to, from the last on.
use Rattle.flash.proofs.Kit.{◌≡◌, ◌-◌}
use Rattle.flash.specs.Lists.{down_from, first}
use Rattle.orders.specs.inner.Table.{is_sent, y_by}
use Rattle.orders.proofs.table.y_by.Given as goal

abbrev pub invariant-loop-i : goal.invariant-loop-i
invariant-loop-i l = y_by l.table l.order ≡ first (is_sent l.table l.order) (down_from (l.i - 1)) 0
