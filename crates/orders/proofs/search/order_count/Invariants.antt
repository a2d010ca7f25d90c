-- `order_count` multiplies the numbers up to n.
use Rattle.flash.proofs.Kit.{◌≡◌}
use Rattle.orders.specs.Dictionary.{factorial}
use Rattle.orders.proofs.search.order_count.Given as goal

abbrev pub invariant-loop-i : goal.invariant-loop-i
invariant-loop-i l = l.count ≡ factorial l.i
