-- `put_order` writes the blocks from the last place on.
use Rattle.flash.proofs.Kit.{◌≡◌, ◌-◌, ◌/◌, length, drop}
use Rattle.orders.specs.Dictionary.{factorial}
use Rattle.orders.specs.inner.Search.{order_by}
use Rattle.orders.proofs.search.put_order.Given as goal

-- the places from i on are written, and what is left of the number is for those before
abbrev pub invariant-loop-i : goal.invariant-loop-i
invariant-loop-i l =
    (drop l.i l.order ≡ order_by (length l.initial.order - l.i) l.k) × (l.rest ≡ l.k / factorial (length l.initial.order - l.i))
