-- `y_in` makes the order and asks for its y.
use Rattle.flash.proofs.Kit.{sym, ap, subst, arith, length}
use Rattle.orders.specs.inner.Table.{Short}
use Rattle.orders.proofs.DictionaryLaws.{order-length}
use Rattle.orders.proofs.FoundLaws.{short-order}
use Rattle.orders.proofs.search.y_in.Goals as goal

pub y_by-requires : goal.y_by-requires
y_by-requires c =
    let n = length c.args.order.now in
    let is = c.put_order.ensures in (
      c.requires.3,
      subst Short (sym is) (short-order n c.args.k c.requires.1 c.requires.2),
      omega (arith, ap length is, order-length n c.args.k, c.requires.0),
    )
