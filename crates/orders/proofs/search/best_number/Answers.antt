-- `best_number` keeps the first of the least so far.
use Rattle.flash.proofs.Kit.{◌≡◌, subst, ℕ, arith}
use Rattle.orders.specs.Dictionary.{factorial, order_at}
use Rattle.orders.specs.inner.Table.{y_by}
use Rattle.orders.specs.inner.Search.{FirstLeast}
use Rattle.orders.proofs.DictionaryLaws.{factorial-some, order-length}
use Rattle.orders.proofs.TableLaws.{y-below}
use Rattle.orders.proofs.BestLaws.{searched-better, searched-other, all-searched}
use Rattle.orders.proofs.search.best_number.Goals as goal
use Rattle.orders.proofs.search.best_number.Goals.{else-y-best, then-y-best}

pub loop-k-preserved : goal.loop-k-preserved
loop-k-preserved c =
    let l = c.loop-k in
    let f : ℕ → ℕ = λ x. y_by c.args.table.now (order_at c.args.n x) in
    let n = c.args.n in
    let y = c.y_of-y.ensures in
    let small = y-below c.args.table.now (order_at n l.k) n (order-length n l.k) c.requires.0 in
    elim c.if-y-best.branch [
      | then-y-best w ↦
          rw (w.best-is, w.at-is, y) (searched-better f n l.k l.at l.best l.invariant (omega (arith, w.if-y-best.true)))
      | else-y-best w ↦
          rw (w.best-is, w.at-is) (searched-other f n l.k l.at l.best l.invariant (omega (arith, w.if-y-best.false)) small)
    ]

pub returns : goal.returns
returns c =
    let l = c.loop-k in
    let e : l.k ≡ factorial c.args.n = omega (arith, c.loop-k-test.false, c.order_count-count.ensures) in
    subst (λ count. FirstLeast (λ x. y_by c.args.table.now (order_at c.args.n x)) count l.at) e
    (all-searched _ _ l.k l.at l.best l.invariant (omega (arith, e, factorial-some c.args.n)))
