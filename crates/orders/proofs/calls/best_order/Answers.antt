-- `best_order` looks for a refusal, then for the best order, and asks for its y and page.
use Rattle.std.proofs.lemmas.Result.{err_from_is_err_and}
use Rattle.flash.proofs.Kit.{refl, sym, ap, ◌∙◌, ℕ, arith}
use Rattle.flash.proofs.Refused.{some-number}
use Rattle.orders.specs.Dictionary.{order_at}
use Rattle.orders.specs.inner.Calls.{least_as}
use Rattle.orders.proofs.RowLaws.{passed, surveyable, best-refused}
use Rattle.orders.proofs.FoundLaws.{best-answered}
use Rattle.orders.proofs.calls.best_order.Goals as goal

pub returns-in_err-list_refusal : goal.returns-in_err-list_refusal
returns-in_err-list_refusal c =
    let p = err_from_is_err_and c.from_residual.result c.from_residual.ensures.1 in
    let e = c.in_err-list_refusal.ensures in
    rw (p.1, p.2) (best-refused _ _ _ _ _ e (λ z. absurd (omega (arith, some-number c.in_err-list_refusal.field-0.0))))

pub mark_sends-requires : goal.mark_sends-requires
mark_sends-requires c =
    let P = passed _ _ _ _ _ (sym c.in_ok-list_refusal.ensures) in
    (surveyable _ _ _ 7 _ _ P P.n-most, refl)

pub best_number-k-requires : goal.best_number-k-requires
best_number-k-requires c =
    let P = passed _ _ _ _ _ (sym c.in_ok-list_refusal.ensures) in
    (P.n-low, P.n-most, c.mark_sends.ensures.size)

pub put_order-requires : goal.put_order-requires
put_order-requires c =
    let P = passed _ _ _ _ _ (sym c.in_ok-list_refusal.ensures) in
    (omega (arith, P.order-size, P.n-most), rw P.order-size c.best_number-k.ensures.high)

pub returns : goal.returns
returns c =
    let a = c.args in
    let rows = sym c.in_ok-list_refusal.ensures in
    let P = passed a.n a.m 7 a.list.now a.order.now rows in
    best-answered a.n a.m a.list.now a.order.now _ rows
    c.mark_sends.ensures c.best_number-k.result c.best_number-k.ensures _
    (c.put_order.ensures ∙ ap (λ (x : ℕ). order_at x c.best_number-k.result) P.order-size) (least_as c.least_y.result) c.least_y.ensures
