-- What the search answers once no row applies.
use Rattle.flash.proofs.Kit.{◌≡◌, sym, ap, ◌∙◌, List, ℕ, ◌≤◌, ◌<◌, arith, length}
use Rattle.flash.specs.Tables.{refusal}
use Rattle.orders.specs.Orders.{least_y, forbidding_page}
use Rattle.orders.specs.Dictionary.{factorial, order_at}
use Rattle.orders.specs.Answer.{list_rows, LeastAnswer, least_answer, BestAnswer, best_answer}
use Rattle.orders.specs.Claims.{IsOrder}
use Rattle.orders.specs.inner.Table.{Sends, Short, y_by}
use Rattle.orders.specs.inner.Search.{FirstLeast}
use Rattle.orders.proofs.OrderLaws.{good-order}
use Rattle.orders.proofs.DictionaryLaws.{each-order, order-length}
use Rattle.orders.proofs.TableLaws.{y-is}
use Rattle.orders.proofs.BestLaws.{best-is}
use Rattle.orders.proofs.RowLaws.{Passed, passed, passed-rows, passed-other, surveyable, least-done, best-done}

pub short-order : (n k : ℕ) → n ≤ 7 → k < factorial n → Short (order_at n k)
short-order n k h l =
    let O = each-order n k l in
    record { few = omega (arith, O.size); small = λ i g. omega (arith, O.high i (omega (arith, O.size))) }

module _ (n m : ℕ) (list lent table : List ℕ) (rows : refusal (list_rows n m 7 list lent) ≡ 0) (S : Sends m list (length list) table) where
  P : Passed n m 7 list lent
  P = passed n m 7 list lent rows

  -- the table's y is that of the definition
  y-same : (k : ℕ) → k < factorial n → y_by table (order_at n k) ≡ least_y n m list (order_at n k)
  y-same k h = y-is n m list (order_at n k) table (order-length n k) (short-order n k P.n-most h) (surveyable n m 7 7 list lent P P.n-most) P.list-size S

  module _ (at : ℕ) (F : FirstLeast (λ k. y_by table (order_at n k)) (factorial n) at) where
    least-one : FirstLeast (λ k. least_y n m list (order_at n k)) (factorial n) at
    least-one = record {
      high = F.high;
      least = λ k h. omega (arith, F.least k h, y-same at F.high, y-same k h);
      first = λ k h. (let l = F.high in omega (arith, F.first k h, y-same at F.high, y-same k (omega arith)));
    }

    pub best-answered : (order : List ℕ) → order ≡ order_at n at → (r : LeastAnswer) → r ≡ least_answer n m list order
        → ◌≡◌ {A = BestAnswer} (record { number = r.number; order = order; y = r.y; page = r.page }) (best_answer n m list lent)
    best-answered order is r e =
        let O : IsOrder n order = rw is (each-order n at F.high) in
        let rows' = passed-rows n m 64 list order (passed-other n m 7 64 list lent order P P.n-high O.size) in
        ap (λ (a : LeastAnswer). record { number = a.number; order = order; y = a.y; page = a.page }) (e ∙ sym (least-done n m list order rows' (good-order n order O)))
        ∙ ap (λ (o : List ℕ). record { number = 0; order = o; y = least_y n m list o; page = forbidding_page n m list o }) (is ∙ sym (best-is n m list at least-one))
        ∙ best-done n m list lent rows
