-- The theorems about the two answers.
use Rattle.flash.proofs.Kit.{◌≡◌, refl, sym, ap, ◌∙◌, subst, ◌≢◌, ⊎_elim, true, false, List, [], ◌∷◌, ℕ, ◌≤◌, ◌<◌, arith, eqb, get_or, eqb-true, eqb-false}
use Rattle.flash.specs.Tables.{refusal, before as standing, First}
use Rattle.flash.proofs.Bools.{bool_cases}
use Rattle.flash.proofs.Comparisons.{eq-cases, lt-cases}
use Rattle.flash.proofs.Tables.{first-returned}
use Rattle.orders.specs.Orders.{least_y, forbidding_page}
use Rattle.orders.specs.Dictionary.{factorial, order_at}
use Rattle.orders.specs.Answer.{list_rows, least_rows, best_rows, least_answer, best_answer}
use Rattle.orders.specs.Claims.{IsOrder, Precedes, LeastGiven, Best, BestGiven, NumbersInOrder}
use Rattle.orders.specs.inner.Search.{FirstLeast}
use Rattle.orders.proofs.LeastLaws.{least-given}
use Rattle.orders.proofs.OrderLaws.{good-order}
use Rattle.orders.proofs.DictionaryLaws.{factorial-some, each-order, every-order, rising-orders}
use Rattle.orders.proofs.BestLaws.{best-is, least-exists}
use Rattle.orders.proofs.RowLaws.{Passed, passed, passed-rows, passed-other, least-done, best-done}

pub least-claim : LeastGiven
unfolding LeastGiven least_answer
least-claim n m list order h = ⊎_elim
    (λ (e : eqb (refusal (least_rows n m list order)) 0 ≡ true). rw e (least-given n m list order))
    (λ (e : eqb (refusal (least_rows n m list order)) 0 ≡ false). absurd (eqb-false (refusal (least_rows n m list order)) 0 e (rw e at h)))
    (bool_cases (eqb (refusal (least_rows n m list order)) 0))

-- one of two orders comes first
precedes-once : (n : ℕ) (one other : List ℕ) → Precedes n one other → Precedes n other one → ⊥
precedes-once n one other P Q = ⊎_elim
    (λ (l : P.place < Q.place). absurd (omega (arith, P.smaller, Q.same P.place l)))
    (λ (l : Q.place ≤ P.place). ⊎_elim
    (λ (e : Q.place ≡ P.place). absurd (omega (arith, P.smaller, subst (λ (i : ℕ). get_or other i 0 < get_or one i 0) e Q.smaller)))
    (λ (ne : Q.place ≢ P.place). absurd (omega (arith, Q.smaller, P.same Q.place (omega (arith, ne)))))
    (eq-cases Q.place P.place))
    (lt-cases P.place Q.place)

module _ (n m : ℕ) (list order : List ℕ) (P : Passed n m 7 list order) where
  -- what the call gives for another order
  y_of : (other : List ℕ) → IsOrder n other → (least_answer n m list other).y ≡ least_y n m list other
  y_of other O =
      let rows = passed-rows n m 64 list other (passed-other n m 7 64 list order other P P.n-high O.size) in
      rw (← least-done n m list other rows (good-order n other O))

  module _ (at : ℕ) (F : FirstLeast (λ k. least_y n m list (order_at n k)) (factorial n) at) where
    -- an order that precedes the one found has a lower number
    before : (other : List ℕ) (k : ℕ) → k < factorial n → order_at n k ≡ other → Precedes n other (order_at n at) → k < at
    before other k h e Q = ⊎_elim
        (λ (l : k < at). l)
        (λ (l : at ≤ k). ⊎_elim
        (λ (q : at ≡ k).
        let S = subst (Precedes n other) (ap (order_at n) q ∙ e) Q in
        absurd (precedes-once n other other S S))
        (λ (q : at ≢ k).
        absurd (precedes-once n other (order_at n at) Q (subst (Precedes n (order_at n at)) e (rising-orders n at k (omega (arith, q)) h))))
        (eq-cases at k))
        (lt-cases k at)

    best_of : Best n m list (order_at n at) (least_y n m list (order_at n at)) (forbidding_page n m list (order_at n at))
    best_of = record {
      order_is = each-order n at F.high;
      least = least-given n m list (order_at n at);
      best = λ other O.
          let k = every-order n other O in
          rw (y_of other O, ← k.2) (F.least k.0 k.1);
      first = λ other O Q.
          let k = every-order n other O in
          rw (y_of other O, ← k.2) (F.first k.0 (before other k.0 k.1 k.2 Q));
    }

    best-claimed : Best n m list (best_answer n m list order).order (best_answer n m list order).y (best_answer n m list order).page
    best-claimed = rw (← best-done n m list order (passed-rows n m 7 list order P), best-is n m list at F) best_of

best-number-is : (n m : ℕ) (list order : List ℕ) → (best_answer n m list order).number ≡ refusal (best_rows n m list order)
unfolding best_answer
best-number-is n m list order = ⊎_elim
    (λ (e : eqb (refusal (best_rows n m list order)) 0 ≡ true). rw e (sym (eqb-true _ 0 e)))
    (λ (e : eqb (refusal (best_rows n m list order)) 0 ≡ false). rw e)
    (bool_cases (eqb (refusal (best_rows n m list order)) 0))

best-rows : (n m : ℕ) (list order : List ℕ) → (best_answer n m list order).number ≡ 0 → refusal (list_rows n m 7 list order) ≡ 0
unfolding best_rows
best-rows n m list order h = sym (best-number-is n m list order) ∙ h

pub best-claim : BestGiven
unfolding BestGiven
best-claim n m list order h =
    let rows = best-rows n m list order h in
    let L = least-exists (λ k. least_y n m list (order_at n k)) (factorial n) (factorial-some n) in
    best-claimed n m list order (passed n m 7 list order rows) L.0 L.1

-- ---- the numbers
module _ (n m : ℕ) (list order : List ℕ) where
  least_first : First (1 ∷ 16 ∷ 2 ∷ 3 ∷ 17 ∷ []) (least_rows n m list order) (refusal (least_rows n m list order))
  unfolding least_rows list_rows standing
  least_first = first-returned (1 ∷ 16 ∷ 2 ∷ 3 ∷ 17 ∷ []) (least_rows n m list order) 0 refl

  best-first : First (1 ∷ 16 ∷ 2 ∷ 3 ∷ []) (best_rows n m list order) (refusal (best_rows n m list order))
  unfolding best_rows list_rows standing
  best-first = first-returned (1 ∷ 16 ∷ 2 ∷ 3 ∷ []) (best_rows n m list order) 0 refl

  least-number-is : (least_answer n m list order).number ≡ refusal (least_rows n m list order)
  unfolding least_answer
  least-number-is = ⊎_elim
      (λ (e : eqb (refusal (least_rows n m list order)) 0 ≡ true). rw e (sym (eqb-true _ 0 e)))
      (λ (e : eqb (refusal (least_rows n m list order)) 0 ≡ false). rw e)
      (bool_cases (eqb (refusal (least_rows n m list order)) 0))

pub numbers-in-order : NumbersInOrder
numbers-in-order = record {
  least = λ n m list order. rw (least-number-is n m list order) (least_first n m list order);
  best = λ n m list order. rw (best-number-is n m list order) (best-first n m list order);
}
