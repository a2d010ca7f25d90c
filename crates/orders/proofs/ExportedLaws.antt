-- What the calls for C need of the answers: a list of another length is refused alike whatever its entries, and the numbers are small.
use Rattle.flash.proofs.Kit.{◌≡◌, sym, ◌∙◌, ◌≢◌, ⊎_elim, Bool, true, false, cond, ◌||◌, List, ℕ, ◌*◌, ◌≤◌, arith, eqb, ltb, length, eqb-true, ne_eqb}
use Rattle.flash.specs.Tables.{refusal}
use Rattle.flash.proofs.Bools.{bool_cases}
use Rattle.flash.proofs.Comparisons.{eq-cases}
use Rattle.orders.specs.Orders.{least_y, forbidding_page}
use Rattle.orders.specs.Dictionary.{best_order}
use Rattle.orders.specs.Answer.{are_sizes, list_rows, least_rows, best_rows, LeastAnswer, least_answer, BestAnswer, best_answer}
use Rattle.orders.proofs.LeastLaws.{least-given}
use Rattle.orders.proofs.RowLaws.{few, gives-1, gives-16, gives-2, passed, least-number, least-refused, best-refused}

-- the number of a list of another length
abbrev pub other_number : (n m most : ℕ) → ℕ
other_number n m most = cond (are_sizes n m) (cond (ltb n 3 || ltb most n) 16 2) 1

one_of_three : (a b : Bool) → ◌≢◌ {A = ℕ} (cond a (cond b 16 2) 1) 0
one_of_three true true e = absurd (omega arith)
one_of_three true false e = absurd (omega arith)
one_of_three false b e = absurd (omega arith)

module _ (n m : ℕ) (list order : List ℕ) where
  other-list : (most : ℕ) → (are_sizes n m ≡ true → length list ≢ n * m) → other_number n m most ≡ refusal (list_rows n m most list order)
  other-list most differs = ⊎_elim
      (λ (a : are_sizes n m ≡ true). ⊎_elim
      (λ (b : (ltb n 3 || ltb most n) ≡ true). rw (a, b) (sym (gives-16 n m most list order a b)))
      (λ (b : (ltb n 3 || ltb most n) ≡ false). rw (a, b) (sym (gives-2 n m most list order a b (rw (ne_eqb (length list) (n * m) (differs a))))))
      (bool_cases (ltb n 3 || ltb most n)))
      (λ (a : are_sizes n m ≡ false). rw a (sym (gives-1 n m most list order a)))
      (bool_cases (are_sizes n m))

  pub least_other : (are_sizes n m ≡ true → length list ≢ n * m)
      → ◌≡◌ {A = LeastAnswer} (least_answer n m list order) (record { number = other_number n m 64; y = 0; page = 0 })
  least_other differs = sym (least-refused n m list order (other_number n m 64) (other-list 64 differs) (one_of_three (are_sizes n m) (ltb n 3 || ltb 64 n)))

  pub best-other : (are_sizes n m ≡ true → length list ≢ n * m)
      → ◌≡◌ {A = BestAnswer} (best_answer n m list order) (record { number = other_number n m 7; order = order; y = 0; page = 0 })
  best-other differs = sym (best-refused n m list order (other_number n m 7) (other-list 7 differs) (one_of_three (are_sizes n m) (ltb n 3 || ltb 7 n)))

-- ---- the numbers
module _ (n m : ℕ) (list order : List ℕ) where
  small_of : n ≤ 64 → n * m ≤ 4096 → (least_y n m list order ≤ 64) × (forbidding_page n m list order ≤ 4096)
  small_of h f =
      let L = least-given n m list order in (
        omega (arith, L.high),
        ⊎_elim
            (λ (e : least_y n m list order ≡ 0). omega (arith, L.none e))
            (λ (ne : least_y n m list order ≢ 0). omega (arith, (L.forbids ne).page))
            (eq-cases (least_y n m list order) 0),
      )

  rows-first : refusal (least_rows n m list order) ≡ 0 → refusal (list_rows n m 64 list order) ≡ 0
  rows-first e = ⊎_elim
      (λ (q : eqb (refusal (list_rows n m 64 list order)) 0 ≡ true). eqb-true (refusal (list_rows n m 64 list order)) 0 q)
      (λ (q : eqb (refusal (list_rows n m 64 list order)) 0 ≡ false). rw q at (sym (least-number n m list order) ∙ e))
      (bool_cases (eqb (refusal (list_rows n m 64 list order)) 0))

  pub least-small : ((least_answer n m list order).y ≤ 64) × ((least_answer n m list order).page ≤ 4096)
  unfolding least_answer
  least-small = ⊎_elim
      (λ (e : eqb (refusal (least_rows n m list order)) 0 ≡ true).
      let P = passed n m 64 list order (rows-first (eqb-true (refusal (least_rows n m list order)) 0 e)) in
      rw e (small_of P.n-high (few n m 64 list order P.sizes)))
      (λ (e : eqb (refusal (least_rows n m list order)) 0 ≡ false). rw e (omega arith, omega arith))
      (bool_cases (eqb (refusal (least_rows n m list order)) 0))

pub best-small : (n m : ℕ) (list order : List ℕ) → ((best_answer n m list order).y ≤ 64) × ((best_answer n m list order).page ≤ 4096)
unfolding best_answer best_rows
best-small n m list order = ⊎_elim
    (λ (e : eqb (refusal (list_rows n m 7 list order)) 0 ≡ true).
    let P = passed n m 7 list order (eqb-true (refusal (list_rows n m 7 list order)) 0 e) in
    rw e (small_of n m list (best_order n m list) P.n-high (few n m 7 list order P.sizes)))
    (λ (e : eqb (refusal (list_rows n m 7 list order)) 0 ≡ false). rw e (omega arith, omega arith))
    (bool_cases (eqb (refusal (list_rows n m 7 list order)) 0))
