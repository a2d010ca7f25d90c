-- The rows of the two calls: which of them applies, and what all together say.
use Rattle.flash.proofs.Kit.{◌≡◌, refl, ap, ◌∙◌, ◌≢◌, Bool, true, false, cond, ◌&&◌, ◌||◌, not, List, [], ◌∷◌, ℕ, ◌*◌, ◌≤◌, arith, eqb, ltb, length}
use Rattle.flash.proofs.Kit.{eqb-true, eq-eqb, ne_eqb, ltb-false, le-ltb, not-false}
use Rattle.flash.specs.Tables.{first_fit, number_or0, refusal}
use Rattle.flash.proofs.Bools.{both, or-false-left, or-false-right}
use Rattle.flash.proofs.Bounds.{in-range, product_le}
use Rattle.flash.proofs.Tables.{refusal-hit, refusal-miss, refusal-zero, refusal-nil}
use Rattle.split.specs.OneToOne.{bad_list}
use Rattle.split.proofs.DropLaws.{kept_of}
use Rattle.orders.specs.Orders.{bad_order, least_y, forbidding_page}
use Rattle.orders.specs.Dictionary.{best_order}
use Rattle.orders.specs.Answer.{are_sizes, list_rows, least_rows, best_rows, LeastAnswer, least_answer, BestAnswer, best_answer}
use Rattle.orders.specs.inner.Places.{Surveyable}

-- what the first four rows let pass
pub record Passed (n m most : ℕ) (list order : List ℕ) : Type 0 where
  pub sizes : are_sizes n m ≡ true
  pub n-low : 3 ≤ n
  pub n-most : n ≤ most
  pub n-high : n ≤ 64
  pub m-low : 1 ≤ m
  pub m-high : m ≤ 64
  pub list-size : length list ≡ n * m
  pub order-size : length order ≡ n
  pub good : bad_list (n * m) list ≡ false

module _ (n m most : ℕ) (list order : List ℕ) where
  pub gives-1 : are_sizes n m ≡ false → refusal (list_rows n m most list order) ≡ 1
  unfolding list_rows
  gives-1 e = refusal-hit _ _ (ap not e)

  module _ (sizes : are_sizes n m ≡ true) where
    pub few : n * m ≤ 4096
    few = let B = in-range _ sizes in product_le n m {c = 64} {d = 64} B.n-high B.m-high

    pub gives-16 : (ltb n 3 || ltb most n) ≡ true → refusal (list_rows n m most list order) ≡ 16
    unfolding list_rows
    gives-16 e = refusal-miss _ _ (ap not sizes) ∙ refusal-hit _ _ e

    module _ (blocks : (ltb n 3 || ltb most n) ≡ false) where
      pub gives-2 : (eqb (length list) (n * m) && eqb (length order) n) ≡ false → refusal (list_rows n m most list order) ≡ 2
      unfolding list_rows
      gives-2 e = refusal-miss _ _ (ap not sizes) ∙ refusal-miss _ _ blocks ∙ refusal-hit _ _ (ap not e)

      module _ (sized : (eqb (length list) (n * m) && eqb (length order) n) ≡ true) where
        pub gives-3 : bad_list (n * m) list ≡ true → refusal (list_rows n m most list order) ≡ 3
        unfolding list_rows
        gives-3 e = refusal-miss _ _ (ap not sizes) ∙ refusal-miss _ _ blocks ∙ refusal-miss _ _ (ap not sized) ∙ refusal-hit _ _ e

        pub gives-0 : bad_list (n * m) list ≡ false → refusal (list_rows n m most list order) ≡ 0
        unfolding list_rows
        gives-0 e = refusal-miss _ _ (ap not sizes) ∙ refusal-miss _ _ blocks ∙ refusal-miss _ _ (ap not sized) ∙ refusal-miss _ _ e ∙ refusal-nil

  pub passed : refusal (list_rows n m most list order) ≡ 0 → Passed n m most list order
  unfolding list_rows
  passed e =
      let one = refusal-zero _ _ (omega arith) e in
      let sixteen = refusal-zero _ _ (omega arith) one.1 in
      let two = refusal-zero _ _ (omega arith) sixteen.1 in
      let three = refusal-zero _ _ (omega arith) two.1 in
      let sizes = not-false (are_sizes n m) one.0 in
      let B = in-range _ sizes in
      let sized = both (eqb (length list) (n * m)) (eqb (length order) n) (not-false (eqb (length list) (n * m) && eqb (length order) n) two.0) in
      record {
        sizes = sizes;
        n-low = ltb-false n 3 (or-false-left (ltb n 3) (ltb most n) sixteen.0);
        n-most = ltb-false most n (or-false-right (ltb n 3) (ltb most n) sixteen.0);
        n-high = B.n-high;
        m-low = B.m-low;
        m-high = B.m-high;
        list-size = eqb-true (length list) (n * m) sized.0;
        order-size = eqb-true (length order) n sized.1;
        good = three.0;
      }

-- another order of its length, and another bound on n
pub passed-rows : (n m most : ℕ) (list order : List ℕ) → Passed n m most list order → refusal (list_rows n m most list order) ≡ 0
passed-rows n m most list order P = gives-0 n m most list order P.sizes
    (rw (le-ltb n 3 P.n-low, le-ltb most n P.n-most))
    (rw (eq-eqb (length list) (n * m) P.list-size, eq-eqb (length order) n P.order-size))
    P.good

pub passed-other : (n m most most' : ℕ) (list order other : List ℕ) → Passed n m most list order → n ≤ most' → length other ≡ n → Passed n m most' list other
passed-other n m most most' list order other P h e = record {
  sizes = P.sizes;
  n-low = P.n-low;
  n-most = h;
  n-high = P.n-high;
  m-low = P.m-low;
  m-high = P.m-high;
  list-size = P.list-size;
  order-size = e;
  good = P.good;
}

pub surveyable : (n m most bound : ℕ) (list order : List ℕ) → Passed n m most list order → n ≤ bound → Surveyable bound m list
surveyable n m most bound list order P h =
    let within = product_le n m {c = bound} {d = m} h (omega arith) in record {
      m-low = P.m-low;
      m-high = P.m-high;
      size = omega (arith, P.list-size);
      below = λ k l d. (let b = (kept_of (n * m) list P.good).below k l d in omega arith);
    }

-- ---- the answers
five : (one sixteen two three seventeen : Bool)
    → (let first = refusal (record { fits = one; gives = 1 } ∷ record { fits = sixteen; gives = 16 } ∷ record { fits = two; gives = 2 }
    ∷ record { fits = three; gives = 3 } ∷ []) in
    refusal (record { fits = one; gives = 1 } ∷ record { fits = sixteen; gives = 16 } ∷ record { fits = two; gives = 2 }
    ∷ record { fits = three; gives = 3 } ∷ record { fits = seventeen; gives = 17 } ∷ []) ≡ cond (eqb first 0) (cond seventeen 17 0) first)
unfolding refusal first_fit number_or0
five true sixteen two three seventeen = refl
five false true two three seventeen = refl
five false false true three seventeen = refl
five false false false true seventeen = refl
five false false false false true = refl
five false false false false false = refl

module _ (n m : ℕ) (list order : List ℕ) where
  pub least-number : refusal (least_rows n m list order)
      ≡ cond (eqb (refusal (list_rows n m 64 list order)) 0) (cond (bad_order n order) 17 0) (refusal (list_rows n m 64 list order))
  unfolding least_rows list_rows
  least-number = five (not (are_sizes n m)) (ltb n 3 || ltb 64 n) (not (eqb (length list) (n * m) && eqb (length order) n)) (bad_list (n * m) list) (bad_order n order)

  pub least-refused : (number : ℕ) → number ≡ refusal (list_rows n m 64 list order) → number ≢ 0
      → ◌≡◌ {A = LeastAnswer} (record { number = number; y = 0; page = 0 }) (least_answer n m list order)
  unfolding least_answer
  least-refused number is ne = rw (least-number, ← is, ne_eqb number 0 ne, ne_eqb number 0 ne)

  module _ (rows : refusal (list_rows n m 64 list order) ≡ 0) where
    pub least-17 : bad_order n order ≡ true → ◌≡◌ {A = LeastAnswer} (record { number = 17; y = 0; page = 0 }) (least_answer n m list order)
    unfolding least_answer
    least-17 bad = rw (least-number, rows, bad)

    pub least-done : bad_order n order ≡ false
        → ◌≡◌ {A = LeastAnswer} (record { number = 0; y = least_y n m list order; page = forbidding_page n m list order }) (least_answer n m list order)
    unfolding least_answer
    least-done good = rw (least-number, rows, good)

  pub best-refused : (number : ℕ) → number ≡ refusal (list_rows n m 7 list order) → number ≢ 0
      → ◌≡◌ {A = BestAnswer} (record { number = number; order = order; y = 0; page = 0 }) (best_answer n m list order)
  unfolding best_answer best_rows
  best-refused number is ne = rw (← is, ne_eqb number 0 ne)

  pub best-done : refusal (list_rows n m 7 list order) ≡ 0
      → ◌≡◌ {A = BestAnswer} (record {
        number = 0;
        order = best_order n m list;
        y = least_y n m list (best_order n m list);
        page = forbidding_page n m list (best_order n m list);
      }) (best_answer n m list order)
  unfolding best_answer best_rows
  best-done rows = rw rows
