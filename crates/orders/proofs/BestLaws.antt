-- The best order is the first of those with the least y, by its number.
use Rattle.flash.proofs.Kit.{◌≡◌, refl, sym, ap, ◌∙◌, ◌≢◌, subst, ⊎_elim, Bool, true, false, List, [], ◌∷◌, map, ℕ, zero, suc, ◌+◌, ◌≤◌, ◌<◌, arith, leb, le-leb, lt-leb}
use Rattle.flash.proofs.Kit.{add-one, below_more}
use Rattle.flash.specs.Lists.{range, all, first}
use Rattle.flash.proofs.Comparisons.{eq-cases, lt-cases}
use Rattle.flash.proofs.Ranges.{all-is, all-not}
use Rattle.orders.specs.Orders.{least_y}
use Rattle.orders.specs.Dictionary.{factorial, order_at, orders, is_best, best_order}
use Rattle.orders.specs.inner.Search.{FirstLeast, Searching}

-- tests and searches over a list that a function made
all_map : {A : Type 0} (test : A → Bool) (g : ℕ → A) (xs : List ℕ) → all test (map g xs) ≡ all (λ x. test (g x)) xs
unfolding all
all_map test g [] = refl
all_map test g (x ∷ xs) = rw (all_map test g xs)

first-map : {A : Type 0} (test : A → Bool) (g : ℕ → A) (start size at : ℕ) (otherwise : A) → start ≤ at → at < start + size → test (g at) ≡ true
    → ((j : ℕ) → start ≤ j → j < at → test (g j) ≡ false) → first test (map g (range start size)) otherwise ≡ g at
unfolding range first
first-map test g start zero at otherwise a b e f = absurd (omega arith)
first-map test g start (suc size) at otherwise a b e f = ⊎_elim
    (λ (q : start ≡ at). rw (subst (λ (x : ℕ). test (g x) ≡ true) (sym q) e) (ap g q))
    (λ (q : start ≢ at). rw (f start (omega arith) (omega arith)) (first-map test g (suc start) size at otherwise (omega arith) (omega arith) e (λ j c d. f j (omega arith) d)))
    (eq-cases start at)

module _ (n m : ℕ) (list : List ℕ) (at : ℕ) (F : FirstLeast (λ k. least_y n m list (order_at n k)) (factorial n) at) where
  abbrev y : ℕ → ℕ
  y k = least_y n m list (order_at n k)

  best-yes : is_best n m list (order_at n at) ≡ true
  unfolding is_best orders
  best-yes =
      all_map (λ other. leb (y at) (least_y n m list other)) (order_at n) (range 0 (factorial n))
      ∙ all-is (λ k. leb (y at) (y k)) 0 (factorial n) (λ k l h. le-leb (y at) (y k) (F.least k (omega arith)))

  best-no : (j : ℕ) → j < at → is_best n m list (order_at n j) ≡ false
  unfolding is_best orders
  best-no j l =
      all_map (λ other. leb (y j) (least_y n m list other)) (order_at n) (range 0 (factorial n))
      ∙ all-not (λ k. leb (y j) (y k)) 0 (factorial n) at (omega arith) (omega (arith, F.high)) (lt-leb (y j) (y at) (F.first j l))

  pub best-is : best_order n m list ≡ order_at n at
  unfolding best_order orders
  best-is = first-map (is_best n m list) (order_at n) 0 (factorial n) at [] (omega arith) (omega (arith, F.high)) best-yes (λ j l h. best-no j h)

-- ---- the search, one order more
module _ (f : ℕ → ℕ) (start : ℕ) where
  pub none-searched : Searching f start 0 0 start
  none-searched = record { none = λ e. refl; some = λ h. absurd (omega arith); least = λ k h. absurd (omega arith); first = λ k h. absurd (omega arith) }

  module _ (count at best : ℕ) (S : Searching f start count at best) where
    pub searched-better : f count < best → Searching f start (count + 1) count (f count)
    searched-better l = record {
      none = λ e. absurd (omega arith);
      some = λ h. (omega arith, refl);
      least = below_more (λ k. f count ≤ f k) count (λ k h. omega (arith, S.least k h)) (omega arith);
      first = λ k h. omega (arith, S.least k h);
    }

    pub searched-other : best ≤ f count → f count < start → Searching f start (count + 1) at best
    searched-other l small = record {
      none = λ e. absurd (omega arith);
      some = λ h. (let s = S.some (some-counted l small) in (omega (arith, s.0), s.1));
      least = below_more (λ k. best ≤ f k) count S.least l;
      first = S.first;
    }
      where
        some-counted : best ≤ f count → f count < start → 1 ≤ count
        some-counted l small = ⊎_elim
            (λ (e : count ≡ 0). let b = S.none e in absurd (omega arith))
            (λ (ne : count ≢ 0). omega (arith, ne))
            (eq-cases count 0)

    pub all-searched : 1 ≤ count → FirstLeast f count at
    all-searched h = let s = S.some h in record {
      high = s.0;
      least = λ k l. rw s.1 (S.least k l);
      first = λ k l. rw s.1 (S.first k l);
    }

-- there is a first of the least
one_more : (f : ℕ → ℕ) (count : ℕ) → (at : ℕ) × FirstLeast f count at → (at : ℕ) × FirstLeast f (suc count) at
one_more f count L =
    let at : ℕ = L.0 in
    let F = L.1 in
    ⊎_elim
    (λ (l : f count < f at). (
      count,
      record {
        high = omega arith;
        least = rw (← add-one count) (below_more (λ k. f count ≤ f k) count (λ k h. omega (arith, F.least k h)) (omega arith));
        first = λ k h. omega (arith, F.least k h);
      },
    ))
    (λ (l : f at ≤ f count). (
      at,
      record {
        high = omega (arith, F.high);
        least = rw (← add-one count) (below_more (λ k. f at ≤ f k) count F.least l);
        first = F.first;
      },
    ))
    (lt-cases (f count) (f at))

only_one : (f : ℕ → ℕ) (k : ℕ) → k < 1 → f 0 ≤ f k
only_one f k h = let e : k ≡ 0 = omega arith in rw e (omega arith)

pub least-exists : (f : ℕ → ℕ) (count : ℕ) → 1 ≤ count → (at : ℕ) × FirstLeast f count at
least-exists f zero h = absurd (omega arith)
least-exists f (suc zero) h = (0, record { high = omega arith; least = only_one f; first = λ k l. absurd (omega arith) })
least-exists f (suc (suc count)) h = one_more f (suc count) (least-exists f (suc count) (omega arith))
