-- Laws of `range`, and of tests, counts and searches over one.
use Rattle.flash.proofs.Kit.{◌≡◌, refl, sym, ap, ◌∙◌, ◌⊎◌, inl, inr, ⊎_elim, ◌≢◌, Bool, true, false, ◌||◌, or-false, or_assoc, ℕ, zero, suc, ◌+◌, ◌-◌, ◌≤◌, ◌<◌}
use Rattle.flash.proofs.Kit.{not-suc-le-zero, le_of_suc-le-suc, add-zero, suc-add, add-suc, arith, map, length, get_or}
use Rattle.flash.specs.Lists.{range, all, any, count, first, total}
use Rattle.flash.proofs.Bools.{bool_cases, never_both, fails}
use Rattle.flash.proofs.Comparisons.{eq-cases}
use Rattle.flash.proofs.Searches.{all-at, all_of, none-at, none_of, any-find, count_none, none-counted, first-none}

pub length-range : (start size : ℕ) → length (range start size) ≡ size
unfolding range
length-range start zero = refl
length-range start (suc size) = ap suc (length-range (suc start) size)

pub range_at : (start size i d : ℕ) → i < size → get_or (range start size) i d ≡ start + i
unfolding range
range_at start zero i d h = absurd (not-suc-le-zero h)
range_at start (suc size) zero d h = sym (add-zero start)
range_at start (suc size) (suc i) d h = range_at (suc start) size i d (le_of_suc-le-suc h) ∙ omega arith

module _ (test : ℕ → Bool) (start size : ℕ) where
  index : (j : ℕ) → start ≤ j → j < start + size → get_or (range start size) (j - start) 0 ≡ j
  index j a b = range_at start size (j - start) 0 (omega arith) ∙ omega arith

  pub all_in : all test (range start size) ≡ true → (j : ℕ) → start ≤ j → j < start + size → test j ≡ true
  all_in e j a b =
      let l = length-range start size in
      rw (index j a b) at (all-at test (range start size) (j - start) 0 e (omega arith))

  pub all-is : ((j : ℕ) → start ≤ j → j < start + size → test j ≡ true) → all test (range start size) ≡ true
  all-is f =
      all_of test (range start size) 0 (λ i h.
      let l : i < size = rw length-range at h in
      rw (range_at start size i 0 l) (f (start + i) (omega arith) (omega arith)))

  pub all-not : (j : ℕ) → start ≤ j → j < start + size → test j ≡ false → all test (range start size) ≡ false
  all-not j a b e = fails (λ q. never_both (all_in q j a b) e)

  pub none_in : any test (range start size) ≡ false → (j : ℕ) → start ≤ j → j < start + size → test j ≡ false
  none_in e j a b =
      let l = length-range start size in
      rw (index j a b) at (none-at test (range start size) (j - start) 0 e (omega arith))

  pub none_is : ((j : ℕ) → start ≤ j → j < start + size → test j ≡ false) → any test (range start size) ≡ false
  none_is f =
      none_of test (range start size) 0 (λ i h.
      let l : i < size = rw length-range at h in
      rw (range_at start size i 0 l) (f (start + i) (omega arith) (omega arith)))

  pub any-is : (j : ℕ) → start ≤ j → j < start + size → test j ≡ true → any test (range start size) ≡ true
  any-is j a b e =
      ⊎_elim (λ q. q) (λ q. absurd (never_both e (none_in q j a b))) (bool_cases (any test (range start size)))

-- the first number of the range that passes
pub record First (test : ℕ → Bool) (start size r : ℕ) : Type 0 where
  pub low : start ≤ r
  pub high : r < start + size
  pub passes : test r ≡ true
  pub before : (j : ℕ) → start ≤ j → j < r → test j ≡ false

-- where one passes, there is a first
pub first-hit : (test : ℕ → Bool) (start size j otherwise : ℕ) → start ≤ j → j < start + size → test j ≡ true
    → First test start size (first test (range start size) otherwise)
unfolding range first
first-hit test start zero j otherwise a b e = absurd (omega arith)
first-hit test start (suc size) j otherwise a b e =
    ⊎_elim
    (λ (q : test start ≡ true). rw q (record { low = omega arith; high = omega arith; passes = q; before = λ k c d. absurd (omega arith) }))
    (λ (q : test start ≡ false).
    let ne : start ≡ j → ⊥ = λ s. never_both e (rw (← s) q) in
    let f = first-hit test (suc start) size j otherwise (omega arith) (omega arith) e in
    rw q
    (record {
      low = omega arith;
      high = omega arith;
      passes = f.passes;
      before = λ k c d.
          ⊎_elim
          (λ (s : start ≡ k). rw (← s) q)
          (λ (s : start ≢ k). f.before k (omega arith) d)
          (eq-cases start k);
    }))
    (bool_cases (test start))

-- there is but one first
pub first-is : (test : ℕ → Bool) (start size otherwise r : ℕ) → First test start size r
    → first test (range start size) otherwise ≡ r
first-is test start size otherwise r F =
    let f = first-hit test start size r otherwise F.low F.high F.passes in
    let r' : ℕ = first test (range start size) otherwise in
    let after : r' < r → ⊥ = λ h. never_both f.passes (F.before r' f.low h) in
    let before : r < r' → ⊥ = λ h. never_both F.passes (f.before r F.low h) in
    omega arith

module _ (test : ℕ → Bool) where
  pub any-range-find : (start size : ℕ) → any test (range start size) ≡ true → (x : ℕ) × (start ≤ x) × (x < start + size) × (test x ≡ true)
  any-range-find start size e =
      let r = any-find test (range start size) 0 e in
      let h : r.0 < size = rw (length-range start size) at r.1 in
      (start + r.0, omega arith, omega arith, rw (range_at start size r.0 0 h) at r.2)

  -- what a search in a range comes to: the first that passes, or `otherwise` where none does
  pub record Missed (start size otherwise r : ℕ) : Type 0 where
    pub is : r ≡ otherwise
    pub none : (x : ℕ) → start ≤ x → x < start + size → test x ≡ false

  pub first-cases : (start size otherwise : ℕ) → First test start size (first test (range start size) otherwise) ⊎ Missed start size otherwise
      (first test (range start size) otherwise)
  first-cases start size otherwise = ⊎_elim
      (λ (q : any test (range start size) ≡ true).
      let r = any-range-find start size q in
      inl (first-hit test start size r.0 otherwise r.1 r.2 r.3))
      (λ (q : any test (range start size) ≡ false).
      inr (record { is = first-none test (range start size) otherwise q; none = none_in test start size q }))
      (bool_cases (any test (range start size)))

-- one number of the range passes, and no other
pub record Only (test : ℕ → Bool) (start size k : ℕ) : Type 0 where
  pub low : start ≤ k
  pub high : k < start + size
  pub passes : test k ≡ true
  pub others : (j : ℕ) → start ≤ j → j < start + size → test j ≡ true → j ≡ k

-- the count is 1 where one passes and no other does
pub count-one : (test : ℕ → Bool) (start size otherwise : ℕ) → count test (range start size) ≡ 1
    → Only test start size (first test (range start size) otherwise)
unfolding range count first
count-one test start zero otherwise e = absurd (omega arith)
count-one test start (suc size) otherwise e =
    ⊎_elim
    (λ (q : test start ≡ true).
    let z : count test (range (suc start) size) ≡ 0 = omega (arith, rw q at e) in
    let none = none-counted test (range (suc start) size) z in
    rw q
    (record {
      low = omega arith;
      high = omega arith;
      passes = q;
      others = λ j a b p.
          let in_rest : start < j → ⊥ = λ h. never_both p (none_in test (suc start) size none j (omega arith) (omega arith)) in
          omega arith;
    }))
    (λ (q : test start ≡ false).
    let o = count-one test (suc start) size otherwise (rw q at e) in
    rw q
    (record {
      low = omega arith;
      high = omega arith;
      passes = o.passes;
      others = λ j a b p.
          let ne : start ≡ j → ⊥ = λ s. never_both p (rw (← s) q) in
          o.others j (omega arith) (omega arith) p;
    }))
    (bool_cases (test start))

pub one-counted : (test : ℕ → Bool) (start size k : ℕ) → Only test start size k → count test (range start size) ≡ 1
unfolding range count
one-counted test start zero k O = absurd (omega arith)
one-counted test start (suc size) k O =
    ⊎_elim
    (λ (q : test start ≡ true).
    let at : start ≡ k = O.others start (omega arith) (omega arith) q in
    let none =
    none_is test (suc start) size (λ j a b. fails (λ p.
    let s : j ≡ k = O.others j (omega arith) (omega arith) p in
    omega arith)) in
    rw q (ap suc (count_none test (range (suc start) size) none)))
    (λ (q : test start ≡ false).
    let ne : start ≡ k → ⊥ = λ s. never_both O.passes (rw (← s) q) in
    rw q
    (one-counted test (suc start) size k
    (record {
      low = omega arith;
      high = omega arith;
      passes = O.passes;
      others = λ j a b p. O.others j (omega arith) (omega arith) p;
    })))
    (bool_cases (test start))

-- one number more
pub any_next : (test : ℕ → Bool) (start size : ℕ) → any test (range start (suc size)) ≡ (any test (range start size) || test (start + size))
unfolding any range
any_next test start zero = or-false (test start) ∙ ap test (sym (add-zero start))
any_next test start (suc size) =
    ap (λ (t : Bool). test start || t) (any_next test (suc start) size ∙ ap (λ (x : ℕ). any test (range (suc start) size) || test x) (suc-add start size ∙ sym (add-suc start size)))
    ∙ sym (or_assoc (test start) (any test (range (suc start) size)) (test (start + suc size)))

-- what a function gives over a range, added up: one number more, and another function that gives the same
module _ (f : ℕ → ℕ) where
  pub total-more : (start size : ℕ) → total (map f (range start (suc size))) ≡ total (map f (range start size)) + f (start + size)
  unfolding total range
  total-more start zero = omega (arith, ap f (add-zero start))
  total-more start (suc size) = omega (arith, total-more (suc start) size, ap f (suc-add start size ∙ sym (add-suc start size)))

  pub total-same : (g : ℕ → ℕ) (start size : ℕ) → ((i : ℕ) → start ≤ i → i < start + size → f i ≡ g i)
      → total (map f (range start size)) ≡ total (map g (range start size))
  unfolding total range
  total-same g start zero e = refl
  total-same g start (suc size) e =
      omega (arith, e start (omega arith) (omega arith), total-same g (suc start) size (λ i l h. e i (omega arith) (omega arith)))
