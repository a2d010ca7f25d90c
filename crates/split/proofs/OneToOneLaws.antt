-- What the check of a list says: each entry is in range and none is met twice, so that a list of its length is a permutation.
use Rattle.flash.proofs.Kit.{◌≡◌, refl, sym, ap, true, false, ◌||◌, List, [], ◌∷◌, ℕ, zero, suc, ◌<◌, not-suc-le-zero, arith, eqb, leb, length, get_or}
use Rattle.flash.proofs.Kit.{eqb-true, eq-eqb, leb-true, leb-false, not-true}
use Rattle.flash.specs.Lists.{any}
use Rattle.split.specs.OneToOne.{met_twice, is_one_to_one}
use Rattle.flash.proofs.Bools.{never_both, fails, or-false-left, or-false-right}
use Rattle.flash.proofs.Searches.{none-at, any-find}
use Rattle.split.proofs.Pigeon.{onto}

abbrev pub Distinct : List ℕ → Type 0
Distinct list = (i j : ℕ) → i < length list → j < length list → get_or list i 0 ≡ get_or list j 0 → i ≡ j

distinct-at : (list : List ℕ) → met_twice list ≡ false → Distinct list
unfolding met_twice
distinct-at [] e i j h l q = absurd (not-suc-le-zero h)
distinct-at (x ∷ xs) e zero zero h l q = refl
distinct-at (x ∷ xs) e zero (suc j) h l q =
    absurd (never_both (eq-eqb x (get_or xs j 0) q) (none-at (eqb x) xs j 0 (or-false-left (any (eqb x) xs) (met_twice xs) e) (omega arith)))
distinct-at (x ∷ xs) e (suc i) zero h l q =
    absurd (never_both (eq-eqb x (get_or xs i 0) (sym q))
    (none-at (eqb x) xs i 0 (or-false-left (any (eqb x) xs) (met_twice xs) e) (omega arith)))
distinct-at (x ∷ xs) e (suc i) (suc j) h l q =
    ap suc (distinct-at xs (or-false-right (any (eqb x) xs) (met_twice xs) e) i j (omega arith) (omega arith) q)

distinct_of : (list : List ℕ) → Distinct list → met_twice list ≡ false
unfolding met_twice
distinct_of [] d = refl
distinct_of (x ∷ xs) d = rw (fresh, distinct_of xs later)
  where
    fresh : any (eqb x) xs ≡ false
    fresh = fails (λ t.
        let r = any-find (eqb x) xs 0 t in
        let z : 0 ≡ suc r.0 = d 0 (suc r.0) (omega arith) (omega (arith, r.1)) (eqb-true x (get_or xs r.0 0) r.2) in
        omega arith)

    later : Distinct xs
    later i j h l q = let z : suc i ≡ suc j = d (suc i) (suc j) (omega arith) (omega arith) q in omega arith

module _ (originals : ℕ) (list : List ℕ) where
  pub one-to-one-of : ((k : ℕ) → k < length list → get_or list k 0 < originals) → Distinct list → is_one_to_one originals list ≡ true
  unfolding is_one_to_one
  one-to-one-of below distinct = rw (small, distinct_of list distinct)
    where
      small : any (leb originals) list ≡ false
      small = fails (λ t.
          let r = any-find (leb originals) list 0 t in
          let a = leb-true originals (get_or list r.0 0) r.2 in
          let b = below r.0 r.1 in
          omega arith)

  module _ (one : is_one_to_one originals list ≡ true) where
    good : (any (leb originals) list || met_twice list) ≡ false
    unfolding is_one_to_one
    good = not-true (any (leb originals) list || met_twice list) one

    pub entry_lt : (k : ℕ) → k < length list → get_or list k 0 < originals
    entry_lt k h = leb-false originals (get_or list k 0)
        (none-at (leb originals) list k 0 (or-false-left (any (leb originals) list) (met_twice list) good) h)

    pub entry-same : Distinct list
    entry-same = distinct-at list (or-false-right (any (leb originals) list) (met_twice list) good)

    pub entry-onto : length list ≡ originals → (x : ℕ) → x < originals → (k : ℕ) × (k < originals) × (get_or list k 0 ≡ x)
    entry-onto e = onto originals (λ k. get_or list k 0) (λ k h. entry_lt k (omega arith))
        (λ i j h l q. entry-same i j (omega arith) (omega arith) q)
