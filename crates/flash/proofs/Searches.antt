-- Laws of `all`, `any`, `count` and `first` over any list.
use Rattle.flash.proofs.Kit.{◌≡◌, refl, sym, ap, ◌∙◌, ⊎_elim, Bool, true, false, ◌&&◌, ◌||◌, and_assoc, or_assoc, List, [], ◌∷◌, ◌++◌, ℕ, zero}
use Rattle.flash.proofs.Kit.{suc, ◌+◌, ◌≤◌, ◌<◌, not-suc-le-zero, le_of_suc-le-suc, arith, length, get_or, take, drop, take-append-drop}
use Rattle.flash.specs.Lists.{all, any, count, first}
use Rattle.flash.proofs.Bools.{bool_cases, never_both, and_left, and_right, or-false-left, or-false-right, fails}

module _ {A : Type 0} (test : A → Bool) where
  pub all_append : (xs ys : List A) → all test (xs ++ ys) ≡ (all test xs && all test ys)
  unfolding all
  all_append [] ys = refl
  all_append (x ∷ xs) ys = ap (λ (t : Bool). test x && t) (all_append xs ys) ∙ sym (and_assoc (test x) (all test xs) (all test ys))

  pub any_append : (xs ys : List A) → any test (xs ++ ys) ≡ (any test xs || any test ys)
  unfolding any
  any_append [] ys = refl
  any_append (x ∷ xs) ys = ap (λ (t : Bool). test x || t) (any_append xs ys) ∙ sym (or_assoc (test x) (any test xs) (any test ys))

  pub count-append : (xs ys : List A) → count test (xs ++ ys) ≡ count test xs + count test ys
  unfolding count
  count-append [] ys = omega arith
  count-append (x ∷ xs) ys =
      ⊎_elim
      (λ (e : test x ≡ true). rw e (omega (arith, count-append xs ys)))
      (λ (e : test x ≡ false). rw e (count-append xs ys))
      (bool_cases (test x))

  -- all hold where each does
  pub all-at : (xs : List A) (i : ℕ) (d : A) → all test xs ≡ true → i < length xs → test (get_or xs i d) ≡ true
  unfolding all
  all-at [] i d e h = absurd (not-suc-le-zero h)
  all-at (x ∷ xs) zero d e h = and_left (test x) (all test xs) e
  all-at (x ∷ xs) (suc i) d e h = all-at xs i d (and_right (test x) (all test xs) e) (le_of_suc-le-suc h)

  pub all_of : (xs : List A) (d : A) → ((i : ℕ) → i < length xs → test (get_or xs i d) ≡ true) → all test xs ≡ true
  unfolding all
  all_of [] d f = refl
  all_of (x ∷ xs) d f = rw (f 0 (omega arith)) (all_of xs d (λ i h. f (suc i) (omega arith)))

  pub all-fails : (xs : List A) (i : ℕ) (d : A) → i < length xs → test (get_or xs i d) ≡ false → all test xs ≡ false
  all-fails xs i d h e = fails (λ a. never_both (all-at xs i d a h) e)

  -- none holds where each fails
  pub none-at : (xs : List A) (i : ℕ) (d : A) → any test xs ≡ false → i < length xs → test (get_or xs i d) ≡ false
  unfolding any
  none-at [] i d e h = absurd (not-suc-le-zero h)
  none-at (x ∷ xs) zero d e h = or-false-left (test x) (any test xs) e
  none-at (x ∷ xs) (suc i) d e h = none-at xs i d (or-false-right (test x) (any test xs) e) (le_of_suc-le-suc h)

  pub none_of : (xs : List A) (d : A) → ((i : ℕ) → i < length xs → test (get_or xs i d) ≡ false) → any test xs ≡ false
  unfolding any
  none_of [] d f = refl
  none_of (x ∷ xs) d f = rw (f 0 (omega arith)) (none_of xs d (λ i h. f (suc i) (omega arith)))

  pub any_of : (xs : List A) (i : ℕ) (d : A) → i < length xs → test (get_or xs i d) ≡ true → any test xs ≡ true
  any_of xs i d h e = ⊎_elim (λ q. q) (λ q. absurd (never_both e (none-at xs i d q h))) (bool_cases (any test xs))

  pub any-find : (xs : List A) (d : A) → any test xs ≡ true → (i : ℕ) × (i < length xs) × (test (get_or xs i d) ≡ true)
  unfolding any
  any-find [] d e = absurd (never_both e refl)
  any-find (x ∷ xs) d e = ⊎_elim
      (λ (q : test x ≡ true). (0, omega arith, q))
      (λ (q : test x ≡ false). (let r = any-find xs d (rw q at e) in (suc r.0, omega (arith, r.1), r.2)))
      (bool_cases (test x))

  -- a part has no more
  pub count-take : (k : ℕ) (xs : List A) → count test (take k xs) ≤ count test xs
  count-take k xs = omega (arith, count-append (take k xs) (drop k xs), ap (count test) (take-append-drop k xs))

  pub count-drop : (k : ℕ) (xs : List A) → count test (drop k xs) ≤ count test xs
  count-drop k xs = omega (arith, count-append (take k xs) (drop k xs), ap (count test) (take-append-drop k xs))

  pub count_none : (xs : List A) → any test xs ≡ false → count test xs ≡ 0
  unfolding any count
  count_none [] e = refl
  count_none (x ∷ xs) e =
      rw (or-false-left (test x) (any test xs) e) (count_none xs (or-false-right (test x) (any test xs) e))

  pub none-counted : (xs : List A) → count test xs ≡ 0 → any test xs ≡ false
  unfolding any count
  none-counted [] e = refl
  none-counted (x ∷ xs) e =
      ⊎_elim
      (λ (q : test x ≡ true). absurd (omega (arith, rw q at e)))
      (λ (q : test x ≡ false). rw q (none-counted xs (rw q at e)))
      (bool_cases (test x))

  -- where none passes, the first that does is `otherwise`
  pub first-none : (xs : List A) (otherwise : A) → any test xs ≡ false → first test xs otherwise ≡ otherwise
  unfolding any first
  first-none [] otherwise e = refl
  first-none (x ∷ xs) otherwise e =
      rw (or-false-left (test x) (any test xs) e) (first-none xs otherwise (or-false-right (test x) (any test xs) e))
