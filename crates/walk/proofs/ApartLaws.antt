-- Lists of slots, one slot more at a time.
use Rattle.flash.proofs.Kit.{◌≡◌, refl, sym, ap, ◌∙◌, ⊎_elim, Bool, true, false, cond, List, [], ◌∷◌, ◌++◌, append_assoc, append-nil, ℕ, zero, suc, ◌+◌, ◌<◌, add-one, arith, eqb}
use Rattle.flash.proofs.Kit.{not-suc-le-zero, length, get_or, set, take, take-suc-set, eqb-false, eqb-true, ne_eqb}
use Rattle.std.specs.List.{list_any}
use Rattle.flash.specs.Lists.{any, filter}
use Rattle.flash.proofs.Bools.{bool_cases}

-- a slot is looked for from either side
eqb-swap : (x y : ℕ) → eqb x y ≡ eqb y x
eqb-swap x y = ⊎_elim
    (λ (e : eqb x y ≡ true). let same : x ≡ y = eqb-true x y e in rw same refl)
    (λ (e : eqb x y ≡ false). e ∙ sym (ne_eqb y x (λ q. eqb-false x y e (sym q))))
    (bool_cases (eqb x y))

pub any-is : (t : ℕ) (ts : List ℕ) → list_any (λ x. eqb x t) ts ≡ any (eqb t) ts
unfolding any
any-is t [] = refl
any-is t (x ∷ xs) = rw (any-is t xs, eqb-swap x t) refl

-- those that pass a test
filter_more : (test : ℕ → Bool) (ts : List ℕ) (i : ℕ) → i < length ts
    → filter test (take (suc i) ts) ≡ filter test (take i ts) ++ cond (test (get_or ts i 0)) (get_or ts i 0 ∷ []) []
unfolding filter
filter_more test [] i h = absurd (not-suc-le-zero h)
filter_more test (x ∷ xs) zero h = refl
filter_more test (x ∷ xs) (suc i) h = ⊎_elim
    (λ (e : test x ≡ true). rw e (ap (λ (t : List ℕ). x ∷ t) (filter_more test xs i (omega arith))))
    (λ (e : test x ≡ false). rw e (filter_more test xs i (omega arith)))
    (bool_cases (test x))

module _ (test : ℕ → Bool) (slots front to : List ℕ) (end i : ℕ) (fits : i < length slots) (now : take end to ≡ front ++ filter test (take i slots)) where
  pub turn-kept : test (get_or slots i 0) ≡ true → end < length to → take (end + 1) (set to end (get_or slots i 0)) ≡ front ++ filter test (take (i + 1) slots)
  turn-kept e h =
      rw (add-one end, add-one i, take-suc-set to end (get_or slots i 0) h, now, filter_more test slots i fits, e) (append_assoc front (filter test (take i slots)) (get_or slots i 0 ∷ []))

  pub turn-left : test (get_or slots i 0) ≡ false → take end to ≡ front ++ filter test (take (i + 1) slots)
  turn-left e = now ∙ ap (λ (ts : List ℕ). front ++ ts) (sym (rw (add-one i, filter_more test slots i fits, e) (append-nil (filter test (take i slots)))))
