-- Two sums of the same originals, of which one alone counts as another page: they differ where that page does.
use Rattle.flash.proofs.Kit.{◌≡◌, refl, sym, ap, ap₂, ◌∙◌, ◌≢◌, ⊎_elim, true, false, List, [], ◌∷◌, ℕ, suc, arith, eqb, get_or, eqb-true, eqb-false, eq-eqb}
use Rattle.flash.proofs.Kit.{bit_xor, xor_comm}
use Rattle.flash.specs.Lists.{any, count}
use Rattle.flash.specs.PageSum.{◌⊕◌, sum}
use Rattle.flash.proofs.Bools.{bool_cases, bool_eq, or-false-left, or-false-right}
use Rattle.flash.proofs.Searches.{none-counted}
use Rattle.flash.proofs.Sums.{⊕-at}
use Rattle.flash.proofs.Xor.{xor-cancel}

-- what is added to both sides makes no difference
xor-right : (a b c : ℕ) → eqb (bit_xor a c) (bit_xor b c) ≡ eqb a b
xor-right a b c = bool_eq _ _
    (λ e. eq-eqb a b (sym (xor-cancel a c) ∙ ap (λ (x : ℕ). bit_xor x c) (eqb-true (bit_xor a c) (bit_xor b c) e) ∙ xor-cancel b c))
    (λ e. eq-eqb (bit_xor a c) (bit_xor b c) (ap (λ (x : ℕ). bit_xor x c) (eqb-true a b e)))

xor-left : (a b c : ℕ) → eqb (bit_xor c a) (bit_xor c b) ≡ eqb a b
xor-left a b c = ap₂ eqb (xor_comm c a) (xor_comm c b) ∙ xor-right a b c

module _ (f g : ℕ → List ℕ) (k : ℕ) (others : (i : ℕ) → i ≢ k → f i ≡ g i) where
  not-k : (x : ℕ) → eqb k x ≡ false → f x ≡ g x
  not-k x e = others x (λ s. eqb-false k x e (sym s))

  pub sum-without : (ks : List ℕ) → any (eqb k) ks ≡ false → sum f ks ≡ sum g ks
  unfolding sum any
  sum-without [] e = refl
  sum-without (x ∷ xs) e =
      ap₂ (λ (p s : List ℕ). p ⊕ s) (not-k x (or-false-left (eqb k x) (any (eqb k) xs) e)) (sum-without xs (or-false-right (eqb k x) (any (eqb k) xs) e))

  pub sum-once : (ks : List ℕ) (j : ℕ) → count (eqb k) ks ≡ 1 → eqb (get_or (sum f ks) j 0) (get_or (sum g ks) j 0) ≡ eqb (get_or (f k) j 0) (get_or (g k) j 0)
  unfolding sum count
  sum-once [] j e = absurd (omega arith)
  sum-once (x ∷ xs) j e = ap₂ eqb (⊕-at (f x) (sum f xs) j) (⊕-at (g x) (sum g xs) j) ∙ ⊎_elim
      (λ (q : eqb k x ≡ true).
      let one : suc (count (eqb k) xs) ≡ 1 = rw q at e in
      let rest = sum-without xs (none-counted (eqb k) xs (omega arith)) in
      let is : k ≡ x = eqb-true k x q in
      ap (λ (s : List ℕ). eqb (bit_xor (get_or (f x) j 0) (get_or (sum f xs) j 0)) (bit_xor (get_or (g x) j 0) (get_or s j 0))) (sym rest)
      ∙ xor-right (get_or (f x) j 0) (get_or (g x) j 0) (get_or (sum f xs) j 0)
      ∙ ap (λ (y : ℕ). eqb (get_or (f y) j 0) (get_or (g y) j 0)) (sym is))
      (λ (q : eqb k x ≡ false).
      ap (λ (p : List ℕ). eqb (bit_xor (get_or (f x) j 0) (get_or (sum f xs) j 0)) (bit_xor (get_or p j 0) (get_or (sum g xs) j 0))) (sym (not-k x q))
      ∙ xor-left (get_or (sum f xs) j 0) (get_or (sum g xs) j 0) (get_or (f x) j 0)
      ∙ sum-once xs j (rw q at e))
      (bool_cases (eqb k x))
