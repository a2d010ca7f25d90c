-- Two numbers are equal or not, and one is below the other or not.
use Rattle.flash.proofs.Kit.{◌≡◌, sym, ◌⊎◌, inl, inr, ◌≢◌, ⊎_elim, true, false, ℕ, ◌≤◌, ◌<◌, arith, eqb, ltb, eqb-true, eqb-false, eq-eqb, ltb-true}
use Rattle.flash.proofs.Kit.{ltb-false}
use Rattle.flash.proofs.Bools.{bool_cases, bool_eq}

pub eq-cases : (x y : ℕ) → (x ≡ y) ⊎ (x ≢ y)
eq-cases x y = ⊎_elim (λ (q : eqb x y ≡ true). inl (eqb-true x y q)) (λ (q : eqb x y ≡ false). inr (eqb-false x y q))
    (bool_cases (eqb x y))

pub lt-cases : (x y : ℕ) → (x < y) ⊎ (y ≤ x)
lt-cases x y = ⊎_elim (λ (q : ltb x y ≡ true). inl (ltb-true x y q)) (λ (q : ltb x y ≡ false). inr (ltb-false x y q))
    (bool_cases (ltb x y))

pub ne-lt : (x y : ℕ) → x ≢ y → (x < y) ⊎ (y < x)
ne-lt x y ne = ⊎_elim (λ (h : x < y). inl h) (λ (h : y ≤ x). inr (omega arith)) (lt-cases x y)

pub eqb_swap : (x y : ℕ) → eqb x y ≡ eqb y x
eqb_swap x y = bool_eq _ _ (λ e. eq-eqb y x (sym (eqb-true x y e))) (λ e. eq-eqb x y (sym (eqb-true y x e)))
