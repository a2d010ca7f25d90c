-- `is_same` holds of equal lists, and of no others.
use Rattle.flash.proofs.Kit.{◌≡◌, refl, ap₂, true, List, [], ◌∷◌, ℕ, eqb, eqb-true, eq-eqb}
use Rattle.flash.specs.Lists.{is_same}
use Rattle.flash.proofs.Bools.{never_both, and_left, and_right}

pub same-eq : (xs ys : List ℕ) → is_same xs ys ≡ true → xs ≡ ys
unfolding is_same
same-eq [] [] e = refl
same-eq [] (y ∷ ys) e = absurd (never_both e refl)
same-eq (x ∷ xs) [] e = absurd (never_both e refl)
same-eq (x ∷ xs) (y ∷ ys) e =
    ap₂ (λ (h : ℕ) (t : List ℕ). h ∷ t)
    (eqb-true x y (and_left (eqb x y) (is_same xs ys) e))
    (same-eq xs ys (and_right (eqb x y) (is_same xs ys) e))

same_self : (xs : List ℕ) → is_same xs xs ≡ true
unfolding is_same
same_self [] = refl
same_self (x ∷ xs) = rw (eq-eqb x x refl, same_self xs)

pub eq-same : (xs ys : List ℕ) → xs ≡ ys → is_same xs ys ≡ true
eq-same xs ys e = rw e (same_self ys)
