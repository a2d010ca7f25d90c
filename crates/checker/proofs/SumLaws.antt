-- The masks that pages sum to: nothing, each page, and the sum of two such masks.
use Rattle.flash.proofs.Kit.{◌≡◌, refl, sym, ◌∙◌, ⊎_elim, true, or-true, List, [], ◌∷◌, ℕ, zero, suc, ◌<◌, arith, length, get_or, bit_xor, xor_comm, xor_self}
use Rattle.flash.proofs.Kit.{eqb-true}
use Rattle.flash.proofs.Bools.{or_cases}
use Rattle.flash.proofs.Xor.{xor_assoc, xor-cancel}
use Rattle.checker.specs.Pages.{is_sum}

-- the last two of three change places
pub xor-swap : (a b c : ℕ) → bit_xor (bit_xor a b) c ≡ bit_xor (bit_xor a c) b
xor-swap a b c = xor_assoc a b c ∙ rw (xor_comm b c) (sym (xor_assoc a c b))

-- a page added to both parts of a sum cancels
pub xor-both : (a b c : ℕ) → bit_xor (bit_xor a c) (bit_xor b c) ≡ bit_xor a b
xor-both a b c = sym (xor_assoc (bit_xor a c) b c) ∙ rw (xor-swap a c b) (xor-cancel (bit_xor a b) c)

pub sum-none : (pages : List ℕ) → is_sum pages 0 ≡ true
unfolding is_sum
sum-none [] = refl
sum-none (page ∷ pages) = rw (sum-none pages)

-- without the first page, or with it
pub sum-without : (page : ℕ) (pages : List ℕ) (v : ℕ) → is_sum pages v ≡ true → is_sum (page ∷ pages) v ≡ true
unfolding is_sum
sum-without page pages v e = rw e

pub sum-with : (page : ℕ) (pages : List ℕ) (v : ℕ) → is_sum pages (bit_xor v page) ≡ true → is_sum (page ∷ pages) v ≡ true
unfolding is_sum
sum-with page pages v e = rw (e, or-true)

pub sum-page : (pages : List ℕ) (i : ℕ) → i < length pages → is_sum pages (get_or pages i 0) ≡ true
sum-page [] i h = absurd (omega arith)
sum-page (page ∷ pages) zero h = sum-with page pages page (rw (xor_self page) (sum-none pages))
sum-page (page ∷ pages) (suc i) h = sum-without page pages (get_or pages i 0) (sum-page pages i (omega arith))

pub sum-xor : (pages : List ℕ) (a b : ℕ) → is_sum pages a ≡ true → is_sum pages b ≡ true → is_sum pages (bit_xor a b) ≡ true
unfolding is_sum
sum-xor [] a b p q = rw (eqb-true a 0 p, eqb-true b 0 q)
sum-xor (page ∷ pages) a b p q = ⊎_elim
    (λ (x : is_sum pages a ≡ true). ⊎_elim
    (λ (y : is_sum pages b ≡ true). sum-without page pages (bit_xor a b) (sum-xor pages a b x y))
    (λ (y : is_sum pages (bit_xor b page) ≡ true).
    sum-with page pages (bit_xor a b) (rw (xor_assoc a b page) (sum-xor pages a (bit_xor b page) x y)))
    (or_cases (is_sum pages b) (is_sum pages (bit_xor b page)) q))
    (λ (x : is_sum pages (bit_xor a page) ≡ true). ⊎_elim
    (λ (y : is_sum pages b ≡ true).
    sum-with page pages (bit_xor a b) (rw (xor-swap a b page) (sum-xor pages (bit_xor a page) b x y)))
    (λ (y : is_sum pages (bit_xor b page) ≡ true).
    sum-without page pages (bit_xor a b) (rw (← xor-both a b page) (sum-xor pages (bit_xor a page) (bit_xor b page) x y)))
    (or_cases (is_sum pages b) (is_sum pages (bit_xor b page)) q))
    (or_cases (is_sum pages a) (is_sum pages (bit_xor a page)) p)
