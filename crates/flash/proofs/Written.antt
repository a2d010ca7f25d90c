-- Laws of the bytes that a page programs.
use Rattle.flash.proofs.Kit.{◌≡◌, refl, sym, ◌∙◌, ap, true, false, not, cond, List, [], ◌∷◌, ◌++◌, ℕ, zero, suc, ◌+◌, ◌-◌, ◌≤◌, ◌<◌, add-one, arith, eqb, length, get_or, take, drop}
use Rattle.flash.proofs.Kit.{take-suc, take-add, replicate, ⊎_elim, ne_eqb}
use Rattle.flash.specs.Lists.{count}
use Rattle.flash.specs.PageSum.{written_bytes}
use Rattle.flash.proofs.Searches.{count-append}
use Rattle.flash.proofs.Bools.{bool_cases}

pub written-append : (xs ys : List ℕ) → written_bytes (xs ++ ys) ≡ written_bytes xs + written_bytes ys
unfolding written_bytes
written-append xs ys = count-append _ xs ys

-- no page counts more than it has bytes
pub written-most : (page : List ℕ) → written_bytes page ≤ length page
unfolding written_bytes count
written-most [] = omega arith
written-most (byte ∷ page) = ⊎_elim
    (λ (e : eqb byte 255 ≡ true). rw e (omega (arith, written-most page)))
    (λ (e : eqb byte 255 ≡ false). rw e (omega (arith, written-most page)))
    (bool_cases (eqb byte 255))

-- one byte more, at the end
pub written-more : (bytes : List ℕ) (i : ℕ) → i < length bytes
    → written_bytes (take (i + 1) bytes) ≡ written_bytes (take i bytes) + cond (not (eqb (get_or bytes i 0) 255)) 1 0
unfolding written_bytes count
written-more bytes i h = rw (add-one i, take-suc bytes i 0) (written-append (take i bytes) (get_or bytes i 0 ∷ []))

-- a page passed in parts: one part more, of bytes i to j
pub written-part : (page : List ℕ) (i j : ℕ) → i ≤ j → written_bytes (take i page) + written_bytes (take (j - i) (drop i page)) ≡ written_bytes (take j page)
written-part page i j h =
    let s : i + (j - i) ≡ j = omega arith in
    sym (written-append (take i page) (take (j - i) (drop i page))) ∙ ap written_bytes (sym (take-add i (j - i) page) ∙ ap (λ (x : ℕ). take x page) s)

pub written_none : (P : ℕ) → written_bytes (replicate P 255) ≡ 0
unfolding written_bytes count
written_none zero = refl
written_none (suc P) = written_none P

pub written_all : (P byte : ℕ) → byte < 255 → written_bytes (replicate P byte) ≡ P
unfolding written_bytes count
written_all zero byte h = refl
written_all (suc P) byte h = rw (ne_eqb byte 255 (λ e. absurd (omega arith))) (ap suc (written_all P byte h))
