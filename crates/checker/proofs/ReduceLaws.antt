-- What is left of a mask after all rows. This is linear, whatever the rows are: so if each page reduces to nothing, so does each sum of pages.
use Rattle.flash.proofs.Kit.{◌≡◌, refl, sym, ap, ◌∙◌, ⊎_elim, true, false, List, [], ◌∷◌, ℕ, suc, ◌+◌, ◌/◌, ◌%◌, ◌^◌, ◌<◌, arith, length, get_or}
use Rattle.flash.proofs.Kit.{bit_xor, xor_self, xor_shr, xor_add_and, xor_zero_r, eqb-true, eqb-false}
use Rattle.flash.proofs.Bools.{bool_cases, or_cases}
use Rattle.flash.proofs.Xor.{xor_assoc}
use Rattle.checker.specs.Pages.{is_sum}
use Rattle.checker.specs.inner.Elimination.{has_bit, cleared}
use Rattle.checker.proofs.SumLaws.{xor-swap, xor-both}

unfoldable pub reduced : (i : ℕ) → (rows : List ℕ) → (mask : ℕ) → ℕ
reduced i [] mask = mask
reduced i (row ∷ rows) mask = reduced (suc i) rows (cleared i row mask)

-- bit i of a sum
bit-xor : (a b i : ℕ) → bit_xor a b / 2 ^ i % 2 ≡ (a / 2 ^ i + b / 2 ^ i) % 2
bit-xor a b i = rw (xor_shr a b i) (omega (arith, xor_add_and (a / 2 ^ i) (b / 2 ^ i)))

pub both_bits : (a b i : ℕ) → has_bit a i ≡ true → has_bit b i ≡ true → has_bit (bit_xor a b) i ≡ false
both_bits a b i p q =
    let x = eqb-true (a / 2 ^ i % 2) 1 p in
    let y = eqb-true (b / 2 ^ i % 2) 1 q in
    let z : bit_xor a b / 2 ^ i % 2 ≡ 0 = omega (arith, bit-xor a b i) in
    rw z

one_bit : (a b i : ℕ) → has_bit a i ≡ true → has_bit b i ≡ false → has_bit (bit_xor a b) i ≡ true
one_bit a b i p q =
    let x = eqb-true (a / 2 ^ i % 2) 1 p in
    let y = eqb-false (b / 2 ^ i % 2) 1 q in
    let z : bit_xor a b / 2 ^ i % 2 ≡ 1 = omega (arith, bit-xor a b i) in
    rw z

other-bit : (a b i : ℕ) → has_bit a i ≡ false → has_bit b i ≡ true → has_bit (bit_xor a b) i ≡ true
other-bit a b i p q =
    let x = eqb-false (a / 2 ^ i % 2) 1 p in
    let y = eqb-true (b / 2 ^ i % 2) 1 q in
    let z : bit_xor a b / 2 ^ i % 2 ≡ 1 = omega (arith, bit-xor a b i) in
    rw z

no_bits : (a b i : ℕ) → has_bit a i ≡ false → has_bit b i ≡ false → has_bit (bit_xor a b) i ≡ false
no_bits a b i p q =
    let x = eqb-false (a / 2 ^ i % 2) 1 p in
    let y = eqb-false (b / 2 ^ i % 2) 1 q in
    let z : bit_xor a b / 2 ^ i % 2 ≡ 0 = omega (arith, bit-xor a b i) in
    rw z

cleared-xor : (i row a b : ℕ) → cleared i row (bit_xor a b) ≡ bit_xor (cleared i row a) (cleared i row b)
unfolding cleared
cleared-xor i row a b = ⊎_elim
    (λ (p : has_bit a i ≡ true). ⊎_elim
    (λ (q : has_bit b i ≡ true). rw (both_bits a b i p q, p, q) (sym (xor-both a b row)))
    (λ (q : has_bit b i ≡ false). rw (one_bit a b i p q, p, q) (xor-swap a b row))
    (bool_cases (has_bit b i)))
    (λ (p : has_bit a i ≡ false). ⊎_elim
    (λ (q : has_bit b i ≡ true). rw (other-bit a b i p q, p, q) (xor_assoc a b row))
    (λ (q : has_bit b i ≡ false). rw (no_bits a b i p q, p, q))
    (bool_cases (has_bit b i)))
    (bool_cases (has_bit a i))

reduced-xor : (i : ℕ) (rows : List ℕ) (a b : ℕ) → reduced i rows (bit_xor a b) ≡ bit_xor (reduced i rows a) (reduced i rows b)
unfolding reduced
reduced-xor i [] a b = refl
reduced-xor i (row ∷ rows) a b =
    ap (reduced (suc i) rows) (cleared-xor i row a b) ∙ reduced-xor (suc i) rows (cleared i row a) (cleared i row b)

pub reduced-zero : (i : ℕ) (rows : List ℕ) → reduced i rows 0 ≡ 0
reduced-zero i rows = reduced-xor i rows 0 0 ∙ xor_self (reduced i rows 0)

pub sum-reduced : (rows pages : List ℕ) → ((i : ℕ) → i < length pages → reduced 0 rows (get_or pages i 0) ≡ 0)
    → (v : ℕ) → is_sum pages v ≡ true → reduced 0 rows v ≡ 0
unfolding is_sum
sum-reduced rows [] h v s = rw (eqb-true v 0 s) (reduced-zero 0 rows)
sum-reduced rows (page ∷ pages) h v s =
    let rest : (w : ℕ) → is_sum pages w ≡ true → reduced 0 rows w ≡ 0 = sum-reduced rows pages (λ i l. h (suc i) (omega arith)) in
    ⊎_elim
    (λ (e : is_sum pages v ≡ true). rest v e)
    (λ (e : is_sum pages (bit_xor v page) ≡ true).
    let first : reduced 0 rows page ≡ 0 = h 0 (omega arith) in
    sym (xor_zero_r (reduced 0 rows v)) ∙ ap (bit_xor (reduced 0 rows v)) (sym first) ∙ sym (reduced-xor 0 rows v page) ∙ rest (bit_xor v page) e)
    (or_cases (is_sum pages v) (is_sum pages (bit_xor v page)) s)
