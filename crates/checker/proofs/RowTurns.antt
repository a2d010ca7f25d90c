-- What a turn of `insert` leaves: the mask goes into an empty row, or a filled row is added to it.
use Rattle.flash.proofs.Kit.{◌≡◌, refl, sym, ap, ◌∙◌, ◌≢◌, true, false, and-false, List, [], ◌∷◌, ℕ, zero, suc, ◌+◌, ◌-◌, ◌%◌, ◌^◌, ◌<◌, zero-div, arith, length, get_or, set}
use Rattle.flash.proofs.Kit.{bit_xor, ne_eqb}
use lib.Bits.{xor_mod, xor_lt}
use Rattle.checker.specs.inner.Elimination.{has_bit, lowest_bit, Echelon, filled_rows, cleared, inserted}
use Rattle.checker.proofs.ReduceLaws.{both_bits}
use Rattle.checker.proofs.LowestLaws.{clear-more, no-bit-below, Lowest, lowest-bit, lowest-rises}
use Rattle.checker.proofs.FilledLaws.{filled_more}

-- a row whose bit the mask has not is passed
passed : (i row : ℕ) (rows : List ℕ) (v : ℕ) → has_bit v i ≡ false → inserted i (row ∷ rows) v ≡ row ∷ inserted (suc i) rows v
unfolding inserted cleared
passed i row rows v n = rw (n, and-false)

pub inserted-none : (i : ℕ) (rows : List ℕ) → inserted i rows 0 ≡ rows
unfolding inserted
inserted-none i [] = refl
inserted-none i (row ∷ rows) = passed i row rows 0 (rw zero-div) ∙ ap (λ (l : List ℕ). row ∷ l) (inserted-none (suc i) rows)

-- bit j is the mask's lowest, and row j stands at d
module _ (v j : ℕ) (low : v % 2 ^ j ≡ 0) (bit : has_bit v j ≡ true) where
  inserted-put : (i : ℕ) (rows : List ℕ) (d : ℕ) → i + d ≡ j → d < length rows → get_or rows d 0 ≡ 0 → inserted i rows v ≡ set rows d v
  unfolding inserted
  inserted-put i [] d e h z = absurd (omega arith)
  inserted-put i (row ∷ rows) zero e h z = let here : i ≡ j = omega arith in rw (z, here, bit)
  inserted-put i (row ∷ rows) (suc d) e h z =
      passed i row rows v (no-bit-below v i j (omega arith) low) ∙ ap (λ (l : List ℕ). row ∷ l) (inserted-put (suc i) rows d (omega arith) (omega arith) z)

  inserted-add : (i : ℕ) (rows : List ℕ) (d : ℕ) → i + d ≡ j → d < length rows → get_or rows d 0 ≢ 0 → get_or rows d 0 % 2 ^ j ≡ 0
      → has_bit (get_or rows d 0) j ≡ true → inserted i rows v ≡ inserted i rows (bit_xor v (get_or rows d 0))
  unfolding inserted cleared
  inserted-add i [] d e h some clear there = absurd (omega arith)
  inserted-add i (row ∷ rows) zero e h some clear there =
      let here : i ≡ j = omega arith in
      rw (ne_eqb row 0 some, here, bit, both_bits v row j bit there)
  inserted-add i (row ∷ rows) (suc d) e h some clear there =
      let other = get_or rows d 0 in
      let both : bit_xor v other % 2 ^ j ≡ 0 = rw (xor_mod, low, clear) in
      passed i row rows v (no-bit-below v i j (omega arith) low)
      ∙ ap (λ (l : List ℕ). row ∷ l) (inserted-add (suc i) rows d (omega arith) (omega arith) some clear there)
      ∙ sym (passed i row rows (bit_xor v other) (no-bit-below (bit_xor v other) i j (omega arith) both))

-- ---- one turn over the rows of a basis, with a mask that is not 0
module _ (rows : List ℕ) (E : Echelon rows) (v : ℕ) (some : v ≢ 0) (small : v < 2 ^ 64) (i : ℕ) (found : i ≡ lowest_bit v) where
  lowest : Lowest v i
  lowest = rw found (lowest-bit v some small)

  pub bit-inside : i < 64
  bit-inside = lowest.within

  inside : i < length rows
  inside = omega (arith, lowest.within, E.size)

  pub turn-put : get_or rows i 0 ≡ 0 → (filled_rows rows + 1 ≡ filled_rows (set rows i v)) × (set rows i v ≡ inserted 0 rows v)
  turn-put z = (
    sym (filled_more rows i v inside z some),
    sym (inserted-put v i lowest.clear lowest.there 0 rows i (omega arith) inside z),
  )

  pub turn-add : get_or rows i 0 ≢ 0 → (64 - lowest_bit (bit_xor v (get_or rows i 0)) < 64 - lowest_bit v) × (bit_xor v (get_or rows i 0) < 2 ^ 64)
      × (inserted 0 rows v ≡ inserted 0 rows (bit_xor v (get_or rows i 0)))
  turn-add full =
      let row = get_or rows i 0 in
      let e = E.lowest i lowest.within full in
      let both : bit_xor v row % 2 ^ i ≡ 0 = rw (xor_mod, lowest.clear, e.0) in
      let rises = lowest-rises (bit_xor v row) i lowest.within (clear-more (bit_xor v row) i both (both_bits v row i lowest.there e.1)) in (
        omega (arith, lowest.within, found, rises),
        xor_lt 64 v row small (E.small i lowest.within),
        inserted-add v i lowest.clear lowest.there 0 rows i (omega arith) inside full e.0 e.1,
      )
