-- All originals are determined just if as many rows are filled.
use Rattle.flash.proofs.Kit.{◌≡◌, refl, sym, ap, ◌∙◌, ◌≢◌, ⊎_elim, true, false, List, [], ◌∷◌, ℕ, zero, suc, ◌+◌, ◌-◌, ◌%◌, ◌^◌, ◌≤◌, ◌<◌, arith}
use Rattle.flash.proofs.Kit.{mod-eq_of_lt, zero-mod, pow-lt, pow_pos, length, get_or, set, replicate, eqb, eqb-true, eq-eqb, ne_eqb}
use native.Mathlib.Nat.{mod-one}
use lib.Pow.{pow_mono}
use Rattle.flash.specs.Lists.{count}
use Rattle.flash.proofs.Bools.{bool_cases, bool_eq}
use Rattle.flash.proofs.Comparisons.{lt-cases}
use Rattle.flash.proofs.Ranges.{all_in, all-is}
use Rattle.split.proofs.MaskLaws.{power-other}
use Rattle.checker.specs.Pages.{is_sum, are_determined}
use Rattle.checker.specs.inner.Elimination.{filled_rows, cleared}
use Rattle.checker.proofs.LowestLaws.{clear_zero, bit-within}
use Rattle.checker.proofs.ReduceLaws.{reduced, reduced-zero}
use Rattle.checker.proofs.BasisLaws.{From, Basis, end, gap, full, full-some, cleared-gap, from-cleared, reduced-low, Spans, spans-sound, spans-whole}

-- ---- how many rows are filled
pub filled-few : (rows : List ℕ) → filled_rows rows ≤ length rows
unfolding count
filled-few [] = omega arith
filled-few (row ∷ rows) = ⊎_elim
    (λ (e : eqb row 0 ≡ true). rw e (omega (arith, filled-few rows)))
    (λ (e : eqb row 0 ≡ false). rw e (omega (arith, filled-few rows)))
    (bool_cases (eqb row 0))

pub filled_none : (n : ℕ) → filled_rows (replicate n 0) ≡ 0
unfolding count
filled_none zero = refl
filled_none (suc n) = filled_none n

-- a mask goes into an empty row
pub filled_more : (rows : List ℕ) (i v : ℕ) → i < length rows → get_or rows i 0 ≡ 0 → v ≢ 0 → filled_rows (set rows i v) ≡ filled_rows rows + 1
unfolding count
filled_more [] i v h z some = absurd (omega arith)
filled_more (row ∷ rows) zero v h z some = rw (ne_eqb v 0 some, z) (omega arith)
filled_more (row ∷ rows) (suc i) v h z some = ⊎_elim
    (λ (e : eqb row 0 ≡ true). rw e (filled_more rows i v (omega arith) z some))
    (λ (e : eqb row 0 ≡ false). rw e (omega (arith, filled_more rows i v (omega arith) z some)))
    (bool_cases (eqb row 0))

-- ---- rows of originals below `most` alone
-- they are no more than there are originals from row i on
rows_few : {most : ℕ} {pages : List ℕ} {i : ℕ} {rows : List ℕ} → Basis most pages i rows → filled_rows rows ≤ most - i
unfolding count
rows_few end = omega arith
rows_few (gap b) = let n = rows_few b in omega arith
rows_few {most} {i = i} (full {row = row} p r q b) =
    let n = rows_few b in
    let w = bit-within most row i r.small q in
    rw (full-some i row q) (omega arith)

-- if they are as many, each mask of these originals reduces to nothing
all-vanish : {most : ℕ} {pages : List ℕ} {i : ℕ} {rows : List ℕ} → most ≤ 64 → Basis most pages i rows → most - i ≤ filled_rows rows
    → (v : ℕ) → From most i v → reduced i rows v ≡ 0
unfolding count reduced
all-vanish {most} few end n v s = clear_zero most v few s.small s.clear
all-vanish {most} {i = i} few (gap {rows = rows} b) n v s =
    let p = pow_mono {i = most} {j = i} (omega (arith, rows_few b)) in
    let none : v ≡ 0 = sym (mod-eq_of_lt {n = v} {m = 2 ^ i} (omega (arith, s.small))) ∙ s.clear in
    rw (none, cleared-gap i 0) (reduced-zero (suc i) rows)
all-vanish {most} {i = i} few (full {row = row} p r q b) n v s =
    let w = bit-within most row i r.small q in
    let above = rw (full-some i row q) at n in
    all-vanish few b (omega arith) (cleared i row v) (from-cleared s r q)

-- an original has its own bit alone
one-cleared : (i row k : ℕ) → i < k → cleared i row (2 ^ k) ≡ 2 ^ k
unfolding cleared
one-cleared i row k h = rw (power-other k i (λ e. absurd (omega arith)))

-- the original of an empty row keeps its bit
one-stays : {most i : ℕ} {pages rows : List ℕ} → Basis most pages (suc i) rows → reduced (suc i) rows (2 ^ i) ≢ 0
one-stays {i = i} {rows = rows} b e =
    let p = pow_pos i in
    let kept : 0 ≡ 2 ^ i = sym (ap (λ (x : ℕ). x % 2 ^ suc i) e ∙ zero-mod (2 ^ suc i)) ∙ reduced-low b (2 ^ i) ∙ mod-eq_of_lt (pow-lt {i = i} {j = suc i} (omega arith)) in
    absurd (omega arith)

-- if each original reduces to nothing, they are as many
all-filled : {most : ℕ} {pages : List ℕ} {i : ℕ} {rows : List ℕ} → most ≤ 64 → Basis most pages i rows
    → ((k : ℕ) → i ≤ k → k < most → reduced i rows (2 ^ k) ≡ 0)
    → most - i ≤ filled_rows rows
unfolding count reduced
all-filled few end f = omega arith
all-filled {most} {i = i} few (gap b) f = ⊎_elim
    (λ (l : i < most). absurd (one-stays b (rw (cleared-gap i (2 ^ i)) at (f i (omega arith) l))))
    (λ (l : most ≤ i). omega arith)
    (lt-cases i most)
all-filled {most} {i = i} few (full {row = row} p r q b) f =
    let n = all-filled few b (λ k l h. rw (one-cleared i row k l) at (f k (omega arith) h)) in
    rw (full-some i row q) (omega arith)

-- ---- all pages are in
module _ (most : ℕ) (few : most ≤ 64) (pages rows : List ℕ) (n : ℕ) (s : Spans most pages n rows) (h : length pages ≤ n) where
  determined : filled_rows rows ≡ most → are_determined most pages ≡ true
  unfolding are_determined
  determined e = all-is (λ k. is_sum pages (2 ^ k)) 0 most (λ k a l.
      spans-sound most pages rows n s h (2 ^ k)
      (all-vanish few s.basis (omega arith) (2 ^ k) (record { small = pow-lt (omega arith); clear = mod-one (2 ^ k) })))

  undetermined : are_determined most pages ≡ true → filled_rows rows ≡ most
  unfolding are_determined
  undetermined t =
      let up = all-filled few s.basis (λ k a l. spans-whole most pages rows n s h (2 ^ k) (all_in (λ k. is_sum pages (2 ^ k)) 0 most t k a (omega arith))) in
      let down = rows_few s.basis in
      omega arith

  pub filled-decides : eqb (filled_rows rows) most ≡ are_determined most pages
  filled-decides = bool_eq _ _ (λ t. determined (eqb-true (filled_rows rows) most t)) (λ t. eq-eqb (filled_rows rows) most (undetermined t))
