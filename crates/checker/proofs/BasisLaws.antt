-- A basis of the pages, its growth by a page, and that it decides which masks are sums of pages.
use Rattle.flash.proofs.Kit.{◌≡◌, refl, sym, ◌∙◌, ◌≢◌, ⊎_elim, true, false, true≢false, List, [], ◌∷◌, ℕ, zero, suc, ◌+◌, ◌%◌, ◌^◌, ◌≤◌, ◌<◌}
use Rattle.flash.proofs.Kit.{zero-div, zero-mod, pow_pos, arith, length, get_or, replicate, bit_xor, xor_self, xor_zero_r, eqb, ne_eqb, below_more}
use native.Mathlib.Nat.{mod-one}
use lib.Bits.{xor_mod, xor_lt}
use lib.Pow.{pow_mono}
use Rattle.flash.proofs.Bools.{bool_cases}
use Rattle.flash.proofs.Xor.{xor-cancel}
use Rattle.checker.specs.Pages.{is_sum}
use Rattle.checker.specs.inner.Elimination.{has_bit, Echelon, cleared, inserted}
use Rattle.checker.proofs.SumLaws.{sum-none, sum-page, sum-xor}
use Rattle.checker.proofs.LowestLaws.{clear-more, no-bit, lower, clear_zero}
use Rattle.checker.proofs.ReduceLaws.{both_bits, reduced, reduced-zero, sum-reduced}

-- ---- a basis
-- a mask of originals below `most` that has no bit below i
pub record From (most i v : ℕ) : Type 0 where
  pub small : v < 2 ^ most
  pub clear : v % 2 ^ i ≡ 0

-- the rows from row i on: a row is empty, or a sum of pages whose lowest bit is the row's
pub data Basis (most : ℕ) (pages : List ℕ) : ℕ → List ℕ → Type 0 where
  end : Basis most pages 64 []
  gap : {i : ℕ} {rows : List ℕ} → Basis most pages (suc i) rows → Basis most pages i (0 ∷ rows)
  full : {i row : ℕ} {rows : List ℕ} → is_sum pages row ≡ true → From most i row → has_bit row i ≡ true → Basis most pages (suc i) rows
      → Basis most pages i (row ∷ rows)

empty-basis : (most : ℕ) (pages : List ℕ) (i n : ℕ) → i + n ≡ 64 → Basis most pages i (replicate n 0)
empty-basis most pages i zero e = let s : i ≡ 64 = omega arith in rw s end
empty-basis most pages i (suc n) e = gap (empty-basis most pages (suc i) n (omega arith))

basis-size : {most : ℕ} {pages : List ℕ} {i : ℕ} {rows : List ℕ} → Basis most pages i rows → i + length rows ≡ 64
basis-size end = refl
basis-size (gap b) = let n = basis-size b in omega arith
basis-size (full s r q b) = let n = basis-size b in omega arith

-- an empty row changes nothing
pub cleared-gap : (i v : ℕ) → cleared i 0 v ≡ v
unfolding cleared
cleared-gap i v = ⊎_elim
    (λ (q : has_bit v i ≡ true). rw (q, xor_zero_r))
    (λ (q : has_bit v i ≡ false). rw q)
    (bool_cases (has_bit v i))

-- a row that has no bit below i changes none
cleared-low : (i row v : ℕ) → row % 2 ^ i ≡ 0 → cleared i row v % 2 ^ i ≡ v % 2 ^ i
unfolding cleared
cleared-low i row v h = ⊎_elim
    (λ (q : has_bit v i ≡ true). rw (q, xor_mod, h, xor_zero_r))
    (λ (q : has_bit v i ≡ false). rw q)
    (bool_cases (has_bit v i))

-- and so do all rows from i on
pub reduced-low : {most : ℕ} {pages : List ℕ} {i : ℕ} {rows : List ℕ} → Basis most pages i rows → (v : ℕ) → reduced i rows v % 2 ^ i ≡ v % 2 ^ i
unfolding reduced
reduced-low end v = refl
reduced-low {i = i} (gap {rows = rows} b) v = rw (cleared-gap i v) (lower (reduced (suc i) rows v) v i (reduced-low b v))
reduced-low {i = i} (full {row = row} {rows = rows} s r q b) v =
    lower (reduced (suc i) rows (cleared i row v)) (cleared i row v) i (reduced-low b (cleared i row v))
    ∙ cleared-low i row v r.clear

-- what reduces to a sum of pages is one
reduced-sound : {most : ℕ} {pages : List ℕ} {i : ℕ} {rows : List ℕ} → Basis most pages i rows
    → (v : ℕ) → is_sum pages (reduced i rows v) ≡ true → is_sum pages v ≡ true
unfolding reduced cleared
reduced-sound end v s = s
reduced-sound {i = i} (gap b) v s = reduced-sound b v (rw (cleared-gap i v) at s)
reduced-sound {pages = pages} {i = i} (full {row = row} p r q b) v s =
    let t = reduced-sound b (cleared i row v) s in
    ⊎_elim
    (λ (e : has_bit v i ≡ true). rw (xor-cancel v row) at (sum-xor pages (bit_xor v row) row (rw e at t) p))
    (λ (e : has_bit v i ≡ false). rw e at t)
    (bool_cases (has_bit v i))

-- ---- inserting a page
from_more : {most i v : ℕ} → From most i v → has_bit v i ≡ false → From most (suc i) v
from_more {i = i} {v = v} s q = record { small = s.small; clear = clear-more v i s.clear q }

from-xor : {most i a b : ℕ} → From most i a → From most i b → From most i (bit_xor a b)
from-xor {most} {a = a} {b = b} s t = record { small = xor_lt most a b s.small t.small; clear = rw (xor_mod, s.clear, t.clear) }

pub from-cleared : {most i v row : ℕ} → From most i v → From most i row → has_bit row i ≡ true → From most (suc i) (cleared i row v)
unfolding cleared
from-cleared {i = i} {v = v} {row = row} s r q = ⊎_elim
    (λ (p : has_bit v i ≡ true). rw p (from_more (from-xor s r) (both_bits v row i p q)))
    (λ (p : has_bit v i ≡ false). rw p (from_more s p))
    (bool_cases (has_bit v i))

sum-cleared : (pages : List ℕ) (i v row : ℕ) → is_sum pages v ≡ true → is_sum pages row ≡ true → is_sum pages (cleared i row v) ≡ true
unfolding cleared
sum-cleared pages i v row s r = ⊎_elim
    (λ (p : has_bit v i ≡ true). rw p (sum-xor pages v row s r))
    (λ (p : has_bit v i ≡ false). rw p s)
    (bool_cases (has_bit v i))

pub full-some : (i row : ℕ) → has_bit row i ≡ true → eqb row 0 ≡ false
full-some i row q = ne_eqb row 0 (λ (z : row ≡ 0). true≢false (sym q ∙ rw (z, zero-div)))

-- by the rows `out` v reduces to nothing, and so does all that did by `rows`
record Grown (most : ℕ) (pages rows : List ℕ) (i v : ℕ) (out : List ℕ) : Type 0 where
  basis : Basis most pages i out
  new : reduced i out v ≡ 0
  old : (w : ℕ) → reduced i rows w ≡ 0 → reduced i out w ≡ 0

-- the row is kept, and the rows above it have grown
grown-above : {most i v row : ℕ} {pages rows out : List ℕ} → (Basis most pages (suc i) out → Basis most pages i (row ∷ out))
    → Grown most pages rows (suc i) (cleared i row v) out → Grown most pages (row ∷ rows) i v (row ∷ out)
unfolding reduced
grown-above {i = i} {row = row} f g = record { basis = f g.basis; new = g.new; old = λ w e. g.old (cleared i row w) e }

-- v goes into an empty row: what reduced to nothing before has not the row's bit there
grown-stored : {most i v : ℕ} {pages rows : List ℕ} → Basis most pages (suc i) rows → is_sum pages v ≡ true → From most i v → has_bit v i ≡ true
    → Grown most pages (0 ∷ rows) i v (v ∷ rows)
unfolding reduced cleared
grown-stored {i = i} {rows = rows} b t s q = record {
  basis = full t s q b;
  new = rw (q, xor_self) (reduced-zero (suc i) rows);
  old = λ w e.
      let r : reduced (suc i) rows w ≡ 0 = rw (cleared-gap i w) at e in
      let c : w % 2 ^ suc i ≡ 0 = sym (reduced-low b w) ∙ rw r (zero-mod (2 ^ suc i)) in
      rw (no-bit w i c) r;
}

-- nothing is left at the end
grown-end : {most v : ℕ} {pages : List ℕ} → most ≤ 64 → From most 64 v → Grown most pages [] 64 v []
unfolding reduced
grown-end {most} {v} few s = record { basis = end; new = clear_zero most v few s.small s.clear; old = λ w e. e }

inserted-grows : {most : ℕ} {pages : List ℕ} {i v : ℕ} {rows : List ℕ} → most ≤ 64 → Basis most pages i rows → is_sum pages v ≡ true → From most i v
    → Grown most pages rows i v (inserted i rows v)
unfolding inserted
inserted-grows few end t s = grown-end few s
inserted-grows {pages = pages} {i = i} {v = v} few (gap b) t s = ⊎_elim
    (λ (q : has_bit v i ≡ true). rw q (grown-stored b t s q))
    (λ (q : has_bit v i ≡ false).
    rw q (grown-above gap (inserted-grows few b (rw (cleared-gap i v) t) (rw (cleared-gap i v) (from_more s q)))))
    (bool_cases (has_bit v i))
inserted-grows {pages = pages} {i = i} {v = v} few (full {row = row} p r q b) t s =
    rw (full-some i row q) (grown-above (full p r q) (inserted-grows few b (sum-cleared pages i v row t p) (from-cleared s r q)))

-- ---- the rows stand for the first n pages
pub record Spans (most : ℕ) (pages : List ℕ) (n : ℕ) (rows : List ℕ) : Type 0 where
  pub basis : Basis most pages 0 rows
  pub vanish : (k : ℕ) → k < n → reduced 0 rows (get_or pages k 0) ≡ 0

pub spans-none : (most : ℕ) (pages : List ℕ) → Spans most pages 0 (replicate 64 0)
spans-none most pages = record { basis = empty-basis most pages 0 64 refl; vanish = λ k h. absurd (omega arith) }

pub spans-more : (most : ℕ) (pages rows : List ℕ) (n : ℕ) → most ≤ 64 → n < length pages → get_or pages n 0 < 2 ^ most → Spans most pages n rows
    → Spans most pages (n + 1) (inserted 0 rows (get_or pages n 0))
spans-more most pages rows n few h l s =
    let g = inserted-grows few s.basis (sum-page pages n h) (record { small = l; clear = mod-one (get_or pages n 0) }) in
    record {
      basis = g.basis;
      vanish = below_more _ _ (λ k j. g.old (get_or pages k 0) (s.vanish k j)) g.new;
    }

-- a row that is not empty has its own bit for its lowest
row-lowest : {most : ℕ} {pages : List ℕ} {i : ℕ} {rows : List ℕ} → Basis most pages i rows → (d j : ℕ) → i + d ≡ j → get_or rows d 0 ≢ 0
    → (get_or rows d 0 % 2 ^ j ≡ 0) × (has_bit (get_or rows d 0) j ≡ true)
row-lowest end d j e some = absurd (some refl)
row-lowest (gap b) zero j e some = absurd (some refl)
row-lowest (gap b) (suc d) j e some = row-lowest b d j (omega arith) some
row-lowest {i = i} (full p r q b) zero j e some = let here : j ≡ i = omega arith in rw here (r.clear, q)
row-lowest (full p r q b) (suc d) j e some = row-lowest b d j (omega arith) some

row_small : {most : ℕ} {pages : List ℕ} {i : ℕ} {rows : List ℕ} → Basis most pages i rows → (d : ℕ) → get_or rows d 0 < 2 ^ most
row_small {most} end d = pow_pos most
row_small {most} (gap b) zero = pow_pos most
row_small (gap b) (suc d) = row_small b d
row_small (full p r q b) zero = r.small
row_small (full p r q b) (suc d) = row_small b d

pub spans-echelon : {most n : ℕ} {pages rows : List ℕ} → most ≤ 64 → Spans most pages n rows → Echelon rows
spans-echelon {most} few s = record {
  size = (let n = basis-size s.basis in omega arith);
  small = λ i h. omega (arith, row_small s.basis i, pow_mono {i = most} {j = 64} few);
  lowest = λ i h some. row-lowest s.basis i i (omega arith) some;
}

-- once all pages are in, a mask reduces to nothing just if it is a sum of pages
module _ (most : ℕ) (pages rows : List ℕ) (n : ℕ) (s : Spans most pages n rows) (h : length pages ≤ n) (v : ℕ) where
  pub spans-sound : reduced 0 rows v ≡ 0 → is_sum pages v ≡ true
  spans-sound e = reduced-sound s.basis v (rw e (sum-none pages))

  pub spans-whole : is_sum pages v ≡ true → reduced 0 rows v ≡ 0
  spans-whole t = sum-reduced rows pages (λ k l. s.vanish k (omega arith)) v t
