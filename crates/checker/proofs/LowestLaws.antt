-- Which bit of a mask is its lowest.
use Rattle.flash.proofs.Kit.{◌≡◌, sym, ◌∙◌, ◌≢◌, ⊎_elim, true, false, ℕ, zero, suc, ◌+◌, ◌-◌, ◌*◌, ◌/◌, ◌%◌, ◌^◌, ◌≤◌, ◌<◌, mod-eq_of_lt, mod-lt, div-eq_of_lt, div-one, zero-div, zero-mod}
use Rattle.flash.proofs.Kit.{add-one, one-add, arith, count_trailing_zeros, trailing_le, eqb-false}
use native.Mathlib.Nat.{mod-one}
use lib.Pow.{mod-pow-add, mod-mod-pow, field, pow_mono}
use Rattle.flash.proofs.Bools.{never_both}
use Rattle.flash.proofs.Comparisons.{eq-cases, lt-cases}
use Rattle.split.proofs.MaskLaws.{bit-suc}
use Rattle.checker.specs.inner.Elimination.{has_bit, lowest_bit}

-- ---- no bit below i
-- and no bit i
pub clear-more : (v i : ℕ) → v % 2 ^ i ≡ 0 → has_bit v i ≡ false → v % 2 ^ suc i ≡ 0
clear-more v i h n =
    let z : v / 2 ^ i % 2 ≡ 0 = omega (arith, eqb-false (v / 2 ^ i % 2) 1 n) in
    rw (← one-add i) (mod-pow-add v 1 i ∙ rw (z, h) (omega arith))

pub no-bit : (v i : ℕ) → v % 2 ^ suc i ≡ 0 → has_bit v i ≡ false
no-bit v i h =
    let z : v / 2 ^ i % 2 ≡ 0 = sym (field v 1 i) ∙ rw (one-add i, h) (zero-div (2 ^ i)) in
    rw z

pub lower : (a b i : ℕ) → a % 2 ^ suc i ≡ b % 2 ^ suc i → a % 2 ^ i ≡ b % 2 ^ i
lower a b i e = sym (mod-mod-pow a 1 i) ∙ rw (one-add i, e, ← one-add i) (mod-mod-pow b 1 i)

-- none at any place below
pub no-bit-below : (v i j : ℕ) → i < j → v % 2 ^ j ≡ 0 → has_bit v i ≡ false
no-bit-below v i j h z =
    let e : j - suc i + suc i ≡ j = omega arith in
    no-bit v i (sym (mod-mod-pow v (j - suc i) (suc i)) ∙ rw (e, z) (zero-mod (2 ^ suc i)))

-- nothing is left
pub clear_zero : (count v : ℕ) → count ≤ 64 → v < 2 ^ count → v % 2 ^ 64 ≡ 0 → v ≡ 0
clear_zero count v few small z =
    let p = pow_mono {i = count} {j = 64} few in
    sym (mod-eq_of_lt {n = v} {m = 2 ^ 64} (omega arith)) ∙ z

-- a bit lies within the bound of its mask
pub bit-within : (count v i : ℕ) → v < 2 ^ count → has_bit v i ≡ true → i < count
bit-within count v i small b = ⊎_elim
    (λ (l : i < count). l)
    (λ (l : count ≤ i).
    let p = pow_mono {i = count} {j = i} l in
    let none : v / 2 ^ i ≡ 0 = div-eq_of_lt (omega arith) in
    absurd (never_both b (rw none)))
    (lt-cases i count)

-- ---- counting trailing zeros
-- the lowest digit and the others
halves : (v i : ℕ) → v % 2 ^ suc i ≡ (v / 2 % 2 ^ i) * 2 + v % 2
halves v i = rw (← add-one i) (mod-pow-add v i 1)

lowest-clear : (k v : ℕ) → v % 2 ^ count_trailing_zeros k v ≡ 0
unfolding count_trailing_zeros
lowest-clear zero v = mod-one v
lowest-clear (suc k) v = ⊎_elim
    (λ (e : v % 2 ≡ 0). rw e (halves v (count_trailing_zeros k (v / 2)) ∙ rw (e, lowest-clear k (v / 2))))
    (λ (e : v % 2 ≢ 0). let one : v % 2 ≡ 1 = omega (arith, mod-lt v {m = 2} (omega arith)) in rw one (mod-one v))
    (eq-cases (v % 2) 0)

lowest-there : (k v : ℕ) → count_trailing_zeros k v < k → v / 2 ^ count_trailing_zeros k v % 2 ≡ 1
unfolding count_trailing_zeros
lowest-there zero v = λ (h : 0 < 0). absurd (omega arith)
lowest-there (suc k) v = ⊎_elim
    (λ (e : v % 2 ≡ 0). rw e (λ (h : suc (count_trailing_zeros k (v / 2)) < suc k). bit-suc v (count_trailing_zeros k (v / 2)) ∙ lowest-there k (v / 2) (omega arith)))
    (λ (e : v % 2 ≢ 0). let one : v % 2 ≡ 1 = omega (arith, mod-lt v {m = 2} (omega arith)) in rw one (λ (h : 0 < suc k). rw (div-one v, one)))
    (eq-cases (v % 2) 0)

-- no bit stands below it
lowest-above : (k v i : ℕ) → i ≤ k → v % 2 ^ i ≡ 0 → i ≤ count_trailing_zeros k v
unfolding count_trailing_zeros
lowest-above k v zero h z = omega arith
lowest-above zero v (suc i) h z = absurd (omega arith)
lowest-above (suc k) v (suc i) h z =
    let s = halves v i in
    let e : v % 2 ≡ 0 = omega arith in
    let f : v / 2 % 2 ^ i ≡ 0 = omega arith in
    let l = lowest-above k (v / 2) i (omega arith) f in
    rw e (omega arith)

-- bit i is the lowest
pub record Lowest (v i : ℕ) : Type 0 where
  pub within : i < 64
  pub clear : v % 2 ^ i ≡ 0
  pub there : has_bit v i ≡ true

pub lowest-bit : (v : ℕ) → v ≢ 0 → v < 2 ^ 64 → Lowest v (lowest_bit v)
lowest-bit v some small = ⊎_elim
    (λ (l : lowest_bit v < 64). record { within = l; clear = lowest-clear 64 v; there = rw (lowest-there 64 v l) })
    (λ (l : 64 ≤ lowest_bit v).
    let e : lowest_bit v ≡ 64 = omega (arith, trailing_le 64 v) in
    absurd (some (clear_zero 64 v (omega arith) small (rw e at (lowest-clear 64 v)))))
    (lt-cases (lowest_bit v) 64)

pub lowest-rises : (v i : ℕ) → i < 64 → v % 2 ^ suc i ≡ 0 → i < lowest_bit v
lowest-rises v i h z = lowest-above 64 v (suc i) h z
