-- Laws of a table of masks that has a bit for each of 4,096 pages.
use Rattle.flash.proofs.Kit.{◌≡◌, refl, ap, ◌∙◌, ⊎_elim, true, false, not, List, ℕ, zero, suc, ◌+◌, ◌-◌, ◌/◌, ◌%◌, ◌^◌, ◌≤◌, ◌<◌}
use Rattle.flash.proofs.Kit.{arith, div-one, div-le_self, div-eq_of_lt, zero-div, shr-shr, pow-suc, eqb, get_or, replicate}
use Rattle.split.specs.inner.Mask.{bit_at, lowest_zero, is_marked}
use Rattle.flash.proofs.Comparisons.{lt-cases}
use Rattle.split.proofs.MaskLaws.{zeros-at, no_bits, bit-lt, bit-suc, comp-half, comp-odd, ones_below, zero-there}

pub unmarked : (count x : ℕ) → is_marked (replicate count 0) x ≡ false
unmarked count x = ap (λ (mask : ℕ). eqb (bit_at mask (x % 64)) 1) (zeros-at count (x / 64)) ∙ ap (λ (bit : ℕ). eqb bit 1) (no_bits (x % 64))

-- the bits of a complement
complement-bit : (k mask bit : ℕ) → mask < 2 ^ k → bit < k → bit_at ((2 ^ k - 1) - mask) bit ≡ 1 - bit_at mask bit
complement-bit zero mask bit h l = absurd (omega arith)
complement-bit (suc k) mask zero h l = rw (div-one mask, div-one ((2 ^ suc k - 1) - mask)) (comp-odd k mask h)
complement-bit (suc k) mask (suc bit) h l =
    let e = pow-suc 2 k in
    bit-suc ((2 ^ suc k - 1) - mask) bit ∙ rw (comp-half k mask h, bit-suc mask bit) (complement-bit k (mask / 2) bit (omega arith) (omega arith))

pub flipped-mark : (masks after : List ℕ) (x : ℕ) → get_or masks (x / 64) 0 < 2 ^ 64 → get_or after (x / 64) 0 ≡ (2 ^ 64 - 1) - get_or masks (x / 64) 0
    → is_marked after x ≡ not (is_marked masks x)
flipped-mark masks after x h e =
    rw (e, complement-bit 64 (get_or masks (x / 64) 0) (x % 64) h (omega arith)) (negated (bit_at (get_or masks (x / 64) 0) (x % 64)) (bit-lt _ _))
  where
    negated : (bit : ℕ) → bit < 2 → eqb (1 - bit) 1 ≡ not (eqb bit 1)
    negated zero l = refl
    negated (suc zero) l = refl
    negated (suc (suc bit)) l = absurd (omega arith)

-- ---- the marks of one mask from a place on, which are those of the mask shifted
module _ (masks : List ℕ) (at : ℕ) (wide : get_or masks (at / 64) 0 < 2 ^ 64) where
  abbrev rest : ℕ
  rest = get_or masks (at / 64) 0 / 2 ^ (at % 64)

  -- how many bits are passed over
  abbrev skipped : ℕ
  skipped = lowest_zero ((2 ^ 64 - 1) - rest)

  rest_lt : rest < 2 ^ 64
  rest_lt = omega (arith, div-le_self (get_or masks (at / 64) 0) (2 ^ (at % 64)))

  rest-marked : (bit : ℕ) → at % 64 + bit < 64 → is_marked masks (at + bit) ≡ eqb (bit_at rest bit) 1
  rest-marked bit h =
      let mask : (at + bit) / 64 ≡ at / 64 = omega arith in
      let place : (at + bit) % 64 ≡ at % 64 + bit = omega arith in
      rw (mask, place, shr-shr)

  -- no bit is behind those of the mask
  rest-ends : (bit : ℕ) → 64 ≤ at % 64 + bit → bit_at rest bit ≡ 0
  rest-ends bit h =
      let behind : at % 64 + bit ≡ 64 + ((at % 64 + bit) - 64) = omega arith in
      rw (shr-shr, behind, ← shr-shr, div-eq_of_lt wide, zero-div)

  pub skips : (bit : ℕ) → bit < skipped → at % 64 + bit < 64 → is_marked masks (at + bit) ≡ false
  skips bit h l =
      let one = complement-bit 64 rest bit rest_lt (omega arith) in
      let none : bit_at rest bit ≡ 0 = omega (arith, one, ones_below ((2 ^ 64 - 1) - rest) bit h, bit-lt rest bit) in
      rest-marked bit l ∙ rw none

  module _ (some : skipped < 64) where
    found : bit_at rest skipped ≡ 1
    found =
        omega (arith, complement-bit 64 rest skipped rest_lt some, zero-there ((2 ^ 64 - 1) - rest) some, bit-lt rest skipped)

    pub skipped-lt : at % 64 + skipped < 64
    skipped-lt = ⊎_elim
        (λ (l : at % 64 + skipped < 64). l)
        (λ (l : 64 ≤ at % 64 + skipped). absurd (omega (arith, found, rest-ends skipped l)))
        (lt-cases (at % 64 + skipped) 64)

    pub skipped-marked : is_marked masks (at + skipped) ≡ true
    skipped-marked = rest-marked skipped skipped-lt ∙ rw found
