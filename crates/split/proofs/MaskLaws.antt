-- Laws of the bits of a mask.
use Rattle.flash.proofs.Kit.{◌≡◌, refl, ap, sym, ◌∙◌, ◌≢◌, ⊎_elim, Bool, true, false, cond, List, ℕ, zero, suc, ◌+◌, ◌-◌, ◌/◌, ◌%◌, ◌^◌}
use Rattle.flash.proofs.Kit.{◌≤◌, ◌<◌, max, pow-suc, div-eq_of_lt, div_self, div-one, mod-lt, zero-div, one-add, arith, eqb, length, get_or, set}
use Rattle.flash.proofs.Kit.{replicate, get_or-set_same, get_or-set_other, count_trailing_zeros, under, pow_pos, pow-lt, pow-add, shr-shr, shl-shr, bit_or}
use Rattle.flash.proofs.Kit.{or_step, or_shr, bit_xor, xor_step, xor_shr, differ, eqb-true, eqb-false}
use Rattle.flash.specs.Lists.{range, first}
use Rattle.split.specs.inner.Mask.{bit_at, lowest_zero, WithBit, FlippedAt}
use Rattle.flash.proofs.Bools.{bool_cases}
use Rattle.flash.proofs.Ranges.{First, Missed, first-cases}
use Rattle.flash.proofs.Comparisons.{lt-cases, eq-cases}

pub bit-lt : (mask bit : ℕ) → bit_at mask bit < 2
bit-lt mask bit = mod-lt (mask / 2 ^ bit) {m = 2} (omega arith)

pub no_bits : (bit : ℕ) → bit_at 0 bit ≡ 0
no_bits bit = rw zero-div

pub zeros-at : (n i : ℕ) → ◌≡◌ {A = ℕ} (get_or (replicate n 0) i 0) 0
zeros-at zero i = refl
zeros-at (suc n) zero = refl
zeros-at (suc n) (suc i) = zeros-at n i

-- bit k + 1 of a mask is bit k of its half
pub bit-suc : (mask bit : ℕ) → bit_at mask (suc bit) ≡ bit_at (mask / 2) bit
bit-suc mask bit = rw (← one-add bit, ← shr-shr)

-- one digit of the complement
pub comp-half : (k mask : ℕ) → mask < 2 ^ suc k → ((2 ^ suc k - 1) - mask) / 2 ≡ (2 ^ k - 1) - mask / 2
comp-half k mask h = let e = pow-suc 2 k in omega arith

pub comp-odd : (k mask : ℕ) → mask < 2 ^ suc k → ((2 ^ suc k - 1) - mask) % 2 ≡ 1 - mask % 2
comp-odd k mask h = let e = pow-suc 2 k in omega arith

first-suc : (test : ℕ → Bool) (start n otherwise : ℕ)
    → first test (range (suc start) n) (suc otherwise) ≡ suc (first (λ x. test (suc x)) (range start n) otherwise)
unfolding first range
first-suc test start zero otherwise = refl
first-suc test start (suc n) otherwise = ⊎_elim
    (λ (q : test (suc start) ≡ true). rw q)
    (λ (q : test (suc start) ≡ false). rw q (first-suc test (suc start) n otherwise))
    (bool_cases (test (suc start)))

first-ext : (f g : ℕ → Bool) → ((x : ℕ) → f x ≡ g x) → (start n otherwise : ℕ)
    → first f (range start n) otherwise ≡ first g (range start n) otherwise
unfolding first range
first-ext f g e start zero otherwise = refl
first-ext f g e start (suc n) otherwise = rw (e start, first-ext f g e (suc start) n otherwise)

-- the trailing zeros of the complement are the ones below the lowest zero
pub lowest-zero : (k mask : ℕ) → mask < 2 ^ k
    → count_trailing_zeros k ((2 ^ k - 1) - mask) ≡ first (λ bit. eqb (bit_at mask bit) 0) (range 0 k) k
unfolding count_trailing_zeros first range
lowest-zero zero mask h = refl
lowest-zero (suc k) mask h =
    let e = pow-suc 2 k in
    let m = lowest-zero k (mask / 2) (omega arith) in
    let rest : first (λ bit. eqb (bit_at mask bit) 0) (range 1 k) (suc k) ≡ suc (count_trailing_zeros k ((2 ^ k - 1) - mask / 2)) =
    first-suc (λ bit. eqb (bit_at mask bit) 0) 0 k k
    ∙ ap suc (first-ext _ _ (λ bit. ap (λ (x : ℕ). eqb x 0) (bit-suc mask bit)) 0 k k ∙ sym m) in
    rw (comp-odd k mask h, comp-half k mask h, rest, div-one mask)
    (low (mask % 2) (mod-lt mask (omega arith)) (count_trailing_zeros k ((2 ^ k - 1) - mask / 2)))
  where
    low : (digit : ℕ) → digit < 2 → (zeros : ℕ) → under (1 - digit) zeros ≡ cond (eqb digit 0) 0 (suc zeros)
    low zero h zeros = refl
    low (suc zero) h zeros = refl
    low (suc (suc digit)) h zeros = absurd (omega arith)

-- ---- setting and flipping a bit
pub or-bit : (a b bit : ℕ) → bit_at (bit_or a b) bit ≡ max (bit_at a bit) (bit_at b bit)
or-bit a b bit =
    let s = or_step (a / 2 ^ bit) (b / 2 ^ bit) in
    let l = bit-lt a bit in
    let m = bit-lt b bit in
    rw or_shr (omega arith)

xor-bit : (a b bit : ℕ) → bit_at (bit_xor a b) bit ≡ differ (bit_at a bit) (bit_at b bit)
xor-bit a b bit =
    let s = xor_step (a / 2 ^ bit) (b / 2 ^ bit) in
    let l = differ-lt (bit_at a bit) (bit_at b bit) (bit-lt a bit) (bit-lt b bit) in
    rw xor_shr (omega arith)
  where
    differ-lt : (x y : ℕ) → x < 2 → y < 2 → differ x y < 2
    differ-lt zero y h l = l
    differ-lt (suc zero) zero h l = h
    differ-lt (suc zero) (suc zero) h l = omega arith
    differ-lt (suc zero) (suc (suc y)) h l = absurd (omega arith)
    differ-lt (suc (suc x)) y h l = absurd (omega arith)

power-self : (k : ℕ) → bit_at (2 ^ k) k ≡ 1
power-self k = ap (λ (x : ℕ). x % 2) (div_self (pow_pos k))

pub power-other : (k bit : ℕ) → bit ≢ k → bit_at (2 ^ k) bit ≡ 0
power-other k bit ne = ⊎_elim
    (λ (l : bit < k).
    let e : k ≡ suc (k - suc bit) + bit = omega arith in
    rw (e, pow-add, shl-shr, pow-suc) (omega arith))
    (λ (l : k ≤ bit). rw (div-eq_of_lt (pow-lt {i = k} {j = bit} (omega arith))))
    (lt-cases bit k)

pub with-power : (mask bit : ℕ) → WithBit mask bit (bit_or mask (2 ^ bit))
with-power mask bit = record {
  now = rw (or-bit mask (2 ^ bit) bit, power-self bit) (omega (arith, bit-lt mask bit));
  same = λ other ne. rw (or-bit mask (2 ^ bit) other, power-other bit other ne) (omega arith);
}

-- a mask of a table with one bit changed
pub flipped-at : (masks : List ℕ) (at bit : ℕ) → at < length masks → FlippedAt masks at bit (set masks at (bit_xor (get_or masks at 0) (2 ^ bit)))
flipped-at masks at bit h = record {
  changed = rw (get_or-set_same masks at (bit_xor mask (2 ^ bit)) 0 h)
      (xor-bit mask (2 ^ bit) bit ∙ ap (differ (bit_at mask bit)) (power-self bit) ∙ differ-one (bit_at mask bit) (bit-lt mask bit));
  same = λ block other ne. ⊎_elim
      (λ (q : block ≡ at). rw (q, get_or-set_same masks at (bit_xor mask (2 ^ bit)) 0 h)
      (kept other (⊎_elim (λ (p : block ≢ at). absurd (p q)) (λ (p : other ≢ bit). p) ne)))
      (λ (q : block ≢ at). rw (get_or-set_other masks at block (bit_xor mask (2 ^ bit)) 0 q))
      (eq-cases block at);
}
  where
    mask : ℕ
    mask = get_or masks at 0

    differ-one : (x : ℕ) → x < 2 → differ x 1 ≡ 1 - x
    differ-one zero h = refl
    differ-one (suc zero) h = refl
    differ-one (suc (suc x)) h = absurd (omega arith)

    differ-zero : (x : ℕ) → differ x 0 ≡ x
    differ-zero zero = refl
    differ-zero (suc x) = refl

    kept : (other : ℕ) → other ≢ bit → bit_at (bit_xor mask (2 ^ bit)) other ≡ bit_at mask other
    kept other ne = xor-bit mask (2 ^ bit) other ∙ ap (differ (bit_at mask other)) (power-other bit other ne) ∙ differ-zero (bit_at mask other)

-- ---- the lowest zero
pub ones_below : (mask bit : ℕ) → bit < lowest_zero mask → bit_at mask bit ≡ 1
unfolding lowest_zero
ones_below mask bit h = ⊎_elim
    (λ (f : First (λ bit. eqb (bit_at mask bit) 0) 0 64 (lowest_zero mask)). let n = eqb-false (bit_at mask bit) 0 (f.before bit (omega arith) h) in omega (arith, bit-lt mask bit))
    (λ (f : Missed (λ bit. eqb (bit_at mask bit) 0) 0 64 64 (lowest_zero mask)). let n = eqb-false (bit_at mask bit) 0 (f.none bit (omega arith) (omega (arith, f.is))) in omega (arith, bit-lt mask bit))
    (first-cases (λ bit. eqb (bit_at mask bit) 0) 0 64 64)

pub zero-there : (mask : ℕ) → lowest_zero mask < 64 → bit_at mask (lowest_zero mask) ≡ 0
unfolding lowest_zero
zero-there mask h = ⊎_elim
    (λ (f : First (λ bit. eqb (bit_at mask bit) 0) 0 64 (lowest_zero mask)). eqb-true (bit_at mask (lowest_zero mask)) 0 f.passes)
    (λ (f : Missed (λ bit. eqb (bit_at mask bit) 0) 0 64 64 (lowest_zero mask)). absurd (omega (arith, f.is)))
    (first-cases (λ bit. eqb (bit_at mask bit) 0) 0 64 64)

-- the lowest zero is no lower where all bits below are ones
pub lowest-above : (mask limit : ℕ) → limit ≤ 64 → ((bit : ℕ) → bit < limit → bit_at mask bit ≡ 1) → limit ≤ lowest_zero mask
unfolding lowest_zero
lowest-above mask limit fits ones = ⊎_elim
    (λ (f : First (λ bit. eqb (bit_at mask bit) 0) 0 64 (lowest_zero mask)).
    let z = eqb-true (bit_at mask (lowest_zero mask)) 0 f.passes in ⊎_elim (λ (l : lowest_zero mask < limit). absurd (omega (arith, ones (lowest_zero mask) l))) (λ (l : limit ≤ lowest_zero mask). l) (lt-cases (lowest_zero mask) limit))
    (λ (f : Missed (λ bit. eqb (bit_at mask bit) 0) 0 64 64 (lowest_zero mask)). omega (arith, f.is))
    (first-cases (λ bit. eqb (bit_at mask bit) 0) 0 64 64)
