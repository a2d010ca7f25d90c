-- A sum of weights tells whether all codes are digits, and is then the sum of the bytes that they spell.
use Rattle.flash.proofs.Kit.{◌≡◌, refl, sym, ap, ◌∙◌, ◌⊎◌, inl, inr, ⊎_elim, Bool, true, false, ◌&&◌, ◌||◌, List, ℕ, zero, suc, ◌+◌, ◌-◌, ◌*◌, ◌/◌, ◌%◌}
use Rattle.flash.proofs.Kit.{◌≤◌, ◌<◌, arith, add-one, leb, length, get_or, take, drop, set, length-drop, get_or-set_same, get_or-set_other, ltb-true}
use Rattle.flash.proofs.Kit.{lt-ltb, le-ltb}
use Rattle.flash.proofs.Bools.{bool_cases}
use Rattle.flash.proofs.Comparisons.{eq-cases, lt-cases}
use Rattle.flash.specs.Lists.{total}
use Rattle.intel_hex.specs.Reading.{digit_value, is_digit, pairs}
use Rattle.intel_hex.specs.inner.Lines.{weight_of, weight_from, byte_from, AreDigits}
use Rattle.intel_hex.proofs.PairLaws.{pairs-at, length_pairs, in-low, in-high, value-decimal, value-capital, value-small, value_none}
use Rattle.intel_hex.proofs.Prints.{total-more}

pub digit-small : (code : ℕ) → is_digit code ≡ true → digit_value code < 16
unfolding is_digit
digit-small code e = ltb-true (digit_value code) 16 e

pub weight-digit : (code : ℕ) → is_digit code ≡ true → weight_of code ≡ digit_value code
unfolding weight_of
weight-digit code e = rw e

pub weight-other : (code : ℕ) → is_digit code ≡ false → weight_of code ≡ 131072
unfolding weight_of
weight-other code e = rw e

pub weight-bound : (code : ℕ) → weight_of code ≤ 131072
weight-bound code =
    ⊎_elim
    (λ (e : is_digit code ≡ true). omega (arith, weight-digit code e, digit-small code e))
    (λ (e : is_digit code ≡ false). omega (arith, weight-other code e))
    (bool_cases (is_digit code))

light-digit : (code : ℕ) → weight_of code < 131072 → is_digit code ≡ true
light-digit code h =
    ⊎_elim (λ (e : is_digit code ≡ true). e) (λ (e : is_digit code ≡ false). absurd (omega (arith, weight-other code e))) (bool_cases (is_digit code))

-- the three kinds of digits, and what is none
value-cases : (code : ℕ)
    → ((48 ≤ code) × (code ≤ 57) × (digit_value code ≡ code - 48))
    ⊎ (((65 ≤ code) × (code ≤ 70) × (digit_value code ≡ code - 55)) ⊎ (((97 ≤ code) × (code ≤ 102) × (digit_value code ≡ code - 87)) ⊎ (digit_value code ≡ 16)))
value-cases code =
    let d : Bool = leb 48 code && leb code 57 in
    let u : Bool = leb 65 code && leb code 70 in
    let l : Bool = leb 97 code && leb code 102 in
    ⊎_elim
    (λ (t : d ≡ true). inl (in-low 48 code 57 d refl t, in-high 48 code 57 d refl t, value-decimal code d refl t))
    (λ (f : d ≡ false).
    ⊎_elim
    (λ (t : u ≡ true). inr (inl (in-low 65 code 70 u refl t, in-high 65 code 70 u refl t, value-capital code d refl f u refl t)))
    (λ (g : u ≡ false).
    ⊎_elim
    (λ (t : l ≡ true). inr (inr (inl (in-low 97 code 102 l refl t, in-high 97 code 102 l refl t, value-small code d refl f u refl g l refl t))))
    (λ (h : l ≡ false). inr (inr (inr (value_none code d refl f u refl g l refl h))))
    (bool_cases l))
    (bool_cases u))
    (bool_cases d)

-- by its bits: letters have bit 6
pub digit-bits : (code : ℕ) → is_digit code ≡ true → code % 16 + 9 * (code / 64) ≡ digit_value code
digit-bits code e =
    ⊎_elim
    (λ (d : (48 ≤ code) × (code ≤ 57) × (digit_value code ≡ code - 48)). omega arith)
    (λ (r : ((65 ≤ code) × (code ≤ 70) × (digit_value code ≡ code - 55)) ⊎ (((97 ≤ code) × (code ≤ 102) × (digit_value code ≡ code - 87)) ⊎ (digit_value code ≡ 16))).
    ⊎_elim
    (λ (u : (65 ≤ code) × (code ≤ 70) × (digit_value code ≡ code - 55)). omega arith)
    (λ (q : ((97 ≤ code) × (code ≤ 102) × (digit_value code ≡ code - 87)) ⊎ (digit_value code ≡ 16)).
    ⊎_elim
    (λ (l : (97 ≤ code) × (code ≤ 102) × (digit_value code ≡ code - 87)). omega arith)
    (λ (n : digit_value code ≡ 16). absurd (omega (arith, digit-small code e)))
    q)
    r)
    (value-cases code)

-- by its range
pub digit-ranges : (code : ℕ) (d u l : Bool) → d ≡ (leb 48 code && leb code 57) → u ≡ (leb 65 code && leb code 70) → l ≡ (leb 97 code && leb code 102)
    → ((d || u) || l) ≡ is_digit code
unfolding is_digit
digit-ranges code d u l e f g =
    ⊎_elim
    (λ (t : d ≡ true). rw t (sym (lt-ltb (digit_value code) 16 (omega (arith, value-decimal code d e t, in-high 48 code 57 d e t)))))
    (λ (p : d ≡ false).
    ⊎_elim
    (λ (t : u ≡ true). rw (p, t) (sym (lt-ltb (digit_value code) 16 (omega (arith, value-capital code d e p u f t, in-high 65 code 70 u f t)))))
    (λ (q : u ≡ false).
    ⊎_elim
    (λ (t : l ≡ true). rw (p, q, t) (sym (lt-ltb (digit_value code) 16 (omega (arith, value-small code d e p u f q l g t, in-high 97 code 102 l g t)))))
    (λ (r : l ≡ false). rw (p, q, r) (sym (le-ltb (digit_value code) 16 (omega (arith, value_none code d e p u f q l g r)))))
    (bool_cases l))
    (bool_cases u))
    (bool_cases d)

-- ---- the table
pub weights-more : (weights : List ℕ) (i value : ℕ) → ((k : ℕ) → k < i → get_or weights k 0 ≡ weight_of k) → i < length weights → value ≡ weight_of i
    → (k : ℕ) → k < i + 1 → get_or (set weights i value) k 0 ≡ weight_of k
weights-more weights i value W h e k q =
    ⊎_elim
    (λ (s : k ≡ i). ap (λ (x : ℕ). get_or (set weights i value) x 0) s ∙ get_or-set_same weights i value 0 h ∙ e ∙ ap weight_of (sym s))
    (λ (n : k ≡ i → ⊥). get_or-set_other weights i k value 0 n ∙ W k (omega arith))
    (eq-cases k i)

module _ (text : List ℕ) where
  -- digits from a later position on
  pub digits-part : (from count : ℕ) → AreDigits text from count → (at part : ℕ) → from ≤ at → at + part ≤ from + count → AreDigits text at part
  digits-part from count D at part l h i q =
      let e : from + (at + i - from) ≡ at + i = omega arith in
      ap (λ (x : ℕ). is_digit (get_or text x 0)) (sym e) ∙ D (at + i - from) (omega arith)

  module _ (from : ℕ) where
    -- the two digits of a byte
    pub digit-pair : (count i : ℕ) → AreDigits text from (2 * count) → i < count
        → (is_digit (get_or text (from + 2 * i) 0) ≡ true) × (is_digit (get_or text (from + 2 * i + 1) 0) ≡ true)
    digit-pair count i D h =
        let e : from + (2 * i + 1) ≡ from + 2 * i + 1 = omega arith in
        (D (2 * i) (omega arith), ap (λ (x : ℕ). is_digit (get_or text x 0)) (sym e) ∙ D (2 * i + 1) (omega arith))

    digit_at : (k i : ℕ) → AreDigits text from (2 * suc k) → i < 2 * suc k → digit_value (get_or text (from + i) 0) < 16
    digit_at k i D h = digit-small (get_or text (from + i) 0) (D i h)

    next-weight : (k : ℕ) → AreDigits text from (2 * suc k)
        → weight_of (get_or text (from + 2 * k) 0) * 16 + weight_of (get_or text (from + 2 * k + 1) 0)
        ≡ digit_value (get_or text (from + 2 * k) 0) * 16 + digit_value (get_or text (from + 2 * k + 1) 0)
    next-weight k D =
        let p = digit-pair (suc k) k D (omega arith) in
        rw (weight-digit (get_or text (from + 2 * k) 0) p.0, weight-digit (get_or text (from + 2 * k + 1) 0) p.1)

    fewer : (k : ℕ) → AreDigits text from (2 * suc k) → AreDigits text from (2 * k)
    fewer k D i h = D i (omega arith)

    pub digits-weigh : (k : ℕ) → AreDigits text from (2 * k) → weight_from text from k ≤ 255 * k
    unfolding weight_from
    digits-weigh zero D = omega arith
    digits-weigh (suc k) D =
        let e : from + (2 * k + 1) ≡ from + 2 * k + 1 = omega arith in
        let low : digit_value (get_or text (from + 2 * k + 1) 0) < 16 = rw e at (digit_at k (2 * k + 1) D (omega arith)) in
        omega (arith, digits-weigh k (fewer k D), next-weight k D, digit_at k (2 * k) D (omega arith))

    pub weigh-digits : (k : ℕ) → weight_from text from k < 131072 → AreDigits text from (2 * k)
    unfolding weight_from
    weigh-digits zero h i q = absurd (omega arith)
    weigh-digits (suc k) h i q =
        ⊎_elim
        (λ (l : i < 2 * k). weigh-digits k (omega arith) i l)
        (λ (l : 2 * k ≤ i).
        ⊎_elim
        (λ (e : i ≡ 2 * k). ap (λ (x : ℕ). is_digit (get_or text (from + x) 0)) e ∙ light-digit (get_or text (from + 2 * k) 0) (omega arith))
        (λ (e : i ≡ 2 * k → ⊥).
        let x : from + i ≡ from + 2 * k + 1 = omega arith in
        ap (λ (x : ℕ). is_digit (get_or text x 0)) x ∙ light-digit (get_or text (from + 2 * k + 1) 0) (omega arith))
        (eq-cases i (2 * k)))
        (lt-cases i (2 * k))

    pub weight-small : (k : ℕ) → weight_from text from k ≤ 2228224 * k
    unfolding weight_from
    weight-small zero = omega arith
    weight-small (suc k) = omega (arith, weight-small k, weight-bound (get_or text (from + 2 * k) 0), weight-bound (get_or text (from + 2 * k + 1) 0))

    -- one more byte is weighed
    pub weight-more : (i sum high low : ℕ) → sum ≡ weight_from text from i → high ≡ weight_of (get_or text (from + 2 * i) 0)
        → low ≡ weight_of (get_or text (from + 2 * i + 1) 0) → sum + (high * 16 + low) ≡ weight_from text from (i + 1)
    unfolding weight_from
    weight-more i sum high low e f g = rw (e, f, g, add-one i)

    pub weight-total : (k : ℕ) → AreDigits text from (2 * k) → from + 2 * k ≤ length text → weight_from text from k ≡ total (take k (pairs (drop from text)))
    unfolding weight_from total
    weight-total zero D h = refl
    weight-total (suc k) D h =
        let bytes : List ℕ = pairs (drop from text) in
        let n = length_pairs (drop from text) in
        let d = length-drop from text in
        let inside : k < length bytes = omega arith in
        rw (next-weight k D, ← pairs-at text from k (omega arith), weight-total k (fewer k D) (omega arith), ← add-one k) (sym (total-more bytes k inside))

  -- ---- one byte, and a word of two
  pub byte-weight : (from : ℕ) → AreDigits text from 2 → weight_from text from 1 ≡ byte_from text from
  unfolding weight_from byte_from
  byte-weight from D =
      let e : from + 2 * 0 ≡ from = omega arith in
      rw (next-weight from 0 D, e) (omega arith)

  pub byte_small : (from : ℕ) → AreDigits text from 2 → byte_from text from ≤ 255
  byte_small from D = omega (arith, byte-weight from D, digits-weigh from 1 D)
