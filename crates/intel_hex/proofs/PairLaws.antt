-- Laws of digits in pairs.
use Rattle.flash.proofs.Kit.{◌≡◌, refl, sym, ap, ◌∙◌, Bool, true, false, ◌&&◌, List, [], ◌∷◌, ℕ, zero, suc, ◌+◌, ◌-◌, ◌*◌, ◌/◌, ◌%◌, ◌≤◌, ◌<◌, arith}
use Rattle.flash.proofs.Kit.{leb, length, get_or, take, drop, length-take, length-drop, get_or-drop, eq-eqb, leb-true}
use Rattle.flash.specs.Lists.{all, total}
use Rattle.flash.proofs.Bools.{and_left, and_right}
use Rattle.intel_hex.specs.Reading.{digit_value, is_digit, pairs, is_type, spelt, is_good}

double-suc : (i : ℕ) → 2 * suc i ≡ suc (suc (2 * i))
double-suc i = omega arith

abbrev pub pair_of : ℕ → ℕ → ℕ
pair_of high low = digit_value high * 16 + digit_value low

pairs-getD : (digits : List ℕ) (i : ℕ) → 2 * i + 1 < length digits → get_or (pairs digits) i 0 ≡ pair_of (get_or digits (2 * i) 0) (get_or digits (2 * i + 1) 0)
unfolding pairs
pairs-getD [] i h = absurd (omega arith)
pairs-getD (a ∷ []) i h = absurd (omega arith)
pairs-getD (a ∷ b ∷ digits) zero h = refl
pairs-getD (a ∷ b ∷ digits) (suc i) h =
    let d : 2 * suc i + 1 ≡ suc (suc (2 * i + 1)) = omega arith in
    rw (d, double-suc i) (pairs-getD digits i (omega arith))

pub pairs-at : (text : List ℕ) (from i : ℕ) → from + 2 * i + 1 < length text → get_or (pairs (drop from text)) i 0 ≡ pair_of (get_or text (from + 2 * i) 0) (get_or text (from + 2 * i + 1) 0)
pairs-at text from i h =
    let l = length-drop from text in
    let e : from + (2 * i + 1) ≡ from + 2 * i + 1 = omega arith in
    pairs-getD (drop from text) i (omega arith) ∙ rw (get_or-drop from text (2 * i) 0, get_or-drop from text (2 * i + 1) 0, e)

pub length_pairs : (digits : List ℕ) → length (pairs digits) ≡ length digits / 2
unfolding pairs
length_pairs [] = refl
length_pairs (a ∷ []) = refl
length_pairs (a ∷ b ∷ digits) = omega (arith, length_pairs digits)

pub pairs-take : (k : ℕ) (digits : List ℕ) → pairs (take (2 * k) digits) ≡ take k (pairs digits)
unfolding pairs
pairs-take zero digits = refl
pairs-take (suc k) [] = rw (double-suc k)
pairs-take (suc k) (a ∷ []) = rw (double-suc k)
pairs-take (suc k) (a ∷ b ∷ digits) = rw (double-suc k) (ap (λ (l : List ℕ). pair_of a b ∷ l) (pairs-take k digits))

pub pairs-drop : (k : ℕ) (digits : List ℕ) → drop k (pairs digits) ≡ pairs (drop (2 * k) digits)
unfolding pairs
pairs-drop zero digits = refl
pairs-drop (suc k) [] = rw (double-suc k)
pairs-drop (suc k) (a ∷ []) = rw (double-suc k)
pairs-drop (suc k) (a ∷ b ∷ digits) = rw (double-suc k) (pairs-drop k digits)

pub drop-take : (m n : ℕ) (xs : List ℕ) → drop m (take (m + n) xs) ≡ take n (drop m xs)
drop-take zero n xs =
    let z : 0 + n ≡ n = omega arith in
    rw z
drop-take (suc m) n [] =
    let z : suc m + n ≡ suc (m + n) = omega arith in
    rw z (nil-take n)
  where
    nil-take : (n : ℕ) → ◌≡◌ {A = List ℕ} [] (take n [])
    nil-take zero = refl
    nil-take (suc n) = refl
drop-take (suc m) n (x ∷ xs) =
    let z : suc m + n ≡ suc (m + n) = omega arith in
    rw z (drop-take m n xs)

-- ---- a line is good
module _ (line : List ℕ) where
  abbrev bytes : List ℕ
  bytes = pairs (drop 1 line)

  abbrev size : ℕ
  size = get_or bytes 0 0

  pub spelt-size : length (drop 1 line) ≡ 10 + 2 * size → length (take size (drop 4 bytes)) ≡ size
  spelt-size e =
      let n = length_pairs (drop 1 line) in
      let d = length-drop 4 bytes in
      let t = length-take size (drop 4 bytes) in
      omega arith

  pub good-is : get_or line 0 0 ≡ 58 → length (drop 1 line) ≡ 10 + 2 * size → all is_digit (drop 1 line) ≡ true → total bytes % 256 ≡ 0
      → is_good line ≡ is_type (get_or bytes 3 0) (get_or bytes 1 0 * 256 + get_or bytes 2 0) size
  unfolding is_good spelt
  good-is a b c d = rw (eq-eqb (get_or line 0 0) 58 a, eq-eqb (length (drop 1 line)) (10 + 2 * size) b, c, eq-eqb (total bytes % 256) 0 d, spelt-size b)

-- ---- the value of a digit, by the tests that the code makes
pub in-low : (low byte high : ℕ) (r : Bool) → r ≡ (leb low byte && leb byte high) → r ≡ true → low ≤ byte
in-low low byte high r e t = leb-true low byte (and_left (leb low byte) (leb byte high) (sym e ∙ t))

pub in-high : (low byte high : ℕ) (r : Bool) → r ≡ (leb low byte && leb byte high) → r ≡ true → byte ≤ high
in-high low byte high r e t = leb-true byte high (and_right (leb low byte) (leb byte high) (sym e ∙ t))

module _ (byte : ℕ) (r1 : Bool) (e1 : r1 ≡ (leb 48 byte && leb byte 57)) where
  pub value-decimal : r1 ≡ true → digit_value byte ≡ byte - 48
  unfolding digit_value
  value-decimal t1 = rw (← e1, t1)

  module _ (t1 : r1 ≡ false) (r2 : Bool) (e2 : r2 ≡ (leb 65 byte && leb byte 70)) where
    pub value-capital : r2 ≡ true → digit_value byte ≡ byte - 55
    unfolding digit_value
    value-capital t2 = rw (← e1, t1, ← e2, t2)

    module _ (t2 : r2 ≡ false) (r3 : Bool) (e3 : r3 ≡ (leb 97 byte && leb byte 102)) where
      pub value-small : r3 ≡ true → digit_value byte ≡ byte - 87
      unfolding digit_value
      value-small t3 = rw (← e1, t1, ← e2, t2, ← e3, t3)

      pub value_none : r3 ≡ false → digit_value byte ≡ 16
      unfolding digit_value
      value_none t3 = rw (← e1, t1, ← e2, t2, ← e3, t3)
