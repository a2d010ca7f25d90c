-- Bytes as digits, and back.
use Rattle.flash.proofs.Kit.{◌≡◌, refl, true, false, ⊎_elim, List, [], ◌∷◌, ◌++◌, ℕ, ◌+◌, ◌*◌, ◌/◌, ◌%◌, ◌≤◌, ◌<◌, arith, ltb, leb, ltb-true}
use Rattle.flash.proofs.Kit.{ltb-false, lt-ltb, le-leb, lt-leb}
use Rattle.flash.specs.Lists.{all, concat_map, total}
use Rattle.flash.proofs.Bools.{bool_cases, and_left, and_right}
use Rattle.flash.proofs.Searches.{all_append}
use Rattle.listing.specs.Digits.{capitals, digit_of, digits, hex}
use Rattle.intel_hex.specs.Records.{checksum}
use Rattle.intel_hex.specs.Reading.{digit_value, is_digit, pairs}

abbrev pub are_bytes : List ℕ → Type 0
are_bytes bytes = all (λ byte. ltb byte 256) bytes ≡ true

pub head_byte : (byte : ℕ) (bytes : List ℕ) → are_bytes (byte ∷ bytes) → byte < 256
unfolding all
head_byte byte bytes e = ltb-true byte 256 (and_left (ltb byte 256) (all (λ b. ltb b 256) bytes) e)

pub tail-bytes : (byte : ℕ) (bytes : List ℕ) → are_bytes (byte ∷ bytes) → are_bytes bytes
unfolding all
tail-bytes byte bytes e = and_right (ltb byte 256) (all (λ b. ltb b 256) bytes) e

pub cons-bytes : (byte : ℕ) (bytes : List ℕ) → byte < 256 → are_bytes bytes → are_bytes (byte ∷ bytes)
unfolding all
cons-bytes byte bytes h e = rw (lt-ltb byte 256 h) e

pub digit-back : (d : ℕ) → d < 16 → digit_value (digit_of capitals d) ≡ d
unfolding digit_of digit_value
digit-back d h =
    ⊎_elim
    (λ (e : ltb d 10 ≡ true).
    let l = ltb-true d 10 e in
    rw (e, le-leb 48 (48 + d) (omega arith), le-leb (48 + d) 57 (omega arith)) (omega arith))
    (λ (e : ltb d 10 ≡ false).
    let l = ltb-false d 10 e in
    rw (e, le-leb 48 (55 + d) (omega arith), lt-leb (55 + d) 57 (omega arith), le-leb 65 (55 + d) (omega arith), le-leb (55 + d) 70 (omega arith))
    (omega arith))
    (bool_cases (ltb d 10))

pub digit-is : (d : ℕ) → d < 16 → is_digit (digit_of capitals d) ≡ true
unfolding is_digit
digit-is d h = rw (digit-back d h) (lt-ltb d 16 h)

pub digit-high : (d : ℕ) → 48 ≤ digit_of capitals d
unfolding digit_of
digit-high d =
    ⊎_elim (λ (e : ltb d 10 ≡ true). rw e (omega arith)) (λ (e : ltb d 10 ≡ false). rw e (omega arith)) (bool_cases (ltb d 10))

-- the two digits of a byte
pub hex-is : (byte : ℕ) → hex capitals byte ≡ digit_of capitals (byte / 16 % 16) ∷ digit_of capitals (byte % 16) ∷ []
unfolding hex digits
hex-is byte = refl

pub pairs-back : (bytes : List ℕ) → are_bytes bytes → pairs (concat_map (hex capitals) bytes) ≡ bytes
unfolding pairs concat_map
pairs-back [] e = refl
pairs-back (byte ∷ bytes) e =
    let h = head_byte byte bytes e in
    let v : byte / 16 % 16 * 16 + byte % 16 ≡ byte = omega arith in
    rw (hex-is byte, digit-back (byte / 16 % 16) (omega arith), digit-back (byte % 16) (omega arith), pairs-back bytes (tail-bytes byte bytes e), v)

pub hex-digits : (bytes : List ℕ) → are_bytes bytes → all is_digit (concat_map (hex capitals) bytes) ≡ true
unfolding all concat_map
hex-digits [] e = refl
hex-digits (byte ∷ bytes) e =
    rw (hex-is byte, digit-is (byte / 16 % 16) (omega arith), digit-is (byte % 16) (omega arith)) (hex-digits bytes (tail-bytes byte bytes e))

-- neither a line feed nor a carriage return is among the digits
pub hex-high : (bytes : List ℕ) → all (λ byte. leb 48 byte) (concat_map (hex capitals) bytes) ≡ true
unfolding all concat_map
hex-high [] = refl
hex-high (byte ∷ bytes) = rw (hex-is byte, le-leb 48 _ (digit-high (byte / 16 % 16)), le-leb 48 _ (digit-high (byte % 16))) (hex-high bytes)

pub total-append : (a b : List ℕ) → total (a ++ b) ≡ total a + total b
unfolding total
total-append [] b = omega arith
total-append (x ∷ a) b = omega (arith, total-append a b)

pub summed : (bytes : List ℕ) → total (bytes ++ (checksum bytes ∷ [])) % 256 ≡ 0
unfolding total checksum
summed bytes = rw (total-append bytes (checksum bytes ∷ [])) (omega arith)

pub checksum-byte : (bytes : List ℕ) → checksum bytes < 256
unfolding checksum
checksum-byte bytes = omega arith

pub with-checksum : (bytes : List ℕ) → are_bytes bytes → are_bytes (bytes ++ (checksum bytes ∷ []))
unfolding all
with-checksum bytes e = rw (all_append (λ byte. ltb byte 256) bytes (checksum bytes ∷ []), e, lt-ltb _ _ (checksum-byte bytes))
