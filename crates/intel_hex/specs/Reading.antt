-- What the reader makes of a text: its lines and their records, the state that these build up, the first faulty record, and the answer.
use Rattle.std.specs.Prelude.{◌≡◌, Bool, true, false, cond, ◌&&◌, ◌||◌, List, [], ◌∷◌, ◌++◌, map, ℕ, ◌+◌, ◌-◌, ◌*◌, ◌%◌, eqb, ltb, leb, length, get_or, take, drop, replicate}
use Rattle.std.proofs.Math.Option.{Option, none, some}
use Rattle.flash.specs.Lists.{all, any, total}
use Rattle.intel_hex.specs.Records.{Record}

-- ---- lines
-- What stands behind the last line feed, if anything, is no line, and counts as a malformed record.
unfoldable pub unended : (begun : List ℕ) → List (Option (List ℕ))
unended [] = []
unended (byte ∷ begun) = none ∷ []

-- The text cut at its line feeds. `begun` are the bytes of a line that has begun.
unfoldable pub lines_from : (begun text : List ℕ) → List (Option (List ℕ))
lines_from begun [] = unended begun
lines_from begun (byte ∷ text) = cond (eqb byte 10) (some begun ∷ lines_from [] text) (lines_from (begun ++ (byte ∷ [])) text)

-- ---- the record of a line
-- digits are `0` to `9`, `A` to `F` and `a` to `f`; 16 is the value of none
unfoldable pub digit_value : (byte : ℕ) → ℕ
digit_value byte =
    cond (leb 48 byte && leb byte 57) (byte - 48)
    (cond (leb 65 byte && leb byte 70) (byte - 55) (cond (leb 97 byte && leb byte 102) (byte - 87) 16))

unfoldable pub is_digit : (byte : ℕ) → Bool
is_digit byte = ltb (digit_value byte) 16

-- two digits a byte, the high one first
unfoldable pub pairs : (digits : List ℕ) → List ℕ
pairs [] = []
pairs (high ∷ []) = []
pairs (high ∷ low ∷ digits) = (digit_value high * 16 + digit_value low) ∷ pairs digits

-- one carriage return (13) may stand before the line feed
unfoldable pub uncarried : (line : List ℕ) → List ℕ
uncarried line = cond (eqb (get_or line (length line - 1) 0) 13) (take (length line - 1) line) line

-- data (00) has at least one byte; the end (01) has none, and an upper half (04) two, both at address 0; no other type is known
unfoldable pub is_type : (kind address size : ℕ) → Bool
is_type kind address size =
    (eqb kind 0 && leb 1 size) || (eqb kind 1 && eqb address 0 && eqb size 0) || (eqb kind 4 && eqb address 0 && eqb size 2)

abbrev pub is_known : Record → Bool
is_known r = is_type r.kind r.address (length r.bytes)

-- the record that digits spell: the number of bytes, the address, the type, the bytes; behind them stands the checksum
unfoldable pub spelt : (digits : List ℕ) → Record
spelt digits =
    let bytes = pairs digits in
    record { kind = get_or bytes 3 0; address = get_or bytes 1 0 * 256 + get_or bytes 2 0; bytes = take (get_or bytes 0 0) (drop 4 bytes) }

-- a colon (58), then as many digits as the first byte says, whose bytes sum up to a multiple of 256, and a known type
unfoldable pub is_good : (line : List ℕ) → Bool
is_good line =
    let digits = drop 1 line in
    eqb (get_or line 0 0) 58 && eqb (length digits) (10 + 2 * get_or (pairs digits) 0 0) && all is_digit digits
    && eqb (total (pairs digits) % 256) 0 && is_known (spelt digits)

unfoldable pub parse : (line : List ℕ) → Option Record
parse line = cond (is_good (uncarried line)) (some (spelt (drop 1 (uncarried line)))) none

unfoldable pub parse_line : Option (List ℕ) → Option Record
parse_line none = none
parse_line (some line) = parse line

-- each line as its record, or none where it is malformed
unfoldable pub records_in : (text : List ℕ) → List (Option Record)
records_in text = map parse_line (lines_from [] text)

-- ---- the state that records build up
-- `given` has for each byte of the image what it was given, or none.
pub record State : Type 0 where
  pub upper : ℕ
  pub given : List (Option ℕ)
  pub ended : Bool

pub data Outcome : Type 0 where
  going : State → Outcome
  -- the number of the first faulty record
  fault : (number : ℕ) → Outcome

unfoldable pub is_given : Option ℕ → Bool
is_given none = false
is_given (some byte) = true

-- where a data record's bytes go, counted from the image's first
abbrev pub offset_of : State → Record → ℕ
offset_of s r = s.upper * 65536 + r.address

-- the record runs over the end of its 64 KiB span, or a byte of it lies outside the image
unfoldable pub is_outside : (size : ℕ) → State → Record → Bool
is_outside size s r = ltb 65536 (r.address + length r.bytes) || ltb size (offset_of s r + length r.bytes)

-- a byte of it was given before
unfoldable pub is_repeated : State → Record → Bool
is_repeated s r = any is_given (take (length r.bytes) (drop (offset_of s r) s.given))

unfoldable pub give : State → Record → State
give s r = record {
  upper = s.upper;
  given = take (offset_of s r) s.given ++ (map some r.bytes ++ drop (offset_of s r + length r.bytes) s.given);
  ended = s.ended;
}

-- the two bytes of type 04 are the upper half of addresses from here on
unfoldable pub with_upper : State → Record → State
with_upper s r = record { upper = get_or r.bytes 0 0 * 256 + get_or r.bytes 1 0; given = s.given; ended = s.ended }

unfoldable pub at_end : State → State
at_end s = record { upper = s.upper; given = s.given; ended = true }

-- ---- the first faulty record
unfoldable pub judge_data : (size : ℕ) → State → Record → Outcome
judge_data size s r = cond (is_outside size s r) (fault 9) (cond (is_repeated s r) (fault 10) (going (give s r)))

unfoldable pub judge_record : (size : ℕ) → State → Option Record → Outcome
judge_record size s none = fault 8
judge_record size s (some r) =
    cond (eqb r.kind 1) (going (at_end s)) (cond (eqb r.kind 4) (going (with_upper s r)) (judge_data size s r))

-- behind an end record anything is a fault
unfoldable pub judge : (size : ℕ) → Outcome → Option Record → Outcome
judge size (fault number) r = fault number
judge size (going s) r = cond s.ended (fault 10) (judge_record size s r)

unfoldable pub judge_all : (size : ℕ) → Outcome → List (Option Record) → Outcome
judge_all size outcome [] = outcome
judge_all size outcome (r ∷ records) = judge_all size (judge size outcome r) records

unfoldable pub start : (size : ℕ) → State
start size = record { upper = 0; given = replicate size none; ended = false }

unfoldable pub outcome_of : (size : ℕ) → (text : List ℕ) → Outcome
outcome_of size text = judge_all size (going (start size)) (records_in text)

-- ---- the answer
-- a text without an end record has 10
unfoldable pub number_of : Outcome → ℕ
number_of (fault number) = number
number_of (going s) = cond s.ended 0 10

-- what was not given
unfoldable pub byte_of : Option ℕ → ℕ
byte_of none = 255
byte_of (some byte) = byte

unfoldable pub bytes_of : Outcome → List ℕ
bytes_of (fault number) = []
bytes_of (going s) = map byte_of s.given

unfoldable pub hex_number : (size : ℕ) → (text : List ℕ) → ℕ
hex_number size text = number_of (outcome_of size text)

unfoldable pub hex_image : (size : ℕ) → (text : List ℕ) → List ℕ
hex_image size text = bytes_of (outcome_of size text)

-- the image stays as it was unless the number is 0
pub record Read (text before : List ℕ) (number : ℕ) (after : List ℕ) : Type 0 where
  pub number_is : number ≡ hex_number (length before) text
  pub image-is : after ≡ cond (eqb number 0) (hex_image (length before) text) before
