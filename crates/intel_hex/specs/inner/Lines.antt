-- A record where it stands in a text, from its colon on.
use Rattle.std.specs.Prelude.{◌≡◌, Bool, true, false, cond, ◌&&◌, List, ◌++◌, ℕ, zero, suc, ◌+◌, ◌*◌, ◌%◌, ◌≤◌, ◌<◌, eqb, length, get_or, take, drop}
use Rattle.intel_hex.specs.Reading.{digit_value, is_digit, pairs, is_type}

-- a code that is no digit weighs more than the bytes of any record come to
unfoldable pub weight_of : (code : ℕ) → ℕ
weight_of code = cond (is_digit code) (digit_value code) 131072

-- what `count` bytes weigh, two codes each
unfoldable pub weight_from : (text : List ℕ) → (from count : ℕ) → ℕ
weight_from text from zero = 0
weight_from text from (suc i) = weight_from text from i + (weight_of (get_or text (from + 2 * i) 0) * 16 + weight_of (get_or text (from + 2 * i + 1) 0))

-- a table has the weight of each code
abbrev pub Weigh : (table : List ℕ) → Type 0
Weigh table = (code : ℕ) → code < 256 → get_or table code 0 ≡ weight_of code

abbrev pub AreDigits : (text : List ℕ) → (from count : ℕ) → Type 0
AreDigits text from count = (i : ℕ) → i < count → is_digit (get_or text (from + i) 0) ≡ true

-- how many of `count` codes are no digit
unfoldable pub others_from : (text : List ℕ) → (from count : ℕ) → ℕ
others_from text from zero = 0
others_from text from (suc i) = others_from text from i + cond (is_digit (get_or text (from + i) 0)) 0 1

-- a sum is the weight, or both say only that some code is no digit
pub record Weighs (weight sum : ℕ) : Type 0 where
  pub light : sum < 131072 → sum ≡ weight
  pub heavy : 131072 ≤ sum → 131072 ≤ weight

-- ---- what digits spell from a position on: a byte, two bytes, some bytes
unfoldable pub byte_from : (text : List ℕ) → (from : ℕ) → ℕ
byte_from text from = digit_value (get_or text from 0) * 16 + digit_value (get_or text (from + 1) 0)

abbrev pub word_from : (text : List ℕ) → (from : ℕ) → ℕ
word_from text from = byte_from text from * 256 + byte_from text (from + 2)

unfoldable pub bytes_from : (text : List ℕ) → (from count : ℕ) → List ℕ
bytes_from text from count = take count (pairs (drop from text))

-- an image to which they are put
abbrev pub put_from : (text : List ℕ) → (from count : ℕ) → (image : List ℕ) → (offset : ℕ) → List ℕ
put_from text from count image offset = take offset image ++ (bytes_from text from count ++ drop (offset + count) image)

-- ---- the fields of the record at a position
abbrev pub size_at : (text : List ℕ) → (at : ℕ) → ℕ
size_at text at = byte_from text (at + 1)

abbrev pub address_at : (text : List ℕ) → (at : ℕ) → ℕ
address_at text at = word_from text (at + 3)

abbrev pub kind_at : (text : List ℕ) → (at : ℕ) → ℕ
kind_at text at = byte_from text (at + 7)

abbrev pub bytes_at : (text : List ℕ) → (at count : ℕ) → List ℕ
bytes_at text at count = bytes_from text (at + 9) count

-- behind the digits: a line feed (10), or a carriage return (13) and a line feed
abbrev pub stop_at : (text : List ℕ) → (at : ℕ) → ℕ
stop_at text at = at + 11 + 2 * size_at text at

-- the position behind a line whose digits end at `stop`; 0 if it does not end there
unfoldable pub next_from : (text : List ℕ) → (stop : ℕ) → ℕ
next_from text stop =
    cond (eqb (get_or text stop 0) 10) (stop + 1) (cond (eqb (get_or text stop 0) 13 && eqb (get_or text (stop + 1) 0) 10) (stop + 2) 0)

-- ---- the record at a position is not malformed
-- the line begins with a colon, and ends where its first byte says
pub record Framed (text : List ℕ) (at size : ℕ) : Type 0 where
  pub colon : get_or text at 0 ≡ 58
  pub size_is : size ≡ size_at text at
  pub inside : at + 11 + 2 * size < length text
  pub ends : next_from text (at + 11 + 2 * size) ≡ 0 → ⊥

pub record Good (text : List ℕ) (at : ℕ) : Type 0 where
  pub colon : get_or text at 0 ≡ 58
  pub inside : stop_at text at < length text
  pub ends : next_from text (stop_at text at) ≡ 0 → ⊥
  pub digits : AreDigits text (at + 1) (10 + 2 * size_at text at)
  pub sums : weight_from text (at + 1) (5 + size_at text at) % 256 ≡ 0
  pub known : is_type (kind_at text at) (address_at text at) (size_at text at) ≡ true

pub record GoodIs (text : List ℕ) (at : ℕ) (r : Bool) : Type 0 where
  pub good : r ≡ true → Good text at
  pub bad : r ≡ false → Good text at → ⊥
