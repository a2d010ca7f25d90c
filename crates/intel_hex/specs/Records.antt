-- Rule 11.1: what a record is, and its one written form. Texts are lists of ASCII codes.
use Rattle.std.specs.Prelude.{List, [], ◌∷◌, ◌++◌, ℕ, ◌+◌, ◌-◌, ◌/◌, ◌%◌, length}
use Rattle.flash.specs.Lists.{concat_map, total}
use Rattle.listing.specs.Digits.{capitals, hex}

-- The type (0 data, 1 the end, 4 the upper half of the address), 16 bits of the address, and the bytes.
pub record Record : Type 0 where
  pub kind : ℕ
  pub address : ℕ
  pub bytes : List ℕ

-- what makes the sum of bytes a multiple of 256
unfoldable pub checksum : List ℕ → ℕ
checksum bytes = (256 - total bytes % 256) % 256

-- what stands in front of the checksum
unfoldable pub fields : Record → List ℕ
fields r = length r.bytes ∷ r.address / 256 ∷ r.address % 256 ∷ r.kind ∷ r.bytes

-- 58 is a colon
unfoldable pub line_of : Record → List ℕ
line_of r = 58 ∷ concat_map (hex capitals) (fields r ++ (checksum (fields r) ∷ []))

-- 10 is the line feed
unfoldable pub record_text : Record → List ℕ
record_text r = line_of r ++ (10 ∷ [])
