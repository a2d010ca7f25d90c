-- Rules 11.2 and 11.3: the writer's text of an image, the data bytes from address 0 on.
use Rattle.std.specs.Prelude.{cond, List, [], ◌∷◌, ◌++◌, ℕ, ◌+◌, ◌-◌, ◌*◌, ◌/◌, ◌%◌, eqb, length}
use Rattle.flash.specs.Lists.{range, concat_map, part}
use Rattle.intel_hex.specs.Records.{Record, record_text}

-- Data record i, counted from 0, has 16 bytes, or what is left of the image. A span of 65,536 bytes is a multiple of 16, so its end
-- shortens no record.
unfoldable pub data_record : (image : List ℕ) → (i : ℕ) → Record
data_record image i = record { kind = 0; address = i * 16 % 65536; bytes = part 16 i image }

unfoldable pub upper_record : (upper : ℕ) → Record
upper_record upper = record { kind = 4; address = 0; bytes = upper / 256 ∷ upper % 256 ∷ [] }

unfoldable pub end_record : Record
end_record = record { kind = 1; address = 0; bytes = [] }

-- the upper half of data record i's address
abbrev pub upper_of : (i : ℕ) → ℕ
upper_of i = i * 16 / 65536

-- A record of type 04 stands where the upper half changes. In front of record 0 it is 0, and so it is there: 0 - 1 is 0 here.
unfoldable pub upper_at : (i : ℕ) → List Record
upper_at i = cond (eqb (upper_of i) (upper_of (i - 1))) [] (upper_record (upper_of i) ∷ [])

unfoldable pub records_at : (image : List ℕ) → (i : ℕ) → List Record
records_at image i = upper_at i ++ (data_record image i ∷ [])

-- so many data records, with those of type 04
unfoldable pub records_from : (image : List ℕ) → (first count : ℕ) → List Record
records_from image first count = concat_map (records_at image) (range first count)

abbrev pub record_count : (size : ℕ) → ℕ
record_count size = (size + 15) / 16

-- what stands behind the data records of 16 bytes: nothing, or the last one
abbrev pub short_records : (image : List ℕ) → List Record
short_records image = records_from image (length image / 16) (record_count (length image) - length image / 16)

unfoldable pub records_of : (image : List ℕ) → List Record
records_of image = records_from image 0 (record_count (length image)) ++ (end_record ∷ [])

abbrev pub text_of : List Record → List ℕ
text_of records = concat_map record_text records

unfoldable pub hex_text : (image : List ℕ) → List ℕ
hex_text image = text_of (records_of image)

-- 12 bytes a data record and 2 for each of its bytes, 16 for each record of type 04, 12 for the end
unfoldable pub hex_length : (size : ℕ) → ℕ
hex_length size = 12 * record_count size + 2 * size + 16 * ((size - 1) / 65536) + 12
