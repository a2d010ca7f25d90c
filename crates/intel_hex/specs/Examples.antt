-- Worked examples: records and lengths, texts that are read, and whole answers.
use Rattle.std.specs.Prelude.{◌≡◌, List, [], ◌∷◌, ◌++◌, ℕ, replicate}
use Rattle.flash.specs.Lists.{concat_map}
use Rattle.flash.specs.Chip.{Chip}
use Rattle.listing.specs.Digits.{small, capitals, hex}
use Rattle.intel_hex.specs.Records.{record_text}
use Rattle.intel_hex.specs.Writing.{upper_record, upper_at, hex_text, hex_length}
use Rattle.intel_hex.specs.Reading.{hex_number, hex_image}
use Rattle.intel_hex.specs.Answers.{hex_write_answer, hex_read_answer}

-- a line of these bytes, the checksum among them
abbrev line : (bytes : List ℕ) → List ℕ
line bytes = 58 ∷ (concat_map (hex capitals) bytes ++ (10 ∷ []))

-- `:00000001FF`
abbrev end_line : List ℕ
end_line = line (0 ∷ 0 ∷ 0 ∷ 1 ∷ 255 ∷ [])

-- `:020000000102FB` and `:0100010003FB`, which has byte 1 too
abbrev two : List ℕ
two = line (2 ∷ 0 ∷ 0 ∷ 0 ∷ 1 ∷ 2 ∷ 251 ∷ [])

abbrev again : List ℕ
again = line (1 ∷ 0 ∷ 1 ∷ 0 ∷ 3 ∷ 251 ∷ [])

-- `:01000300ab51` in small letters, with a carriage return
abbrev returned : List ℕ
returned = 58 ∷ (concat_map (hex small) (1 ∷ 0 ∷ 3 ∷ 0 ∷ 171 ∷ 81 ∷ []) ++ (13 ∷ 10 ∷ []))

-- `:020000040001F9`, `:020000040000FA`, `:0100000007F8`
abbrev back_again : List ℕ
back_again =
    line (2 ∷ 0 ∷ 0 ∷ 4 ∷ 0 ∷ 1 ∷ 249 ∷ []) ++ line (2 ∷ 0 ∷ 0 ∷ 4 ∷ 0 ∷ 0 ∷ 250 ∷ []) ++ line (1 ∷ 0 ∷ 0 ∷ 0 ∷ 7 ∷ 248 ∷ [])

-- one block of one page of three bytes
abbrev rested : Chip
rested = record { store = 255 ∷ 255 ∷ 255 ∷ 1 ∷ 171 ∷ 255 ∷ []; marks = 255 ∷ 0 ∷ [] }

abbrev other : Chip
other = record { store = replicate 6 7; marks = replicate 2 7 }

pub record Examples : Type 0 where
  -- `:0300000001ABFF52`, `:00000001FF`
  pub written : hex_text (1 ∷ 171 ∷ 255 ∷ [])
      ≡ (58 ∷ 48 ∷ 51 ∷ 48 ∷ 48 ∷ 48 ∷ 48 ∷ 48 ∷ 48 ∷ 48 ∷ 49 ∷ 65 ∷ 66 ∷ 70 ∷ 70 ∷ 53 ∷ 50 ∷ 10 ∷ [])
      ++ (58 ∷ 48 ∷ 48 ∷ 48 ∷ 48 ∷ 48 ∷ 48 ∷ 48 ∷ 49 ∷ 70 ∷ 70 ∷ 10 ∷ [])
  pub length-1 : hex_length 1 ≡ 26
  pub length-16 : hex_length 16 ≡ 56
  pub length-17 : hex_length 17 ≡ 70
  pub length-span : hex_length 65536 ≡ 180236
  pub length-past-span : hex_length 65537 ≡ 180266
  pub length_most : hex_length 16777216 ≡ 46141436
  -- type 04 stands before the first byte of a later span only
  pub no-upper-first : upper_at 0 ≡ []
  pub no-upper-before : upper_at 4095 ≡ []
  pub upper-there : upper_at 4096 ≡ upper_record 1 ∷ []
  pub no-upper-behind : upper_at 4097 ≡ []
  pub upper-text : record_text (upper_record 1) ≡ line (2 ∷ 0 ∷ 0 ∷ 4 ∷ 0 ∷ 1 ∷ 249 ∷ [])
  -- digits of either case, a carriage return, records in any order, a byte not given
  pub either-case : hex_number 4 (returned ++ two ++ end_line) ≡ 0
  pub either-case-image : hex_image 4 (returned ++ two ++ end_line) ≡ 1 ∷ 2 ∷ 255 ∷ 171 ∷ []
  -- no end record
  pub empty : hex_number 4 [] ≡ 10
  pub no_end : hex_number 4 two ≡ 10
  -- a record without its line feed, and one with two carriage returns
  pub unended : hex_number 4 (58 ∷ concat_map (hex capitals) (0 ∷ 0 ∷ 0 ∷ 1 ∷ 255 ∷ [])) ≡ 8
  pub two-returns : hex_number 4 (58 ∷ (concat_map (hex capitals) (0 ∷ 0 ∷ 0 ∷ 1 ∷ 255 ∷ []) ++ (13 ∷ 13 ∷ 10 ∷ []))) ≡ 8
  -- anything behind the end record
  pub after-end : hex_number 4 (end_line ++ (10 ∷ [])) ≡ 10
  pub second-end : hex_number 4 (end_line ++ end_line) ≡ 10
  -- a byte outside the image; a record over the end of a span
  pub outside : hex_number 4 (line (2 ∷ 0 ∷ 3 ∷ 0 ∷ 1 ∷ 2 ∷ 248 ∷ []) ++ end_line) ≡ 9
  pub over-span : hex_number 4 (line (2 ∷ 255 ∷ 255 ∷ 0 ∷ 1 ∷ 2 ∷ 253 ∷ []) ++ end_line) ≡ 9
  -- a byte given twice, in front of an empty line
  pub twice : hex_number 4 (two ++ again ++ (10 ∷ [])) ≡ 10
  -- another type, in front of a byte given twice
  pub other-type : hex_number 4 (two ++ line (4 ∷ 0 ∷ 0 ∷ 3 ∷ 0 ∷ 0 ∷ 0 ∷ 0 ∷ 249 ∷ []) ++ again ++ end_line) ≡ 8
  pub wrong-sum : hex_number 4 (line (0 ∷ 0 ∷ 0 ∷ 1 ∷ 254 ∷ [])) ≡ 8
  pub no_bytes : hex_number 4 (line (0 ∷ 0 ∷ 0 ∷ 0 ∷ 0 ∷ []) ++ end_line) ≡ 8
  -- type 04 may come again and go back
  pub back-again : hex_number 4 (back_again ++ end_line) ≡ 0
  pub back-again-image : hex_image 4 (back_again ++ end_line) ≡ 7 ∷ 255 ∷ 255 ∷ 255 ∷ []
  -- whole answers of the writer
  pub store-written : hex_write_answer 1 1 3 rested (replicate 30 0) ≡ record { number = 0; text = hex_text (1 ∷ 171 ∷ 255 ∷ []) }
  pub no_blocks : hex_write_answer 0 1 3 rested (replicate 30 0) ≡ record { number = 1; text = replicate 30 0 }
  pub short-text : hex_write_answer 1 1 3 rested (replicate 29 0) ≡ record { number = 2; text = replicate 29 0 }
  pub marked-1 : hex_write_answer 1 1 3 (record { store = rested.store; marks = 255 ∷ 1 ∷ [] }) (replicate 30 0)
      ≡ record { number = 5; text = replicate 30 0 }
  pub spare-written : hex_write_answer 1 1 3 (record { store = replicate 6 7; marks = rested.marks }) (replicate 30 0)
      ≡ record { number = 5; text = replicate 30 0 }
  -- and of the reader, which leaves the store as it was where it refuses
  pub store-read : hex_read_answer 1 1 3 (hex_text (1 ∷ 171 ∷ 255 ∷ [])) other ≡ record { number = 0; chip = rested }
  pub none-given : hex_read_answer 1 1 3 end_line other
      ≡ record { number = 0; chip = record { store = replicate 6 255; marks = 255 ∷ 0 ∷ [] } }
  pub many-blocks : hex_read_answer 65 1 3 end_line other ≡ record { number = 1; chip = other }
  pub other_length : hex_read_answer 1 2 3 end_line other ≡ record { number = 2; chip = other }
  pub no_text : hex_read_answer 1 1 3 [] other ≡ record { number = 10; chip = other }
