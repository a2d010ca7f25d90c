-- Rules 11.6 and 11.7: the refusals of the two calls, and the whole answer of each.
use Rattle.std.specs.Prelude.{cond, ◌||◌, not, List, [], ◌∷◌, ℕ, ◌*◌, eqb, length}
use Rattle.flash.specs.Tables.{Row, refusal}
use Rattle.flash.specs.declared.sizes.Sizes.{Sizes}
use Rattle.flash.specs.Geometry.{in_range, original_count}
use Rattle.flash.specs.Chip.{Chip}
use Rattle.method.specs.State.{chip_at_rest, originals_in}
use Rattle.method.specs.Answers.{bad_chip, is_elsewhere}
use Rattle.intel_hex.specs.Writing.{hex_text, hex_length}
use Rattle.intel_hex.specs.Reading.{hex_number, hex_image}

-- the calls take no start letter: the data blocks are at rest with letter 0
abbrev pub rest_sizes : (n m p : ℕ) → Sizes
rest_sizes n m p = record { n = n; m = m; p = p; s = 0 }

-- the image is all originals, block after block; the spare's bytes stand in front of it
abbrev pub spare_length : Sizes → ℕ
spare_length Z = Z.m * Z.p

abbrev pub image_length : Sizes → ℕ
image_length Z = original_count Z * Z.p

-- number 5 is a run's at place 0
unfoldable pub hex_write_rows : Sizes → Chip → (text : List ℕ) → List (Row ℕ)
hex_write_rows Z chip text =
    record { fits = not (in_range Z); gives = 1 }
    ∷ record { fits = bad_chip Z chip || not (eqb (length text) (hex_length (image_length Z))); gives = 2 }
    ∷ record { fits = is_elsewhere Z chip 0; gives = 5 }
    ∷ []

-- The text's own number comes last: 8, 9 or 10 where it is not 0.
unfoldable pub hex_read_rows : Sizes → (text : List ℕ) → Chip → List (Row ℕ)
hex_read_rows Z text chip =
    record { fits = not (in_range Z); gives = 1 }
    ∷ record { fits = bad_chip Z chip; gives = 2 }
    ∷ record { fits = not (eqb (hex_number (image_length Z) text) 0); gives = hex_number (image_length Z) text }
    ∷ []

-- what the writer returns and leaves
pub record HexWriteAnswer : Type 0 where
  pub number : ℕ
  pub text : List ℕ

unfoldable pub hex_write_answer : (n m p : ℕ) → Chip → (text : List ℕ) → HexWriteAnswer
hex_write_answer n m p chip text =
    let Z = rest_sizes n m p in
    let number = refusal (hex_write_rows Z chip text) in
    record { number = number; text = cond (eqb number 0) (hex_text (originals_in Z chip)) text }

-- what the reader returns and leaves
pub record HexReadAnswer : Type 0 where
  pub number : ℕ
  pub chip : Chip

unfoldable pub hex_read_answer : (n m p : ℕ) → (text : List ℕ) → Chip → HexReadAnswer
hex_read_answer n m p text chip =
    let Z = rest_sizes n m p in
    let number = refusal (hex_read_rows Z text chip) in
    record { number = number; chip = cond (eqb number 0) (chip_at_rest Z (hex_image (image_length Z) text)) chip }
