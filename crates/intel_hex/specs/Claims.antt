-- What the definitions give.
use Rattle.std.specs.Prelude.{◌≡◌, Bool, true, cond, ◌&&◌, not, List, [], ◌∷◌, map, ℕ, ◌+◌, ◌*◌, ◌/◌, ◌%◌, ◌≤◌, eqb, ltb, length, get_or}
use Rattle.std.proofs.Math.Option.{some}
use Rattle.flash.specs.Lists.{all}
use Rattle.flash.specs.Chip.{Chip}
use Rattle.method.specs.State.{originals_in}
use Rattle.intel_hex.specs.Records.{Record}
use Rattle.intel_hex.specs.Writing.{records_of, hex_text, hex_length}
use Rattle.intel_hex.specs.Reading.{records_in}
use Rattle.intel_hex.specs.Answers.{rest_sizes, hex_write_answer, hex_read_answer}

-- the text's length follows from that of the image
unfoldable pub TextLength : Type 0
TextLength = (image : List ℕ) → length (hex_text image) ≡ hex_length (length image)

-- bytes that 32 bits of address reach
pub record IsImage (image : List ℕ) : Type 0 where
  pub bytes : all (λ byte. ltb byte 256) image ≡ true
  pub few : length image ≤ 4294967296

-- the reader takes each record of the writer, as it was
unfoldable pub RecordsTaken : Type 0
RecordsTaken = (image : List ℕ) → IsImage image → records_in (hex_text image) ≡ map some (records_of image)

-- what a record of type 04 sets the upper half to
abbrev pub half_in : Record → ℕ
half_in r = get_or r.bytes 0 0 * 256 + get_or r.bytes 1 0

-- Records that go on at address `next` under an upper half: a data record stands at the next address, under its upper half; one of type 04
-- changes the upper half, to that of the next address.
unfoldable pub go_on_at : (upper next : ℕ) → List Record → Bool
go_on_at upper next [] = true
go_on_at upper next (r ∷ records) =
    cond (eqb r.kind 4) (not (eqb (half_in r) upper) && eqb (half_in r) (next / 65536) && go_on_at (half_in r) next records)
    (cond (eqb r.kind 0) (eqb upper (next / 65536) && eqb r.address (next % 65536) && go_on_at upper (next + length r.bytes) records)
    (go_on_at upper next records))

-- A record of type 04 stands where the upper half becomes another, starting at 0, and nowhere else; addresses rise without a gap.
unfoldable pub UpperHalves : Type 0
UpperHalves = (image : List ℕ) → go_on_at 0 0 (records_of image) ≡ true

-- a store of bytes that the writer does not refuse
pub record Written (n m p : ℕ) (chip : Chip) (text : List ℕ) : Type 0 where
  pub bytes : all (λ byte. ltb byte 256) chip.store ≡ true
  pub taken : (hex_write_answer n m p chip text).number ≡ 0

abbrev pub text_written : (n m p : ℕ) → Chip → (text : List ℕ) → List ℕ
text_written n m p chip text = (hex_write_answer n m p chip text).text

abbrev pub data_bytes : (n m p : ℕ) → Chip → List ℕ
data_bytes n m p chip = originals_in (rest_sizes n m p) chip

-- It comes back from its text, store and marks, whatever the store was that is read into.
unfoldable pub RoundTrip : Type 0
RoundTrip = (n m p : ℕ) (chip other : Chip) (text : List ℕ) → Written n m p chip text
    → length other.store ≡ length chip.store → length other.marks ≡ length chip.marks
    → hex_read_answer n m p (text_written n m p chip text) other ≡ record { number = 0; chip = chip }

-- for equal sizes two texts are equal exactly if the data bytes are
pub record SameTexts (n m p : ℕ) (a b : Chip) (text : List ℕ) : Type 0 where
  pub same_bytes : text_written n m p a text ≡ text_written n m p b text → data_bytes n m p a ≡ data_bytes n m p b
  pub same_text : data_bytes n m p a ≡ data_bytes n m p b → text_written n m p a text ≡ text_written n m p b text

unfoldable pub TextsDiffer : Type 0
TextsDiffer = (n m p : ℕ) (a b : Chip) (text : List ℕ) → Written n m p a text → Written n m p b text → SameTexts n m p a b text
