-- What the code tells of a number and of a line, at a position of the text.
use Rattle.std.specs.Prelude.{◌≡◌, Bool, true, false, cond, Option, Some, None, ◌&&◌, ◌||◌, List, ℕ, ◌+◌, ◌≤◌, ◌<◌, min, eqb, leb, ltb, length, get_or, drop}
use Rattle.std.specs.Int.Bits.{bit_xor}
use Rattle.flash.specs.Lists.{all}
use Rattle.listing.specs.Numbers.{spelled}
use Rattle.checker.specs.declared.number.Number.{Number}
use Rattle.checker.specs.declared.line.Originals.{Originals}
use Rattle.checker.specs.declared.line.Told.{Told}
use Rattle.checker.specs.declared.line.Told.TheVariants.{Write, Erase, End}
use Rattle.checker.specs.Lines.{leading, is_number, fields, behind_fields, is_rising, Line, write, erase, end, other, Read}
use Rattle.checker.specs.Pages.{mask_of}

-- Larger numbers count as this one: it is no block, page or original, and no text has so many lines.
abbrev pub cap : ℕ
cap = 18446744073709551610

-- the number at a position, if one stands there, and the position behind it
abbrev pub number_at : (text : List ℕ) → (at : ℕ) → Option Number
number_at text at =
    let digits = leading (drop at text) in
    cond (is_number digits) (Some (record { value = min (spelled 0 digits) cap; next = at + length digits })) None

-- the field at a position
unfoldable pub field_at : (text : List ℕ) → (at : ℕ) → Option Number
field_at text at = cond (eqb (get_or text at 0) 32) (number_at text (at + 1)) None

-- what is gathered of originals once `mask` and `least` are known of those before
pub record Gathering : Type 0 where
  pub good : Bool
  pub mask : ℕ
  pub rest : List ℕ

unfoldable pub gathering : (count left least mask : ℕ) → (text : List ℕ) → Gathering
gathering count left least mask text =
    let values = fields left text in
    record {
      good = (ltb 0 least || leb 1 (length values)) && is_rising least values && all (λ k. ltb k count) values;
      mask = bit_xor mask (mask_of values);
      rest = behind_fields left text;
    }

-- originals that are good
pub record Whole (text : List ℕ) (at count : ℕ) (r : Originals) : Type 0 where
  pub good-is : (gathering count count 0 0 (drop at text)).good ≡ true
  pub mask_is : r.mask ≡ (gathering count count 0 0 (drop at text)).mask
  pub rest-is : drop r.next text ≡ (gathering count count 0 0 (drop at text)).rest
  pub low : at ≤ r.next
  pub high : r.next ≤ length text

abbrev pub Gathered : (text : List ℕ) → (at count : ℕ) → Option Originals → Type 0
Gathered text at count (Some r) = Whole text at count r
Gathered text at count None = (gathering count count 0 0 (drop at text)).good ≡ false

-- a line with the mask of its originals, and with counts up to the cap
pub data Said : Type 0 where
  wrote : (block page mask : ℕ) → (rest : List ℕ) → Said
  erased : (block : ℕ) → (rest : List ℕ) → Said
  ended : (writes erases : ℕ) → (rest : List ℕ) → Said
  unread : Said

unfoldable pub said : Line → (rest : List ℕ) → Said
said (write block page originals) rest = wrote block page (mask_of originals) rest
said (erase block) rest = erased block rest
said (end writes erases) rest = ended (min writes cap) (min erases cap) rest
said other rest = unread

abbrev pub said_of : Read → Said
said_of read = said read.line read.rest

-- the same as the code tells it
abbrev pub told_as : (text : List ℕ) → Option Told → Said
told_as text (Some (Write block page mask next)) = wrote block page mask (drop next text)
told_as text (Some (Erase block next)) = erased block (drop next text)
told_as text (Some (End writes erases next)) = ended writes erases (drop next text)
told_as text None = unread

-- the position behind a line lies within the text, and what the line names within the sizes
abbrev pub Ahead : (n m at size : ℕ) → Option Told → Type 0
Ahead n m at size (Some (Write block page mask next)) = (at < next) × (next ≤ size) × (block ≤ n) × (page < m)
Ahead n m at size (Some (Erase block next)) = (at < next) × (next ≤ size) × (block ≤ n)
Ahead n m at size (Some (End writes erases next)) = (at < next) × (next ≤ size)
Ahead n m at size None = Unit {0}
