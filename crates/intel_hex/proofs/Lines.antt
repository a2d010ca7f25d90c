-- A record that was written is read as itself.
use Rattle.flash.proofs.Kit.{◌≡◌, refl, ◌∙◌, Bool, true, List, [], ◌∷◌, ◌++◌, append-nil, append_assoc, some, ℕ, ◌+◌, ◌-◌, ◌*◌, ◌/◌, ◌%◌, arith, leb}
use Rattle.flash.proofs.Kit.{length, get_or, length-append, take_at, append_snoc, leb-true, eq-eqb, ne_eqb}
use Rattle.flash.specs.Lists.{all, concat_map}
use Rattle.flash.proofs.Bools.{and_left, and_right}
use Rattle.flash.proofs.Searches.{all-at}
use Rattle.listing.specs.Digits.{capitals, hex}
use Rattle.listing.proofs.PrintLaws.{length-hex}
use Rattle.intel_hex.specs.Records.{Record, checksum, fields, line_of, record_text}
use Rattle.intel_hex.specs.Reading.{lines_from, uncarried, is_known, spelt, is_good, parse, parse_line, records_in}
use Rattle.intel_hex.proofs.Digits.{are_bytes, pairs-back, hex-digits, hex-high, summed, with-checksum}

abbrev is_high : ℕ → Bool
is_high byte = leb 48 byte

pub line-high : (r : Record) → all is_high (line_of r) ≡ true
unfolding line_of all
line-high r = hex-high (fields r ++ (checksum (fields r) ∷ []))

-- a line ends at the first line feed
pub line-ends : (begun line rest : List ℕ) → all is_high line ≡ true
    → lines_from begun (line ++ (10 ∷ rest)) ≡ some (begun ++ line) ∷ lines_from [] rest
unfolding lines_from all
line-ends begun [] rest e = rw append-nil
line-ends begun (byte ∷ line) rest e =
    let high = leb-true 48 byte (and_left (is_high byte) (all is_high line) e) in
    let rest-high = and_right (is_high byte) (all is_high line) e in
    rw (ne_eqb byte 10 (λ q. omega arith), line-ends (begun ++ (byte ∷ [])) line rest rest-high, append_snoc begun byte line)

module _ (kind address : ℕ) (bytes : List ℕ) where
  abbrev r : Record
  r = record { kind = kind; address = address; bytes = bytes }

  abbrev whole : List ℕ
  whole = fields r ++ (checksum (fields r) ∷ [])

  line-uncarried : uncarried (line_of r) ≡ line_of r
  unfolding uncarried line_of
  line-uncarried =
      let last : ℕ = length (line_of r) - 1 in
      let high = leb-true 48 (get_or (line_of r) last 0) (all-at is_high (line_of r) last 0 (line-high r) (omega arith)) in
      rw (ne_eqb (get_or (line_of r) last 0) 13 (λ q. omega arith))

  spelt_back : are_bytes (fields r) → spelt (concat_map (hex capitals) whole) ≡ r
  unfolding spelt fields
  spelt_back e =
      let a : address / 256 * 256 + address % 256 ≡ address = omega arith in
      rw (pairs-back whole (with-checksum (fields r) e), a, take_at bytes (checksum (fields r) ∷ []) (length bytes) refl)

  line-good : are_bytes (fields r) → is_known r ≡ true → is_good (line_of r) ≡ true
  unfolding is_good line_of fields
  line-good e k =
      let b = with-checksum (fields r) e in
      let l : length (concat_map (hex capitals) whole) ≡ 10 + 2 * length bytes =
      length-hex capitals whole ∙ omega (arith, length-append bytes (checksum (fields r) ∷ [])) in
      rw (spelt_back e, pairs-back whole b, eq-eqb _ _ l, hex-digits whole b, eq-eqb _ _ (summed (fields r)), k)

  pub parse-back : are_bytes (fields r) → is_known r ≡ true → parse (line_of r) ≡ some r
  unfolding parse line_of
  parse-back e k = rw (line-uncarried, line-good e k, spelt_back e)

-- records whose text is read back
pub record Good (r : Record) : Type 0 where
  pub bytes : are_bytes (fields r)
  pub known : is_known r ≡ true

pub record-back : (r : Record) (rest : List ℕ) → Good r → records_in (record_text r ++ rest) ≡ some r ∷ records_in rest
unfolding records_in record_text parse_line
record-back r rest g =
    let back = parse-back r.kind r.address r.bytes g.bytes g.known in
    rw (append_assoc (line_of r) (10 ∷ []) rest, line-ends [] (line_of r) rest (line-high r), back)
