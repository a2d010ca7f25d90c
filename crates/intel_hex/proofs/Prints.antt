-- What the functions that print a record keep, and what they leave.
use Rattle.flash.proofs.Kit.{◌≡◌, refl, sym, ap, ◌∙◌, List, [], ◌∷◌, ◌++◌, append_assoc, append-nil, ℕ, zero, suc, ◌+◌, ◌-◌, ◌*◌, ◌/◌, ◌%◌, ◌≤◌, ◌<◌}
use Rattle.flash.proofs.Kit.{add-one, arith, length, get_or, take, drop, set, replicate, length-append, length-drop, take-suc, take_at, length-take-le}
use Rattle.flash.proofs.Kit.{drop-drop}
use Rattle.flash.specs.Lists.{concat_map, total}
use Rattle.flash.proofs.Loops.{over-more}
use Rattle.listing.specs.Digits.{capitals, digit_of, hex}
use Rattle.listing.proofs.PrintLaws.{hex-more, length-hex}
use Rattle.intel_hex.specs.Records.{Record, checksum, fields, line_of, record_text}
use Rattle.intel_hex.proofs.Digits.{hex-is, total-append}
use Rattle.intel_hex.proofs.Lengths.{concat_map-append}

pub total-more : (bytes : List ℕ) (i : ℕ) → i < length bytes → total (take (i + 1) bytes) ≡ total (take i bytes) + get_or bytes i 0
unfolding total
total-more bytes i h = rw (add-one i, take-suc bytes i 0 h, total-append (take i bytes) (get_or bytes i 0 ∷ [])) (omega arith)

-- ---- the digits of an area, byte by byte
abbrev pub spelled : (area digits : List ℕ) → (i : ℕ) → List ℕ
spelled area digits i = concat_map (hex capitals) (take i area) ++ drop (2 * i) digits

pub spelled-more : (area digits : List ℕ) (i : ℕ) → i < length area → 2 * i + 1 < length digits → get_or area i 0 < 256
    → set (set (spelled area digits i) (2 * i) (digit_of capitals (get_or area i 0 / 16))) (2 * i + 1) (digit_of capitals (get_or area i 0 % 16))
    ≡ spelled area digits (i + 1)
spelled-more area digits i h l b =
    let byte : ℕ = get_or area i 0 in
    let front : List ℕ = concat_map (hex capitals) (take i area) in
    let n : length front ≡ 2 * i = length-hex capitals (take i area) ∙ omega (arith, length-take-le i area (omega arith)) in
    let m : length (front ++ (digit_of capitals (byte / 16) ∷ [])) ≡ 2 * i + 1 =
    length-append front (digit_of capitals (byte / 16) ∷ []) ∙ omega (arith, n) in
    let d : byte / 16 % 16 ≡ byte / 16 = omega arith in
    let k : 2 * (i + 1) ≡ 2 * i + 1 + 1 = omega arith in
    rw (
      over-more front digits (2 * i) (digit_of capitals (byte / 16)) n (omega arith),
      over-more (front ++ (digit_of capitals (byte / 16) ∷ [])) digits (2 * i + 1) (digit_of capitals (byte % 16)) m l,
      hex-more capitals area i h,
      hex-is byte,
      d,
      k,
      append_assoc front,
    )

-- ---- four fields and bytes, gathered in an area
pub gathered : (area bytes : List ℕ) (count high low kind : ℕ) → 4 ≤ length area
    → (let area' = set (set (set (set area 0 count) 1 high) 2 low) 3 kind in
    take 4 area' ++ (bytes ++ drop (length bytes) (drop 4 area')))
    ≡ count ∷ high ∷ low ∷ kind ∷ (bytes ++ drop (4 + length bytes) area)
gathered [] bytes count high low kind h = absurd (omega arith)
gathered (a ∷ []) bytes count high low kind h = absurd (omega arith)
gathered (a ∷ b ∷ []) bytes count high low kind h = absurd (omega arith)
gathered (a ∷ b ∷ c ∷ []) bytes count high low kind h = absurd (omega arith)
gathered (a ∷ b ∷ c ∷ d ∷ area) bytes count high low kind h =
    ap (λ (l : List ℕ). count ∷ high ∷ low ∷ kind ∷ (bytes ++ l)) (drop-drop (length bytes) 4 (a ∷ b ∷ c ∷ d ∷ area))

pub gathered-length : (area bytes : List ℕ) → 4 + length bytes ≤ length area
    → length (0 ∷ 0 ∷ 0 ∷ 0 ∷ (bytes ++ drop (4 + length bytes) area)) ≡ length area
gathered-length area bytes h =
    omega (arith, length-append bytes (drop (4 + length bytes) area), length-drop (4 + length bytes) area)

pub zeros-total : (n k : ℕ) → total (drop n (replicate k 0)) ≡ 0
unfolding total
zeros-total zero zero = refl
zeros-total zero (suc k) = omega (arith, zeros-total zero k)
zeros-total (suc n) zero = refl
zeros-total (suc n) (suc k) = zeros-total n k

one_byte : (byte : ℕ) → concat_map (hex capitals) (byte ∷ []) ≡ hex capitals byte
unfolding concat_map
one_byte byte = append-nil (hex capitals byte)

-- the text of a record, from the digits of what was gathered
module _ (kind address : ℕ) (bytes zeros : List ℕ) (none : total zeros ≡ 0) where
  abbrev r : Record
  r = record { kind = kind; address = address; bytes = bytes }

  abbrev front : List ℕ
  front = length bytes ∷ address / 256 ∷ address % 256 ∷ kind ∷ bytes

  pub front-digits : take (8 + 2 * length bytes) (concat_map (hex capitals) (front ++ zeros)) ≡ concat_map (hex capitals) front
  front-digits =
      let n : length (concat_map (hex capitals) front) ≡ 8 + 2 * length bytes = length-hex capitals front ∙ omega arith in
      rw (concat_map-append (hex capitals) front zeros)
      (take_at (concat_map (hex capitals) front) (concat_map (hex capitals) zeros) (8 + 2 * length bytes) n)

  pub record-parts : (58 ∷ []) ++ (concat_map (hex capitals) front ++ (hex capitals ((256 - total (front ++ zeros) % 256) % 256) ++ (10 ∷ [])))
      ≡ record_text r
  unfolding record_text line_of fields checksum
  record-parts =
      let s : total (front ++ zeros) ≡ total front = total-append front zeros ∙ omega arith in
      let check : ℕ = (256 - total front % 256) % 256 in
      let h : concat_map (hex capitals) (check ∷ []) ≡ hex capitals check = one_byte check in
      rw (s, concat_map-append (hex capitals) front (check ∷ []), h)
      (sym (ap (λ (l : List ℕ). 58 ∷ l) (append_assoc (concat_map (hex capitals) front) (hex capitals check) (10 ∷ []))))
