-- The length of the written text, and of each start of it.
use Rattle.flash.proofs.Kit.{◌≡◌, refl, sym, ap, ◌∙◌, true, false, ⊎_elim, List, [], ◌∷◌, ◌++◌, append-nil, append_assoc, ℕ, zero, suc, ◌+◌, ◌-◌, ◌*◌}
use Rattle.flash.proofs.Kit.{◌≤◌, min, add-one, arith, eqb, length, length-append, length-take, length-drop, eqb-true, eqb-false}
use Rattle.flash.specs.Lists.{range, concat_map, part}
use Rattle.flash.proofs.Bools.{bool_cases}
use Rattle.intel_hex.proofs.RangeLaws.{range-more}
use Rattle.listing.specs.Digits.{capitals, hex}
use Rattle.listing.proofs.PrintLaws.{length-hex}
use Rattle.intel_hex.specs.Records.{Record, checksum, fields, line_of, record_text}
use Rattle.intel_hex.specs.Writing.{data_record, upper_record, end_record, upper_of, upper_at, records_at, records_from, record_count, records_of, text_of}
use Rattle.intel_hex.specs.Writing.{hex_text, hex_length}
use Rattle.intel_hex.specs.Claims.{TextLength}

pub concat_map-append : {A B : Type 0} (f : A → List B) (a b : List A) → concat_map f (a ++ b) ≡ concat_map f a ++ concat_map f b
unfolding concat_map
concat_map-append f [] b = refl
concat_map-append f (x ∷ a) b = rw (concat_map-append f a b) (sym (append_assoc (f x) (concat_map f a) (concat_map f b)))

pub length-text : (r : Record) → length (record_text r) ≡ 12 + 2 * length r.bytes
unfolding record_text line_of fields
length-text r =
    let whole : List ℕ = fields r ++ (checksum (fields r) ∷ []) in
    let h = length-hex capitals whole in
    let a = length-append (concat_map (hex capitals) whole) (10 ∷ []) in
    let b = length-append r.bytes (checksum (fields r) ∷ []) in
    omega arith

pub length_part : (i : ℕ) (image : List ℕ) → length (part 16 i image) ≡ min 16 (length image - i * 16)
unfolding part
length_part i image = simp (length-take, length-drop)

min-more : (k size : ℕ) → min (k * 16) size + min 16 (size - k * 16) ≡ min ((k + 1) * 16) size
min-more k size = omega arith

step_sum : (k x y z u v : ℕ) → x + y ≡ z → v ≤ u → 12 * k + 2 * x + 16 * v + (16 * (u - v) + (12 + 2 * y)) ≡ 12 * (k + 1) + 2 * z + 16 * u
step_sum k x y z u v e h = omega arith

pub upper-length : (i : ℕ) → length (text_of (upper_at i)) ≡ 16 * (upper_of i - upper_of (i - 1))
unfolding upper_at concat_map upper_record
upper-length i =
    let u = length-text (upper_record (upper_of i)) in
    ⊎_elim
    (λ (e : eqb (upper_of i) (upper_of (i - 1)) ≡ true).
    let q = eqb-true (upper_of i) (upper_of (i - 1)) e in
    rw e (omega arith))
    (λ (e : eqb (upper_of i) (upper_of (i - 1)) ≡ false).
    let q = eqb-false (upper_of i) (upper_of (i - 1)) e in
    rw (e, append-nil) (omega arith))
    (bool_cases (eqb (upper_of i) (upper_of (i - 1))))

module _ (image : List ℕ) where
  pub none_from : (i : ℕ) → records_from image i 0 ≡ []
  unfolding records_from concat_map range
  none_from i = refl

  pub more-from : (i k : ℕ) → records_from image i (k + 1) ≡ records_from image i k ++ records_at image (i + k)
  unfolding records_from concat_map
  more-from i k = rw (range-more i k, concat_map-append (records_at image) (range i k) ((i + k) ∷ []), append-nil)

  pub text-more : (k : ℕ) → text_of (records_from image 0 (k + 1)) ≡ text_of (records_from image 0 k) ++ text_of (records_at image k)
  text-more k =
      let z : 0 + k ≡ k = omega arith in
      rw (more-from 0 k, concat_map-append record_text (records_from image 0 k) (records_at image (0 + k)), z)

  pub data-length : (i : ℕ) → length (record_text (data_record image i)) ≡ 12 + 2 * min 16 (length image - i * 16)
  unfolding data_record
  data-length i = length-text (data_record image i) ∙ omega (arith, length_part i image)

  -- what stands at data record i
  pub text_at : (i : ℕ) → text_of (records_at image i) ≡ text_of (upper_at i) ++ record_text (data_record image i)
  unfolding records_at concat_map
  text_at i = rw (concat_map-append record_text (upper_at i) (data_record image i ∷ []), append-nil)

  pub length_at : (i : ℕ) → length (text_of (records_at image i)) ≡ length (text_of (upper_at i)) + length (record_text (data_record image i))
  length_at i = ap length (text_at i) ∙ length-append (text_of (upper_at i)) (record_text (data_record image i))

  pub length_to : (k : ℕ) → length (text_of (records_from image 0 k)) ≡ 12 * k + 2 * min (k * 16) (length image) + 16 * upper_of (k - 1)
  unfolding concat_map
  length_to zero = rw (none_from 0, concat_map) (omega arith)
  length_to (suc k) =
      let u : k + 1 - 1 ≡ k = omega arith in
      rw (← add-one k, u)
      (ap length (text-more k) ∙ length-append (text_of (records_from image 0 k)) (text_of (records_at image k))
      ∙ rw (length_to k, length_at k, upper-length k, data-length k)
      (step_sum k (min (k * 16) (length image)) (min 16 (length image - k * 16))
      (min ((k + 1) * 16) (length image)) (upper_of k) (upper_of (k - 1)) (min-more k (length image)) (omega arith)))

  -- the text is that of the data records, and the end's
  pub text-is : hex_text image ≡ text_of (records_from image 0 (record_count (length image))) ++ record_text end_record
  unfolding hex_text records_of concat_map
  text-is = rw (concat_map-append record_text (records_from image 0 (record_count (length image))) (end_record ∷ []), append-nil)

  pub length-all : length (hex_text image) ≡ hex_length (length image)
  unfolding hex_length end_record
  length-all =
      let k : ℕ = record_count (length image) in
      let e = length-text end_record in
      let n = length_to k in
      ap length text-is ∙ length-append (text_of (records_from image 0 k)) (record_text end_record) ∙ omega arith

pub text-length : TextLength
unfolding TextLength
text-length image = length-all image
