-- Laws of the writer's turns.
use Rattle.flash.proofs.Kit.{◌≡◌, sym, ap, ◌∙◌, true, false, not, ◌||◌, ⊎_elim, List, [], ◌++◌, append-nil, ℕ, ◌+◌, ◌-◌, ◌*◌, ◌/◌, ◌%◌, ◌≤◌, ◌<◌}
use Rattle.flash.proofs.Kit.{arith, length, take, drop, length-append, length-drop, take_all, drop_of_length-le, eqb, eqb-true, eqb-false, eq-eqb}
use Rattle.flash.proofs.Kit.{ne_eqb, not-true, not-false}
use Rattle.flash.specs.Lists.{concat_map, part}
use Rattle.flash.proofs.Comparisons.{eq-cases, lt-cases}
use Rattle.flash.proofs.Bools.{or_cases, or-false-left, or-false-right}
use Rattle.listing.specs.Lines.{Printed}
use Rattle.intel_hex.specs.Records.{record_text}
use Rattle.intel_hex.specs.Writing.{upper_record, end_record, upper_of, upper_at, records_at, records_from, record_count, text_of, hex_text, hex_length}
use Rattle.intel_hex.proofs.Lengths.{length-text, none_from, more-from, text-more, length_to, text-is, length-all}

-- where the upper half changes, as the code tests it
pub upper-stays : (i : ℕ) → (eqb i 0 || not (eqb (i % 4096) 0)) ≡ true → upper_of i ≡ upper_of (i - 1)
upper-stays i e =
    ⊎_elim
    (λ (z : eqb i 0 ≡ true). let first = eqb-true i 0 z in omega arith)
    (λ (z : not (eqb (i % 4096) 0) ≡ true). let inner = eqb-false (i % 4096) 0 (not-true _ z) in omega arith)
    (or_cases (eqb i 0) (not (eqb (i % 4096) 0)) e)

pub upper-changes : (i : ℕ) → (eqb i 0 || not (eqb (i % 4096) 0)) ≡ false → upper_of i ≡ upper_of (i - 1) → ⊥
upper-changes i e =
    let later = eqb-false i 0 (or-false-left (eqb i 0) (not (eqb (i % 4096) 0)) e) in
    let starts = eqb-true (i % 4096) 0 (not-false _ (or-false-right (eqb i 0) (not (eqb (i % 4096) 0)) e)) in
    λ q. omega arith

-- a record of type 04, or none
pub no-upper : (i : ℕ) → upper_of i ≡ upper_of (i - 1) → text_of (upper_at i) ≡ []
unfolding upper_at concat_map
no-upper i e = rw (eq-eqb (upper_of i) (upper_of (i - 1)) e)

pub new-upper : (i : ℕ) → (upper_of i ≡ upper_of (i - 1) → ⊥) → text_of (upper_at i) ≡ record_text (upper_record (upper_of i))
unfolding upper_at concat_map
new-upper i f = rw (ne_eqb (upper_of i) (upper_of (i - 1)) f, append-nil)

-- the bytes of a data record, cut out of the image
pub part_cut : (image : List ℕ) (i e : ℕ) → i * 16 < e → e ≤ length image → e ≤ i * 16 + 16 → (e < length image → e ≡ i * 16 + 16)
    → take (e - i * 16) (drop (i * 16) image) ≡ part 16 i image
unfolding part
part_cut image i e a b d f =
    let n = length-drop (i * 16) image in
    ⊎_elim
    (λ (h : e < length image).
    let q : e - i * 16 ≡ 16 = omega (arith, f h) in
    rw q)
    (λ (h : length image ≤ e).
    take_all (e - i * 16) (drop (i * 16) image) (omega arith) ∙ sym (take_all 16 (drop (i * 16) image) (omega arith)))
    (lt-cases e (length image))

module _ (image : List ℕ) where
  abbrev N : ℕ
  N = length image

  -- a text that goes on from one of the first records is no longer than the whole
  pub room : (i : ℕ) → i < record_count N → length (text_of (records_from image 0 i)) + length (text_of (records_at image i)) ≤ hex_length N
  unfolding hex_length
  room i h =
      let a = length-append (text_of (records_from image 0 i)) (text_of (records_at image i)) in
      let b = ap length (text-more image i) in
      omega (arith, length_to image (i + 1))

  -- the records behind those of 16 bytes: none, or one
  pub none_last : N % 16 ≡ 0 → text_of (records_from image (N / 16) (record_count N - N / 16)) ≡ []
  unfolding concat_map
  none_last e =
      let z : record_count N - N / 16 ≡ 0 = omega arith in
      rw (z, none_from image (N / 16))

  pub one_last : (N % 16 ≡ 0 → ⊥) → text_of (records_from image (N / 16) (record_count N - N / 16)) ≡ text_of (records_at image (N / 16))
  one_last f =
      let k : record_count N - N / 16 ≡ 0 + 1 = omega arith in
      let z : N / 16 + 0 ≡ N / 16 = omega arith in
      rw (k, more-from image (N / 16) 0, none_from image (N / 16), z)

  -- all data records are those of 16 bytes, and the last
  pub all-data : text_of (records_from image 0 (N / 16)) ++ text_of (records_from image (N / 16) (record_count N - N / 16))
      ≡ text_of (records_from image 0 (record_count N))
  all-data =
      ⊎_elim
      (λ (e : N % 16 ≡ 0).
      let k : record_count N ≡ N / 16 = omega arith in
      rw (none_last e, append-nil, k))
      (λ (f : N % 16 ≡ 0 → ⊥).
      let k : record_count N ≡ N / 16 + 1 = omega arith in
      rw (one_last f) (sym (text-more image (N / 16)) ∙ ap (λ (x : ℕ). text_of (records_from image 0 x)) (sym k)))
      (eq-cases (N % 16) 0)

  pub end-room : length (text_of (records_from image 0 (record_count N))) + 12 ≡ hex_length N
  unfolding end_record
  end-room =
      let a = length-append (text_of (records_from image 0 (record_count N))) (record_text end_record) in
      let b = ap length (text-is image) in
      let d = length-text end_record in
      omega (arith, length-all image)

  pub last-room : length (text_of (records_from image 0 (N / 16))) + length (text_of (records_from image (N / 16) (record_count N - N / 16))) ≤ hex_length N
  last-room =
      let a = length-append (text_of (records_from image 0 (N / 16))) (text_of (records_from image (N / 16) (record_count N - N / 16))) in
      let b = ap length all-data in
      omega (arith, end-room)

  pub all-printed : (before after : List ℕ) (next : ℕ) → Printed (hex_text image) before 0 after next → length before ≡ hex_length N
      → after ≡ hex_text image
  all-printed before after next p e =
      let l = length-all image in
      let d : drop next before ≡ [] = drop_of_length-le before {i = next} (omega (arith, p.next-is)) in
      p.text-is ∙ rw (d, append-nil)
