-- An image comes back from its text.
use Rattle.flash.proofs.Kit.{◌≡◌, refl, sym, ap, ◌∙◌, true, false, ⊎_elim, List, [], ◌∷◌, ◌++◌, append-nil, append_assoc, map, Option, none, some, ℕ}
use Rattle.flash.proofs.Kit.{zero, suc, ◌+◌, ◌-◌, ◌*◌, ◌/◌, ◌%◌, ◌<◌, min, add-one, arith, eqb, ltb, length, take, drop, replicate, length-map}
use Rattle.flash.proofs.Kit.{take-append-drop, take_at, drop_at, drop-drop, take-add, take_all, length-take-le, eqb-true, le-ltb, le-leb}
use Rattle.flash.specs.Lists.{all, any, concat_map, part}
use Rattle.flash.proofs.Bools.{bool_cases, and_left, and_right}
use Rattle.flash.proofs.Searches.{all_append}
use Rattle.intel_hex.specs.Records.{Record, fields, record_text}
use Rattle.intel_hex.specs.Writing.{data_record, upper_record, end_record, upper_of, upper_at, records_at, records_from, record_count, records_of, hex_text}
use Rattle.intel_hex.specs.Reading.{records_in, lines_from, unended, is_type, State, Outcome, going, is_given, is_outside, is_repeated, give, with_upper}
use Rattle.intel_hex.specs.Reading.{at_end, judge_data, judge_record, judge, judge_all, start, outcome_of, number_of, byte_of, bytes_of, hex_number, hex_image}
use Rattle.intel_hex.specs.Claims.{IsImage, RecordsTaken}
use Rattle.intel_hex.proofs.Digits.{are_bytes, cons-bytes}
use Rattle.intel_hex.proofs.Lines.{Good, record-back}
use Rattle.intel_hex.proofs.Lengths.{none_from, more-from, length_part}

pub record Back (image : List ℕ) : Type 0 where
  pub number_is : hex_number (length image) (hex_text image) ≡ 0
  pub image-is : hex_image (length image) (hex_text image) ≡ image

-- ---- records that are read back
abbrev all_good : List Record → Type 0
all_good [] = Unit
all_good (r ∷ records) = Good r × all_good records

good-append : (a b : List Record) → all_good a → all_good b → all_good (a ++ b)
good-append [] b g h = h
good-append (r ∷ a) b g h = (g.0, good-append a b g.1 h)

records-back : (records : List Record) → all_good records → records_in (concat_map record_text records) ≡ map some records
unfolding concat_map records_in lines_from unended
records-back [] g = refl
records-back (r ∷ records) g =
    record-back r (concat_map record_text records) g.0 ∙ ap (λ (l : List (Option Record)). some r ∷ l) (records-back records g.1)

no_bytes : are_bytes []
unfolding all
no_bytes = refl

drop-bytes : (n : ℕ) (bytes : List ℕ) → are_bytes bytes → are_bytes (drop n bytes)
drop-bytes n bytes e =
    and_right (all (λ b. ltb b 256) (take n bytes)) (all (λ b. ltb b 256) (drop n bytes))
    (sym (all_append (λ b. ltb b 256) (take n bytes) (drop n bytes)) ∙ rw (take-append-drop n bytes) e)

take-bytes : (n : ℕ) (bytes : List ℕ) → are_bytes bytes → are_bytes (take n bytes)
take-bytes n bytes e =
    and_left (all (λ b. ltb b 256) (take n bytes)) (all (λ b. ltb b 256) (drop n bytes))
    (sym (all_append (λ b. ltb b 256) (take n bytes) (drop n bytes)) ∙ rw (take-append-drop n bytes) e)

-- ---- lists of what is given
none-given : (n m : ℕ) → any is_given (take n (replicate m none)) ≡ false
unfolding any is_given
none-given zero m = refl
none-given (suc n) zero = refl
none-given (suc n) (suc m) = none-given n m

abbrev nothing : Option ℕ
nothing = none

drop-replicate : (n m : ℕ) → drop n (replicate m nothing) ≡ replicate (m - n) nothing
drop-replicate zero m =
    let e : m - 0 ≡ m = omega arith in
    rw e
drop-replicate (suc n) zero =
    let e : 0 - suc n ≡ 0 = omega arith in
    rw e
drop-replicate (suc n) (suc m) =
    let e : suc m - suc n ≡ m - n = omega arith in
    rw e (drop-replicate n m)

pub map-append : {A B : Type 0} (f : A → B) (a b : List A) → map f (a ++ b) ≡ map f a ++ map f b
map-append f [] b = refl
map-append f (x ∷ a) b = ap (λ (l : List _). f x ∷ l) (map-append f a b)

pub map-some : (bytes : List ℕ) → map byte_of (map some bytes) ≡ bytes
unfolding byte_of
map-some [] = refl
map-some (byte ∷ bytes) = ap (λ (l : List ℕ). byte ∷ l) (map-some bytes)

judge-append : (size : ℕ) (o : Outcome) (a b : List (Option Record)) → judge_all size o (a ++ b) ≡ judge_all size (judge_all size o a) b
unfolding judge_all
judge-append size o [] b = refl
judge-append size o (r ∷ a) b = judge-append size (judge size o r) a b

module _ (image : List ℕ) (I : IsImage image) where
  abbrev N : ℕ
  N = length image

  -- ---- each record is good
  four : (a b c d : ℕ) (bytes : List ℕ) → a < 256 → b < 256 → c < 256 → d < 256 → are_bytes bytes → are_bytes (a ∷ b ∷ c ∷ d ∷ bytes)
  four a b c d bytes e f g h l = cons-bytes a _ e (cons-bytes b _ f (cons-bytes c _ g (cons-bytes d _ h l)))

  data-good : (k : ℕ) → k * 16 < N → Good (data_record image k)
  unfolding data_record fields is_type part
  data-good k h =
      let n : length (part 16 k image) ≡ min 16 (N - k * 16) = length_part k image in
      record {
        bytes =
            four _ _ _ _ _ (omega arith) (omega arith) (omega arith) (omega arith)
            (take-bytes 16 (drop (k * 16) image) (drop-bytes (k * 16) image I.bytes));
        known = rw (le-leb 1 (length (part 16 k image)) (omega arith));
      }

  upper-good : (k : ℕ) → k * 16 < N → Good (upper_record (upper_of k))
  unfolding upper_record fields is_type
  upper-good k h =
      let few = I.few in
      record {
        bytes =
            four _ _ _ _ _ (omega arith) (omega arith) (omega arith) (omega arith)
            (cons-bytes _ _ (omega arith) (cons-bytes _ _ (omega arith) no_bytes));
        known = refl;
      }

  at-good : (k : ℕ) → k * 16 < N → all_good (records_at image k)
  unfolding records_at upper_at
  at-good k h =
      ⊎_elim
      (λ (e : eqb (upper_of k) (upper_of (k - 1)) ≡ true). rw e (data-good k h, tt))
      (λ (e : eqb (upper_of k) (upper_of (k - 1)) ≡ false). rw e (upper-good k h, (data-good k h, tt)))
      (bool_cases (eqb (upper_of k) (upper_of (k - 1))))

  to-good : (k : ℕ) → k * 16 < N + 16 → all_good (records_from image 0 k)
  to-good zero h = rw (none_from image 0) tt
  to-good (suc k) h =
      let z : 0 + k ≡ k = omega arith in
      rw (← add-one k, more-from image 0 k, z)
      (good-append (records_from image 0 k) (records_at image k) (to-good k (omega arith)) (at-good k (omega arith)))

  end-good : all_good (end_record ∷ [])
  unfolding end_record fields is_type all
  end-good = (record { bytes = refl; known = refl }, tt)

  -- ---- what the first k data records give
  abbrev given_to : ℕ → List (Option ℕ)
  given_to k = map some (take (k * 16) image) ++ replicate (N - k * 16) none

  abbrev given_front : ℕ → List (Option ℕ)
  given_front k = map some (take (k * 16) image)

  abbrev reached : (upper k : ℕ) → State
  reached upper k = record { upper = upper; given = given_to k; ended = false }

  module _ (k : ℕ) (h : k * 16 < N) where
    front : length (given_front k) ≡ k * 16
    front = length-map (take (k * 16) image) some ∙ length-take-le (k * 16) image (omega arith)

    part-is : length (part 16 k image) ≡ min 16 (N - k * 16)
    part-is = length_part k image

    more_given : take (k * 16) (given_to k) ++ (map some (part 16 k image) ++ drop (k * 16 + length (part 16 k image)) (given_to k)) ≡ given_to (k + 1)
    unfolding part
    more_given =
        let s : (k + 1) * 16 ≡ k * 16 + 16 = omega arith in
        let r : N - k * 16 - length (part 16 k image) ≡ N - (k * 16 + 16) = omega (arith, part-is) in
        rw (
          take_at (map some (take (k * 16) image)) (replicate (N - k * 16) none) (k * 16) front,
          ← drop-drop (length (part 16 k image)) (k * 16) (given_to k),
          drop_at (map some (take (k * 16) image)) (replicate (N - k * 16) none) (k * 16) front,
          drop-replicate (length (part 16 k image)) (N - k * 16),
          r,
          s,
          take-add (k * 16) 16 image,
          map-append some (take (k * 16) image) (part 16 k image),
        )
        (sym (append_assoc (map some (take (k * 16) image)) (map some (part 16 k image)) (replicate (N - (k * 16 + 16)) none)))

    data-judged : judge N (going (reached (upper_of k) k)) (some (data_record image k)) ≡ going (reached (upper_of k) (k + 1))
    unfolding judge judge_record judge_data is_outside is_repeated give data_record
    data-judged =
        let n = part-is in
        let p : upper_of k * 65536 + k * 16 % 65536 ≡ k * 16 = omega arith in
        rw (
          p,
          le-ltb 65536 (k * 16 % 65536 + length (part 16 k image)) (omega arith),
          le-ltb N (k * 16 + length (part 16 k image)) (omega arith),
          drop_at (map some (take (k * 16) image)) (replicate (N - k * 16) none) (k * 16) front,
          none-given (length (part 16 k image)) (N - k * 16),
          more_given,
        )

    upper-judged : judge N (going (reached (upper_of (k - 1)) k)) (some (upper_record (upper_of k))) ≡ going (reached (upper_of k) k)
    unfolding judge judge_record with_upper upper_record
    upper-judged =
        let u : upper_of k / 256 * 256 + upper_of k % 256 ≡ upper_of k = omega arith in
        rw u

    at-judged : judge_all N (going (reached (upper_of (k - 1)) k)) (map some (records_at image k)) ≡ going (reached (upper_of k) (k + 1))
    unfolding records_at upper_at judge_all
    at-judged =
        ⊎_elim
        (λ (e : eqb (upper_of k) (upper_of (k - 1)) ≡ true). rw (e, ← eqb-true (upper_of k) (upper_of (k - 1)) e) data-judged)
        (λ (e : eqb (upper_of k) (upper_of (k - 1)) ≡ false). rw (e, upper-judged) data-judged)
        (bool_cases (eqb (upper_of k) (upper_of (k - 1))))

  none-judged : judge_all N (going (start N)) [] ≡ going (reached 0 0)
  unfolding judge_all start
  none-judged =
      let z : N - 0 * 16 ≡ N = omega arith in
      rw z

  to-judged : (k : ℕ) → k * 16 < N + 16 → judge_all N (going (start N)) (map some (records_from image 0 k)) ≡ going (reached (upper_of (k - 1)) k)
  to-judged zero h = rw (none_from image 0) none-judged
  to-judged (suc k) h =
      let u : k + 1 - 1 ≡ k = omega arith in
      let z : 0 + k ≡ k = omega arith in
      rw (
        ← add-one k,
        more-from image 0 k,
        z,
        map-append some (records_from image 0 k) (records_at image k),
        judge-append N (going (start N)) (map some (records_from image 0 k)) (map some (records_at image k)),
        to-judged k (omega arith),
        at-judged k (omega arith),
        u,
      )

  pub taken_back : records_in (hex_text image) ≡ map some (records_of image)
  unfolding hex_text records_of
  taken_back =
      let k : ℕ = record_count N in
      records-back (records_from image 0 k ++ (end_record ∷ []))
      (good-append (records_from image 0 k) (end_record ∷ []) (to-good k (omega arith)) end-good)

  all-judged : outcome_of N (hex_text image) ≡ going (record { upper = upper_of (record_count N - 1); given = map some image; ended = true })
  unfolding outcome_of records_of judge_all judge judge_record at_end end_record
  all-judged =
      let k : ℕ = record_count N in
      let z : N - k * 16 ≡ 0 = omega arith in
      rw (
        taken_back,
        map-append some (records_from image 0 k) (end_record ∷ []),
        judge-append N (going (start N)) (map some (records_from image 0 k)) (some end_record ∷ []),
        to-judged k (omega arith),
        take_all (k * 16) image (omega arith),
        z,
        append-nil,
      )

  pub back : Back image
  unfolding hex_number hex_image number_of bytes_of
  back = record { number_is = rw all-judged; image-is = rw all-judged (map-some image) }

pub records-taken : RecordsTaken
unfolding RecordsTaken
records-taken image I = taken_back image I
