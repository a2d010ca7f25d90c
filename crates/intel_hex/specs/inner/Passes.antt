-- What the passes over a text find: the contracts of the functions inside the reader.
use Rattle.std.specs.Prelude.{◌≡◌, Bool, true, false, cond, ◌&&◌, List, [], ◌∷◌, ◌++◌, map, ℕ, ◌+◌, ◌*◌, ◌≤◌, ◌<◌, eqb, length, take, drop, IsSome}
use Rattle.std.proofs.Math.Option.{Option, none, some}
use Rattle.flash.specs.Lists.{any}
use Rattle.flash.specs.Refusals.{number_in}
use Rattle.intel_hex.specs.Records.{Record}
use Rattle.intel_hex.specs.Reading.{records_in, State, Outcome, going, fault, is_given, is_outside, is_repeated}
use Rattle.intel_hex.specs.Reading.{give, with_upper, at_end, start, number_of, byte_of, bytes_of}
use Rattle.intel_hex.specs.inner.Lines.{kind_at, size_at, address_at, word_from, stop_at, next_from, bytes_at, Good}
use Rattle.intel_hex.specs.inner.Tops.{Tops, top_of}
use Rattle.intel_hex.specs.declared.survey.Found.{Found}

-- ---- a judge who looks for repeated bytes in some spans of 64 KiB only: those whose upper half is `looked` at
module _ (looked : ℕ → Bool) (size : ℕ) where
  unfoldable pub judge_data_in : State → Record → Outcome
  judge_data_in s r = cond (is_outside size s r) (fault 9) (cond (looked s.upper && is_repeated s r) (fault 10) (going (give s r)))

  unfoldable pub judge_record_in : State → Option Record → Outcome
  judge_record_in s none = fault 8
  judge_record_in s (some r) = cond (eqb r.kind 1) (going (at_end s)) (cond (eqb r.kind 4) (going (with_upper s r)) (judge_data_in s r))

  unfoldable pub judge_in : Outcome → Option Record → Outcome
  judge_in (fault number) r = fault number
  judge_in (going s) r = cond s.ended (fault 10) (judge_record_in s r)

  unfoldable pub judge_all_in : Outcome → List (Option Record) → Outcome
  judge_all_in outcome [] = outcome
  judge_all_in outcome (r ∷ records) = judge_all_in (judge_in outcome r) records

abbrev pub state_of : (upper : ℕ) → (given : List (Option ℕ)) → State
state_of upper given = record { upper = upper; given = given; ended = false }

abbrev pub put_at : (given : List (Option ℕ)) → (offset : ℕ) → (bytes : List ℕ) → List (Option ℕ)
put_at given offset bytes = take offset given ++ (map some bytes ++ drop (offset + length bytes) given)

abbrev pub judged_by : (looked : ℕ → Bool) → (size : ℕ) → (text : List ℕ) → Outcome
judged_by looked size text = judge_all_in looked size (going (start size)) (records_in text)

abbrev pub only_in : (w : ℕ) → ℕ → Bool
only_in w upper = eqb upper w

abbrev pub everywhere : ℕ → Bool
everywhere upper = true

abbrev pub nowhere : ℕ → Bool
nowhere upper = false

-- ---- what the record at a position does: `count_at` bytes go to `offset_at`, none of them for a record of type 04
unfoldable pub half_at : (text : List ℕ) → (at upper : ℕ) → ℕ
half_at text at upper = cond (eqb (kind_at text at) 4) (word_from text (at + 9)) upper

unfoldable pub offset_at : (text : List ℕ) → (at upper : ℕ) → ℕ
offset_at text at upper = cond (eqb (kind_at text at) 4) 0 (upper * 65536 + address_at text at)

unfoldable pub count_at : (text : List ℕ) → (at : ℕ) → ℕ
count_at text at = cond (eqb (kind_at text at) 4) 0 (size_at text at)

abbrev pub next_at : (text : List ℕ) → (at : ℕ) → ℕ
next_at text at = next_from text (stop_at text at)

-- ---- one turn of a pass
-- the number is known
pub record Stops (text : List ℕ) (at upper size number : ℕ) : Type 0 where
  pub number_is : (looked : ℕ → Bool) (given : List (Option ℕ))
      → number_of (judge_all_in looked size (going (state_of upper given)) (records_in (drop at text))) ≡ number
  pub image-is : number ≡ 0 → (looked : ℕ → Bool) (given : List (Option ℕ))
      → bytes_of (judge_all_in looked size (going (state_of upper given)) (records_in (drop at text))) ≡ map byte_of given

-- `count` bytes go to `offset` of the image, none of them for a record of type 04
pub record Goes (text : List ℕ) (at upper size half offset count next : ℕ) : Type 0 where
  pub is : (looked : ℕ → Bool) (given : List (Option ℕ)) → judge_all_in looked size (going (state_of upper given)) (records_in (drop at text))
      ≡ judge_all_in looked size
      (cond (looked half && any is_given (take count (drop offset given))) (fault 10)
      (going (state_of half (put_at given offset (bytes_at text at count)))))
      (records_in (drop next text))
  pub inside : at + 11 + 2 * count < next
  pub ends : next ≤ length text
  pub fits : offset + count ≤ size
  pub length-is : length (bytes_at text at count) ≡ count
  pub half-low : half ≤ 65535
  pub span-start : 1 ≤ count → half * 65536 ≤ offset
  pub span-end : 1 ≤ count → offset + count ≤ half * 65536 + 65536

-- the pass goes on behind the record
pub record Steps (text : List ℕ) (at upper size : ℕ) : Type 0 where
  pub good : Good text at
  pub goes : Goes text at upper size (half_at text at upper) (offset_at text at upper) (count_at text at) (next_at text at)

-- ---- whole passes
-- A walk from a position to the end of a survey: each record before it was judged.
pub data Walk (text : List ℕ) (found : Found) : (at upper : ℕ) → Type 0 where
  arrived : {at upper : ℕ} → at ≡ found.end → Stops text at upper found.size (number_in found.verdict) → Walk text found at upper
  walks : {at upper : ℕ} → Steps text at upper found.size → Walk text found (next_at text at) (half_at text at upper) → Walk text found at upper

-- The number without repeated bytes. Where a span's records rise, its judge meets none.
pub record SurveyIs (text : List ℕ) (size : ℕ) (found : Found) (tops : Tops) : Type 0 where
  pub size_is : found.size ≡ size
  pub walk : Walk text found 0 0
  pub number_is : number_in found.verdict ≡ number_of (judged_by nowhere size text)
  pub rising : (w : ℕ) → w < 257 → IsSome (top_of tops w) → number_of (judged_by (only_in w) size text) ≡ number_in found.verdict

-- whether the judge of one span meets a repeated byte
pub record SpanIs (text : List ℕ) (found : Found) (w : ℕ) (r : Bool) : Type 0 where
  pub repeated : r ≡ true → number_of (judged_by (only_in w) found.size text) ≡ 10
  pub none : r ≡ false → number_of (judged_by (only_in w) found.size text) ≡ number_in found.verdict

pub record RepeatsIs (text : List ℕ) (size : ℕ) (r : Bool) : Type 0 where
  pub found : r ≡ true → number_of (judged_by everywhere size text) ≡ 10
  pub none : r ≡ false → judged_by everywhere size text ≡ judged_by nowhere size text
