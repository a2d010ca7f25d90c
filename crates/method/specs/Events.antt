-- Rules 8.1 to 8.6: lists of calls with cuts, and what they leave. Answers are those of Answers.antt and no others.
use Rattle.std.specs.Prelude.{Bool, true, false, cond, ◌||◌, List, [], ◌∷◌, ◌++◌, map, ℕ, zero, suc, ◌+◌, eqb, length, take}
use Rattle.std.proofs.Math.Option.{Option, none, some}
use Rattle.flash.specs.Lists.{range}
use Rattle.flash.specs.declared.sizes.Sizes.{Sizes}
use Rattle.flash.specs.Chip.{Chip}
use Rattle.flash.specs.declared.wear.Wear.{Wear}
use Rattle.split.specs.Request.{Request}
use Rattle.method.specs.Place.{Operation, erase}
use Rattle.method.specs.Step.{operations_from}
use Rattle.method.specs.Mend.{Reading, reading}
use Rattle.method.specs.Answers.{steps_taken, run_answer, mend_answer, read_answer}

-- A call with all that it is given but store and marks, which it finds as the event before it left them.
pub data Call : Type 0 where
  run : Request → (work : List ℕ) → Wear → (place budget limit : ℕ) → Call
  mend : Sizes → Wear → Call
  read : Request → (work : List ℕ) → (k : ℕ) → Call

-- Rule 8.3: how many steps of the call are finished, and whether the next is begun. What a cut
-- inside a step leaves is part of the event, since it is open.
pub data CutPoint : Type 0 where
  uncut : CutPoint
  between : (finished : ℕ) → CutPoint
  inside : (finished : ℕ) → (left : Chip) → CutPoint

pub record Event : Type 0 where
  pub call : Call
  pub cut : CutPoint

-- the sizes that a call is given
unfoldable pub sizes_given : Call → Sizes
sizes_given (run R work wear place budget limit) = R.sizes
sizes_given (mend Z wear) = Z
sizes_given (read R work k) = R.sizes

-- the number that the call returns if it is not cut: 0, or its refusal
unfoldable pub number_of : Call → Chip → ℕ
number_of (run R work wear place budget limit) chip = (run_answer R chip work wear place budget limit).number
number_of (mend Z wear) chip = (mend_answer Z chip wear).number
number_of (read R work k) chip = (read_answer R chip work k).number

-- mend's one step, if it has one
unfoldable pub mend_steps : Option Reading → List Operation
mend_steps none = []
mend_steps (some found) = elim found.to_erase [ none ↦ [] | some b ↦ erase b ∷ [] ]

-- the steps of a call that is not refused; a refused call has none
unfoldable pub steps_of : Call → Chip → List Operation
steps_of (run R work wear place budget limit) chip =
    cond (eqb (number_of (run R work wear place budget limit) chip) 0) (operations_from R.sizes place (steps_taken R.sizes place budget)) []
steps_of (mend Z wear) chip = cond (eqb (number_of (mend Z wear) chip) 0) (mend_steps (reading Z chip.marks)) []
steps_of (read R work k) chip = []

-- the chip once some steps of a call are finished: what the call with just that budget leaves
unfoldable pub chip_after : Call → Chip → (finished : ℕ) → Chip
chip_after (run R work wear place budget limit) chip finished = (run_answer R chip work wear place finished limit).chip
chip_after (mend Z wear) chip zero = chip
chip_after (mend Z wear) chip (suc finished) = (mend_answer Z chip wear).chip
chip_after (read R work k) chip finished = chip

-- the chip once the call has returned
unfoldable pub chip_returned : Call → Chip → Chip
chip_returned (run R work wear place budget limit) chip = (run_answer R chip work wear place budget limit).chip
chip_returned (mend Z wear) chip = (mend_answer Z chip wear).chip
chip_returned (read R work k) chip = chip

-- rule 8.6
unfoldable pub returns_finished : Call → Chip → Bool
returns_finished (run R work wear place budget limit) chip = eqb (run_answer R chip work wear place budget limit).finished 1
returns_finished (mend Z wear) chip = false
returns_finished (read R work k) chip = false

unfoldable pub is_mend : Call → Bool
is_mend (run R work wear place budget limit) = false
is_mend (mend Z wear) = true
is_mend (read R work k) = false

-- what has happened up to a moment
pub record History : Type 0 where
  pub chip : Chip
  -- rule 8.5: the operations begun
  pub begun : List Operation
  -- the recovery calls, refused and cut ones included
  pub mends : ℕ
  pub cuts : ℕ
  -- a cut has come, and no mend since that was not itself cut
  pub unmended : Bool
  -- a run has returned 1 for finished
  pub finished : Bool

unfoldable pub starting : Chip → History
starting chip = record { chip = chip; begun = []; mends = 0; cuts = 0; unmended = false; finished = false }

module _ (h : History) where
  -- within a call, `finished` steps of it being finished
  unfoldable pub during : Call → (finished : ℕ) → History
  during call finished = record {
    chip = chip_after call h.chip finished;
    begun = h.begun ++ take finished (steps_of call h.chip);
    mends = cond (is_mend call) (suc h.mends) h.mends;
    cuts = h.cuts;
    unmended = h.unmended;
    finished = h.finished;
  }

  -- once the call has returned
  unfoldable pub returned : Call → History
  returned call = record {
    chip = chip_returned call h.chip;
    begun = h.begun ++ steps_of call h.chip;
    mends = cond (is_mend call) (suc h.mends) h.mends;
    cuts = h.cuts;
    unmended = cond (is_mend call) false h.unmended;
    finished = h.finished || returns_finished call h.chip;
  }

  -- Once the call is cut: it returns nothing. `left` is what the cut leaves, `begun` how many steps were begun.
  unfoldable pub cut_short : Call → (begun : ℕ) → (left : Chip) → History
  cut_short call begun left = record {
    chip = left;
    begun = h.begun ++ take begun (steps_of call h.chip);
    mends = cond (is_mend call) (suc h.mends) h.mends;
    cuts = suc h.cuts;
    unmended = true;
    finished = h.finished;
  }

  -- rule 8.3: between two steps the finished ones are all that is left
  unfoldable pub after_call : Call → CutPoint → History
  after_call call uncut = returned call
  after_call call (between finished) = cut_short call finished (chip_after call h.chip finished)
  after_call call (inside finished left) = cut_short call (suc finished) left

  -- how many steps of the call are finished when it ends
  unfoldable pub steps_finished : Call → CutPoint → ℕ
  steps_finished call uncut = length (steps_of call h.chip)
  steps_finished call (between finished) = finished
  steps_finished call (inside finished left) = finished

unfoldable pub after : Event → History → History
after event h = after_call h event.call event.cut

-- every moment of a list of events: inside each call, after each of its finished steps, and after each call
unfoldable pub moments : List Event → History → List History
moments [] h = h ∷ []
moments (event ∷ events) h =
    map (during h event.call) (range 0 (suc (steps_finished h event.call event.cut))) ++ moments events (after event h)

-- ---- Rule 12.5: the counters along a list. A call that returns gives them back; a cut one returns nothing, and what it erased is in no record.
-- the record that a call is given; a read is given none, and the caller keeps his
unfoldable pub wear_given : Call → (kept : Wear) → Wear
wear_given (run R work wear place budget limit) kept = wear
wear_given (mend Z wear) kept = wear
wear_given (read R work k) kept = kept

unfoldable pub wear_returned : Call → Chip → (kept : Wear) → Wear
wear_returned (run R work wear place budget limit) chip kept = (run_answer R chip work wear place budget limit).wear
wear_returned (mend Z wear) chip kept = (mend_answer Z chip wear).wear
wear_returned (read R work k) chip kept = kept

-- the erases that the call reports
unfoldable pub erases_returned : Call → Chip → ℕ
erases_returned (run R work wear place budget limit) chip = (run_answer R chip work wear place budget limit).tally.erases
erases_returned (mend Z wear) chip = (mend_answer Z chip wear).erases
erases_returned (read R work k) chip = 0

unfoldable pub returns : CutPoint → Bool
returns uncut = true
returns (between finished) = false
returns (inside finished left) = false

-- the record that the caller has after an event, and after a list of them
unfoldable pub wear_after : Event → History → (kept : Wear) → Wear
wear_after event h kept = cond (returns event.cut) (wear_returned event.call h.chip kept) kept

unfoldable pub wear_at_end : List Event → History → (kept : Wear) → Wear
wear_at_end [] h kept = kept
wear_at_end (event ∷ events) h kept = wear_at_end events (after event h) (wear_after event h kept)

-- the erases that the calls of a list report
unfoldable pub erases_reported : List Event → History → ℕ
erases_reported [] h = 0
erases_reported (event ∷ events) h = cond (returns event.cut) (erases_returned event.call h.chip) 0 + erases_reported events (after event h)

-- and the operations that they finish
unfoldable pub operations_reported : List Event → History → List Operation
operations_reported [] h = []
operations_reported (event ∷ events) h = cond (returns event.cut) (steps_of event.call h.chip) [] ++ operations_reported events (after event h)
