-- What is claimed of runs: they add up, and from rest they lead through the states of the places.
use Rattle.std.specs.Prelude.{true, false, ◌≡◌, List, ℕ, zero, suc, ◌+◌, ◌≤◌, ◌<◌, length, get_or}
use Rattle.flash.specs.Tables.{refusal}
use Rattle.flash.specs.Geometry.{slot, slot_of, original_count, store_len, marks_len, work_len}
use Rattle.flash.specs.Chip.{Chip, page_at, is_blank}
use Rattle.flash.specs.declared.wear.Wear.{Wear}
use Rattle.split.specs.Drops.{is_dropped}
use Rattle.split.specs.Split.{is_split}
use Rattle.split.specs.Answer.{split_answer}
use Rattle.split.specs.Request.{Request}
use Rattle.method.specs.Move.{move, plan}
use Rattle.method.specs.Place.{Pass, write, operation_at, last_place}
use Rattle.method.specs.Read.{filler_page}
use Rattle.method.specs.State.{is_at_rest, originals_in, state_of}
use Rattle.method.specs.Step.{added}
use Rattle.method.specs.Worn.{wears_out}
use Rattle.method.specs.Answers.{RunAnswer, run_rows, run_answer}

-- Two runs together: the counts add up, the rest is the second's.
unfoldable pub joined : RunAnswer → RunAnswer → RunAnswer
joined one two = record {
  number = two.number;
  place = two.place;
  tally = added one.tally two.tally;
  finished = two.finished;
  chip = two.chip;
  work = two.work;
  wear = two.wear;
}

-- as many runs of budget 1 as `count` says together, each from where the one before it stopped; the last has budget 0
unfoldable pub runs_of_one : Request → Chip → (work : List ℕ) → Wear → (place count limit : ℕ) → RunAnswer
runs_of_one R chip work wear place zero limit = run_answer R chip work wear place 0 limit
runs_of_one R chip work wear place (suc count) limit =
    let one = run_answer R chip work wear place 1 limit in
    joined one (runs_of_one R one.chip one.work one.wear one.place count limit)

-- rule 7.3
pub record RunsAddUp : Type 0 where
  pub in_two : (R : Request) (chip : Chip) (work : List ℕ) (wear : Wear) (place a b limit : ℕ) → refusal (run_rows R chip work wear place limit) ≡ 0
      → (let one = run_answer R chip work wear place a limit in
      run_answer R chip work wear place (a + b) limit ≡ joined one (run_answer R one.chip one.work one.wear one.place b limit))
  pub in_ones : (R : Request) (chip : Chip) (work : List ℕ) (wear : Wear) (place budget limit : ℕ) → refusal (run_rows R chip work wear place limit) ≡ 0
      → run_answer R chip work wear place budget limit ≡ runs_of_one R chip work wear place budget limit
  -- a run that goes on where the last one stopped is not refused
  pub goes_on : (R : Request) (chip : Chip) (work : List ℕ) (wear : Wear) (place budget limit : ℕ) → refusal (run_rows R chip work wear place limit) ≡ 0
      → (let one = run_answer R chip work wear place budget limit in refusal (run_rows R one.chip one.work one.wear one.place limit) ≡ 0)
  -- whatever bytes are stored, the page that a step writes was blank before it
  pub only-blank : (R : Request) (chip : Chip) (work : List ℕ) (wear : Wear) (place finished limit : ℕ) (pass : Pass) (block page : ℕ)
      → refusal (run_rows R chip work wear place limit) ≡ 0
      → operation_at R.sizes (place + finished) ≡ write pass block page
      → is_blank R.sizes.p (run_answer R chip work wear place finished limit).chip (slot R.sizes.m block page) ≡ true

-- Rules 8.1 and 8.2: a store at rest, a list that split does not refuse, a split of it, and lent parts of their lengths.
pub record Start (R : Request) (chip : Chip) : Type 0 where
  pub store_length : length chip.store ≡ store_len R.sizes
  pub marks-length : length chip.marks ≡ marks_len R.sizes
  pub at_rest : is_at_rest R.sizes chip ≡ true
  pub list-accepted : (split_answer R).number ≡ 0
  pub split-correct : is_split R.sizes.n R.sizes.m (move R).list R.sets ≡ true

-- Demand 2: from rest, after t steps, store and marks are the state of place t: the coded pages, originals, final pages and blanks
-- of rule 4.5. At the end every page is where the completed list sends it, a dropped one as 255s. Number 12 may still refuse the move.
pub record StatesReached : Type 0 where
  pub after-steps : (R : Request) (chip : Chip) → Start R chip → (work : List ℕ) → length work ≡ work_len R.sizes
      → (wear : Wear) (limit : ℕ) → wears_out R.sizes.n wear limit ≡ false → (t : ℕ) → t ≤ last_place R.sizes
      → (let ran = run_answer R chip work wear 0 t limit in
      (ran.number ≡ 0) × (ran.place ≡ t) × (ran.chip ≡ state_of (plan R) (originals_in R.sizes chip) t))
  pub at-end : (R : Request) (chip : Chip) → Start R chip → (work : List ℕ) → length work ≡ work_len R.sizes
      → (wear : Wear) (limit : ℕ) → wears_out R.sizes.n wear limit ≡ false → (k : ℕ) → k < original_count R.sizes
      → (let end = (run_answer R chip work wear 0 (last_place R.sizes) limit).chip in
      let there = page_at R.sizes.p end (slot_of R.sizes.m (get_or (move R).list k 0)) in
      (is_dropped R.list k ≡ false → there ≡ page_at R.sizes.p chip (slot_of R.sizes.m k))
      × (is_dropped R.list k ≡ true → there ≡ filler_page R.sizes.p))
