-- What is claimed of the stored pages that a run reads: what each page that it writes costs, and that none costs more than n of them.
use Rattle.std.specs.Prelude.{true, cond, ◌≡◌, List, map, ℕ, ◌+◌, ◌*◌, ◌≤◌, ◌<◌}
use Rattle.flash.specs.Lists.{range, total}
use Rattle.flash.specs.Tables.{refusal}
use Rattle.flash.specs.Geometry.{number_at, original_count}
use Rattle.flash.specs.Chip.{Chip}
use Rattle.flash.specs.declared.wear.Wear.{Wear}
use Rattle.split.specs.Drops.{is_dropped}
use Rattle.split.specs.Request.{Request}
use Rattle.method.specs.Move.{Move, Plan, move, plan}
use Rattle.method.specs.Cycle.{D, pred, is_top, sent_to}
use Rattle.method.specs.Place.{forward, backward, Operation, write, erase, done, operation_at, marks_of}
use Rattle.method.specs.Step.{pages_read}
use Rattle.method.specs.Answers.{steps_taken, run_rows, run_answer, read_answer}

-- what a step reads at these marks
unfoldable pub reads_of_step : Plan → Operation → (marks : List ℕ) → ℕ
reads_of_step X (write pass block page) marks = pages_read X pass block page marks
reads_of_step X (erase block) marks = 0
reads_of_step X done marks = 0

-- what the steps from a place on read, each at the marks of its place
unfoldable pub reads_of_steps : Plan → (place taken : ℕ) → ℕ
reads_of_steps X place taken =
    let Z = X.move.sizes in
    total (map (λ i. reads_of_step X (operation_at Z (place + i)) (marks_of Z (place + i))) (range 0 taken))

module _ (R : Request) (chip : Chip) (work : List ℕ) (wear : Wear) (place limit : ℕ) where
  open R.sizes use {n, m}

  abbrev M : Move
  M = move R

  -- what a run of so many steps returns; and what a read of an original, where the run stands, returns as its count
  abbrev reads : (budget : ℕ) → ℕ
  reads budget = (run_answer R chip work wear place budget limit).tally.reads

  abbrev read_count : (k : ℕ) → ℕ
  read_count k = (read_answer R chip work k).count

  pub record Cost : Type 0 where
    pub of-run : (budget : ℕ) → reads budget ≡ reads_of_steps (plan R) place (steps_taken R.sizes place budget)
    -- c(i) of a set costs D(i), none where it is dropped, and unless i is the top what read counts for D(pred(i))
    pub of-coded : (block set : ℕ) → operation_at R.sizes place ≡ write forward block set
        → (let i = block + 1 in
        reads 1 ≡ cond (is_dropped R.list (D M set i)) 0 1 + cond (is_top M set i) 0 (read_count (D M set (pred M set i))))
    -- a final page costs what read counts for the original that goes there
    pub of-final : (block page : ℕ) → operation_at R.sizes place ≡ write backward block page
        → reads 1 ≡ read_count (sent_to M (number_at m block page))
    pub of-erase : (block : ℕ) → operation_at R.sizes place ≡ erase block → reads 1 ≡ 0
    -- such a read is not refused, and counts none where the original is dropped
    pub read-answers : (k : ℕ) → k < original_count R.sizes → (read_answer R chip work k).number ≡ 0
    pub of-dropped : (k : ℕ) → k < original_count R.sizes → is_dropped R.list k ≡ true → read_count k ≡ 0
    -- one page written costs at most n, and a whole move 2 × n × n × m, for which 32 bits have room
    pub few : reads 1 ≤ n
    pub most : (budget : ℕ) → reads budget ≤ 2 * n * n * m
    pub fits : (budget : ℕ) → reads budget ≤ 524288

-- for every list and split that are accepted and every place, with dropped pages or without
unfoldable pub ReadsCounted : Type 0
ReadsCounted =
    (R : Request) (chip : Chip) (work : List ℕ) (wear : Wear) (place limit : ℕ) → refusal (run_rows R chip work wear place limit) ≡ 0
    → Cost R chip work wear place limit
