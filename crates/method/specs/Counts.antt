-- What is claimed of what a run counts: its steps, writes and erases are those of its operations, and its bytes those of the pages that it wrote.
use Rattle.std.specs.Prelude.{false, ◌≡◌, List, map, ℕ, ◌+◌, ◌*◌, ◌≤◌, length}
use Rattle.flash.specs.Lists.{range, count, total}
use Rattle.flash.specs.Tables.{refusal}
use Rattle.flash.specs.declared.sizes.Sizes.{Sizes}
use Rattle.flash.specs.Geometry.{slot, work_len}
use Rattle.flash.specs.PageSum.{written_bytes}
use Rattle.flash.specs.Chip.{Chip, page_at}
use Rattle.flash.specs.declared.wear.Wear.{Wear}
use Rattle.split.specs.Request.{Request}
use Rattle.method.specs.declared.tally.Tally.{Tally}
use Rattle.method.specs.Move.{plan}
use Rattle.method.specs.Place.{Operation, write, erase, done, operation_at, last_place}
use Rattle.method.specs.State.{originals_in, state_of}
use Rattle.method.specs.Step.{is_write, is_erase, operations_from}
use Rattle.method.specs.Worn.{wears_out}
use Rattle.method.specs.Answers.{steps_taken, run_rows, run_answer}
use Rattle.method.specs.Runs.{Start}

-- what a step programs: of the page that it wrote, as it lies afterwards
unfoldable pub bytes_of_step : Sizes → Operation → (after : Chip) → ℕ
bytes_of_step Z (write pass block page) after = written_bytes (page_at Z.p after (slot Z.m block page))
bytes_of_step Z (erase block) after = 0
bytes_of_step Z done after = 0

-- what the steps from a place on program, `after i` being the chip after i of them
unfoldable pub bytes_of_steps : Sizes → (place taken : ℕ) → (after : ℕ → Chip) → ℕ
bytes_of_steps Z place taken after = total (map (λ i. bytes_of_step Z (operation_at Z (place + i)) (after (i + 1))) (range 0 taken))

module _ (R : Request) (chip : Chip) (work : List ℕ) (wear : Wear) (place budget limit : ℕ) where
  open R.sizes use {n, m, p}

  abbrev taken : ℕ
  taken = steps_taken R.sizes place budget

  abbrev tally : Tally
  tally = (run_answer R chip work wear place budget limit).tally

  pub record Counted : Type 0 where
    pub steps : tally.steps ≡ taken
    pub either : tally.steps ≡ tally.writes + tally.erases
    pub writes : tally.writes ≡ count is_write (operations_from R.sizes place taken)
    pub erases : tally.erases ≡ count is_erase (operations_from R.sizes place taken)
    pub bytes : tally.bytes ≡ bytes_of_steps R.sizes place taken (λ i. (run_answer R chip work wear place i limit).chip)
    -- no write counts more than P, and there are at most 2 × n × m of them: 32 bits have room for it
    pub most : tally.bytes ≤ 2 * n * m * p
    pub fits : tally.bytes ≤ 33554432

pub record RunsCount : Type 0 where
  pub counted : (R : Request) (chip : Chip) (work : List ℕ) (wear : Wear) (place budget limit : ℕ) → refusal (run_rows R chip work wear place limit) ≡ 0
      → Counted R chip work wear place budget limit
  -- from rest: what the states of the places hold
  pub from-rest : (R : Request) (chip : Chip) → Start R chip → (work : List ℕ) → length work ≡ work_len R.sizes
      → (wear : Wear) (limit : ℕ) → wears_out R.sizes.n wear limit ≡ false → (t : ℕ) → t ≤ last_place R.sizes
      → (run_answer R chip work wear 0 t limit).tally.bytes ≡ bytes_of_steps R.sizes 0 t (state_of (plan R) (originals_in R.sizes chip))
