-- What the loop over the steps is given, and how far it has come.
use Rattle.std.specs.Prelude.{◌≡◌, List, ℕ, ◌≤◌, length}
use Rattle.flash.specs.Lists.{count}
use Rattle.flash.specs.Tables.{refusal}
use Rattle.flash.specs.Wear.{counter_end, unworn}
use Rattle.split.specs.Request.{Request}
use Rattle.method.specs.Move.{Plan}
use Rattle.method.specs.Place.{operation_at, last_place}
use Rattle.method.specs.Step.{Running, running_of, step, steps, is_write, is_erase, operations_from}
use Rattle.method.specs.Answers.{run_rows}
use Rattle.listing.specs.Lines.{Printed}
use Rattle.steplist.specs.declared.listed.Shown.{Shown}
use Rattle.steplist.specs.Output.{step_line}

-- what all steps leave
abbrev pub moved : Plan → Running → Running
moved X start = steps X (last_place X.move.sizes) 0 start

-- sizes within the program's limits, and a run from the place that is not refused
pub record Listable (R : Request) (run : Running) (place : ℕ) : Type 0 where
  pub few-blocks : R.sizes.n ≤ 8
  pub few-pages : R.sizes.m ≤ 8
  pub short-pages : R.sizes.p ≤ 64
  pub taken : refusal (run_rows R run.chip run.work unworn place counter_end) ≡ 0

-- no line is longer
abbrev pub most_line : ℕ
most_line = 149

-- room for the lines of 2 × 8 × 9 steps and the end line
abbrev pub most_output : ℕ
most_output = 32768

-- a step was taken at a place, and its line was printed
pub record Stepped (X : Plan) (place : ℕ) (run : Running) (before : List ℕ) (at : ℕ) (shown : Shown) (out store marks work : List ℕ) : Type 0 where
  pub left : running_of store marks work ≡ step X place run
  pub printed : Printed (step_line place (operation_at X.move.sizes place) work) before at out shown.at
  pub short : length (step_line place (operation_at X.move.sizes place) work) ≤ most_line
  pub writes-is : shown.writes ≡ count is_write (operations_from X.move.sizes place 1)
  pub erases-is : shown.erases ≡ count is_erase (operations_from X.move.sizes place 1)
