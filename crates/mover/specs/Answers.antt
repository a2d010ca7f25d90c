-- What run and read return and leave, as the definitions' answers have it: a refusal gives its number, and 0 in every other one.
use Rattle.std.specs.Prelude.{cond, Result, Ok, Err, List, ℕ}
use Rattle.flash.specs.Refusals.{number_of}
use Rattle.flash.specs.declared.refusal.Refusal.{Refusal}
use Rattle.flash.specs.declared.wear.Wear.{Wear}
use Rattle.method.specs.Step.{nothing_done}
use Rattle.method.specs.Answers.{RunAnswer, ReadAnswer}
use Rattle.mover.specs.declared.run.Ran.{Ran}
use Rattle.mover.specs.declared.run.RunResult.{RunResult}
use Rattle.mover.specs.declared.read.Summed.{Summed}

-- what a run comes to
abbrev pub run_as : Result Ran Refusal → (store marks work : List ℕ) → Wear → RunAnswer
run_as (Ok ran) store marks work wear = record {
  number = 0;
  place = ran.place;
  tally = ran.tally;
  finished = cond ran.finished 1 0;
  chip = record { store = store; marks = marks };
  work = work;
  wear = wear;
}
run_as (Err refusal) store marks work wear = record {
  number = number_of refusal;
  place = 0;
  tally = nothing_done;
  finished = 0;
  chip = record { store = store; marks = marks };
  work = work;
  wear = wear;
}

abbrev pub ran_as : RunResult → (store marks work : List ℕ) → RunAnswer
ran_as ran store marks work = run_as ran.outcome store marks work ran.wear

abbrev pub read_as : Result Summed Refusal → (work : List ℕ) → ReadAnswer
read_as (Ok read) work = record { number = 0; count = read.count; bytes = read.bytes; work = work }
read_as (Err refusal) work = record { number = number_of refusal; count = 0; bytes = 0; work = work }
