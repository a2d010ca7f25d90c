-- One step more: what it leaves, counts and prints.
use Rattle.flash.proofs.Kit.{◌≡◌, refl, ap, ◌∙◌, List, ℕ, ◌≤◌, ◌<◌, arith, length}
use Rattle.flash.specs.Lists.{count}
use Rattle.std.specs.Prelude.{Result, Ok, Err}
use Rattle.flash.specs.declared.refusal.Refusal.{Refusal}
use Rattle.flash.specs.declared.wear.Wear.{Wear}
use Rattle.flash.specs.Wear.{counter_end, unworn}
use Rattle.split.specs.Request.{Request}
use Rattle.method.specs.Move.{Plan, plan}
use Rattle.method.specs.Place.{operation_at, last_place}
use Rattle.method.specs.Step.{running_of, Running, step, steps, is_write, is_erase, operations_from}
use Rattle.method.specs.Answers.{run_carried_out, steps_taken, RunAnswer, run_answer}
use Rattle.method.proofs.places.Tallies.{tally-counts}
use Rattle.method.proofs.basics.AcceptedCalls.{run-taken}
use Rattle.method.proofs.states.RunsAddUp.{run-answer, still-taken}
use Rattle.mover.specs.declared.run.RunResult.{RunResult}
use Rattle.mover.specs.declared.run.Ran.{Ran}
use Rattle.mover.specs.Answers.{run_as, ran_as}
use Rattle.steplist.specs.Output.{step_line}
use Rattle.steplist.specs.inner.Listing.{Listable}
use Rattle.steplist.proofs.LengthLaws.{line-short}

-- a run gives back what it was lent, refused or not
held : (outcome : Result Ran Refusal) (store marks work : List ℕ) (wear : Wear)
    → running_of store marks work
    ≡ (record { chip = (run_as outcome store marks work wear).chip; work = (run_as outcome store marks work wear).work })
held (Ok ran) store marks work wear = refl
held (Err refusal) store marks work wear = refl

-- what one step of a run that is not refused leaves and counts
pub record OneStep (X : Plan) (run : Running) (place : ℕ) (ran : RunResult) (store marks work : List ℕ) : Type 0 where
  pub left : running_of store marks work ≡ step X place run
  pub writes-is : (ran_as ran store marks work).tally.writes ≡ count is_write (operations_from X.move.sizes place 1)
  pub erases-is : (ran_as ran store marks work).tally.erases ≡ count is_erase (operations_from X.move.sizes place 1)
  pub short : length (step_line place (operation_at X.move.sizes place) work) ≤ 149

module _ (R : Request) (run : Running) (place : ℕ) (L : Listable R run place) (h : place < last_place R.sizes) where
  one_left : steps_taken R.sizes place 1 ≡ 1
  unfolding steps_taken
  one_left = omega arith

  pub one-step : (ran : RunResult) (store marks work : List ℕ) → ran_as ran store marks work ≡ run_answer R run.chip run.work unworn place 1 counter_end → OneStep (plan R) run place ran store marks work
  unfolding run_carried_out steps
  one-step ran store marks work A =
      let e = run-answer R run.chip run.work unworn place 1 counter_end L.taken ∙ ap (run_carried_out (plan R) run.chip run.work unworn place) one_left in
      let B = A ∙ e in
      let after = still-taken R run.chip run.work unworn place 1 counter_end (omega arith) (run-taken R run.chip run.work unworn place counter_end L.taken) in
      let here = held ran.outcome store marks work ran.wear in
      let size : length work ≡ R.sizes.p = ap (λ (r : Running). length r.work) here ∙ ap (λ (a : RunAnswer). length a.work) B ∙ after.lent.work-length in
      let counts = tally-counts (plan R) 1 place run (omega arith) in
      record {
        left = here ∙ ap {B = Running} (λ (a : RunAnswer). record { chip = a.chip; work = a.work }) B;
        writes-is = ap (λ (a : RunAnswer). a.tally.writes) B ∙ counts.0;
        erases-is = ap (λ (a : RunAnswer). a.tally.erases) B ∙ counts.1;
        short = line-short R.sizes place work L.few-blocks L.few-pages (omega (arith, L.short-pages)) h;
      }
