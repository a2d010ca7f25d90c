-- The example is allowed, and demand 3 is applied to it; the bounds are met, by computing.
use Rattle.flash.proofs.Kit.{refl, lit<}
use Rattle.method.specs.Step.{is_erase, erases_block}
use Rattle.method.specs.Runs.{Start}
use Rattle.method.specs.Events.{starting, sizes_given, number_of, mend_steps, steps_of, chip_after, chip_returned, returns_finished, is_mend, during, returned, cut_short, after_call, after}
use Rattle.method.specs.Demand3.{AllAllowed}
use Rattle.method.specs.Cases.{three, three_at_rest}
use Rattle.method.specs.Example.{example_events, after_all, ExampleHolds, BoundsMet}
use Rattle.method.proofs.basics.Open.{all-open}
use Rattle.method.proofs.examples.ExampleCuts.{cuts-open, ◌then◌, cut-by-slots}
use Rattle.method.proofs.demand.EveryEvent.{demand-3}

unfoldable pub events-open : Unit {0}
unfolding all-open cuts-open starting sizes_given number_of mend_steps steps_of chip_after chip_returned returns_finished is_mend during returned cut_short after_call after example_events after_all is_erase erases_block
events-open = tt

example-start : Start three three_at_rest
unfolding events-open
example-start = record { store_length = refl; marks-length = refl; at_rest = refl; list-accepted = refl; split-correct = refl }

example-allowed : AllAllowed three example_events (starting three_at_rest)
unfolding events-open AllAllowed
example-allowed =
    record { shares = λ e. refl; mended = λ e. refl; cut-obeys = (lit< {m = 2} {n = 5} tt, cut-by-slots _ _ _ _ refl refl refl) }
    then record { shares = λ e. refl; mended = λ e. tt; cut-obeys = (lit< {m = 0} {n = 1} tt, cut-by-slots _ _ _ _ refl refl refl) }
    then record { shares = λ e. refl; mended = λ e. tt; cut-obeys = tt }
    then record { shares = λ e. refl; mended = λ e. refl; cut-obeys = (lit< {m = 1} {n = 9} tt, cut-by-slots _ _ _ _ refl refl refl) }
    then record { shares = λ e. refl; mended = λ e. tt; cut-obeys = tt }
    then record { shares = λ e. refl; mended = λ e. refl; cut-obeys = tt }
    then tt

pub example-holds : ExampleHolds
unfolding events-open
example-holds = record {
  start = example-start;
  allowed = example-allowed;
  kept = demand-3.kept three three_at_rest example-start example_events example-allowed;
  mends = refl;
  erases = refl;
  finished = refl;
}

pub bounds-met : BoundsMet
unfolding events-open
bounds-met = record { pages = refl; undisturbed = (refl, refl, refl); erases = refl; block-erases = refl; steps = refl; bytes = refl; page-reads = refl; move-reads = refl; budget = refl }
