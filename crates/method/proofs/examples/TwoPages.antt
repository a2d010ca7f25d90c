-- The list of events with two pages a block is allowed, and leaves what it says.
use Rattle.flash.proofs.Kit.{◌≡◌, refl, ℕ, ◌≤◌, lit<, arith}
use Rattle.method.specs.Runs.{Start}
use Rattle.method.specs.Events.{starting, steps_finished, moments}
use Rattle.method.specs.Demand3.{AllAllowed}
use Rattle.method.specs.Cases.{two, two_at_rest}
use Rattle.method.specs.TwoPages.{events, noted, histories, numbers, WrittenOut, TwoPagesHold}
use Rattle.method.proofs.examples.Example.{events-open}
use Rattle.method.proofs.examples.ExampleCuts.{◌then◌, cut-by-slots}
use Rattle.method.proofs.demand.EveryEvent.{demand-3}

unfoldable pages-open : Unit {0}
unfolding events-open steps_finished moments events noted histories numbers
pages-open = tt

-- the number of a refusal is not 0
not-0 : ◌≡◌ {A = ℕ} 2 0 → ⊥
not-0 e = omega arith

-- all steps of a call are finished
all_of : (steps : ℕ) → steps ≤ steps
all_of steps = omega arith

module _ (byte : ℕ) where
  torn-start : Start two two_at_rest
  unfolding pages-open
  torn-start = record { store_length = refl; marks-length = refl; at_rest = refl; list-accepted = refl; split-correct = refl }

  torn-allowed : AllAllowed two (events byte) (starting two_at_rest)
  unfolding pages-open AllAllowed
  torn-allowed =
      record { shares = λ e. refl; mended = λ e. refl; cut-obeys = (lit< {m = 2} {n = 5} tt, cut-by-slots _ _ _ _ refl refl refl) }
      then record { shares = λ e. refl; mended = λ e. tt; cut-obeys = tt }
      then record { shares = λ e. refl; mended = λ e. tt; cut-obeys = all_of 0 }
      then record { shares = λ e. absurd (not-0 e); mended = λ e. absurd (not-0 e); cut-obeys = tt }
      then record { shares = λ e. refl; mended = λ e. tt; cut-obeys = (lit< {m = 0} {n = 1} tt, cut-by-slots _ _ _ _ refl refl refl) }
      then record { shares = λ e. refl; mended = λ e. tt; cut-obeys = tt }
      then record { shares = λ e. refl; mended = λ e. refl; cut-obeys = (lit< {m = 1} {n = 9} tt, cut-by-slots _ _ _ _ refl refl refl) }
      then record { shares = λ e. absurd (not-0 e); mended = λ e. tt; cut-obeys = tt }
      then record { shares = λ e. refl; mended = λ e. tt; cut-obeys = tt }
      then record { shares = λ e. refl; mended = λ e. refl; cut-obeys = all_of 2 }
      then record { shares = λ e. refl; mended = λ e. tt; cut-obeys = tt }
      then record { shares = λ e. refl; mended = λ e. refl; cut-obeys = (lit< {m = 0} {n = 1} tt, cut-by-slots _ _ _ _ refl refl refl) }
      then record { shares = λ e. refl; mended = λ e. tt; cut-obeys = tt }
      then record { shares = λ e. refl; mended = λ e. refl; cut-obeys = tt }
      then record { shares = λ e. refl; mended = λ e. tt; cut-obeys = tt }
      then record { shares = λ e. refl; mended = λ e. tt; cut-obeys = (lit< {m = 0} {n = 1} tt, cut-by-slots _ _ _ _ refl refl refl) }
      then record { shares = λ e. refl; mended = λ e. tt; cut-obeys = tt }
      then tt

  written_out : WrittenOut byte
  unfolding pages-open
  written_out = record { answers = refl; after-each = refl; moments-are = refl; first-call = refl; last-run = refl; read-torn = refl }

  pub two-pages-hold : TwoPagesHold byte
  two-pages-hold = record {
    start = torn-start;
    allowed = torn-allowed;
    written_out = written_out;
    kept = demand-3.kept two two_at_rest torn-start (events byte) torn-allowed;
  }
