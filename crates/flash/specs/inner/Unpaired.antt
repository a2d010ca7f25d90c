-- Counters whose pair is not made yet.
use Rattle.std.specs.Prelude.{List, ℕ}
use Rattle.flash.specs.declared.wear.Wear.{Wear}

abbrev pub unpaired : (counters : List ℕ) → Wear
unpaired counters = record { counters = counters; highest = 0; block = 0 }
