-- The loop takes the highest block of the way back, which is the top.
use Rattle.flash.proofs.Kit.{◌≡◌, ◌≤◌}
use Rattle.method.proofs.cycles.Orbits.{iterate}
use Rattle.walk.specs.inner.Rows.{entry_of}
use Rattle.walk.proofs.RoundLaws.{Highest}
use Rattle.walk.proofs.walk.top_of.Given as goal

abbrev pub invariant-loop-turn : goal.invariant-loop-turn
invariant-loop-turn l =
    (l.u ≡ iterate (entry_of l.sources) l._turn l.v) × (1 ≤ l.u) × (l.u ≤ l.n) × Highest (entry_of l.sources) l.v l._turn l.top
