-- Going on gathers the slots of `on_by`.
use Rattle.flash.proofs.Kit.{◌-◌, ◌≤◌}
use Rattle.walk.specs.inner.Slots.{on_by}
use Rattle.walk.proofs.GatherLaws.{Gathered}
use Rattle.walk.proofs.walk.go_on.Given as goal

abbrev pub invariant-loop-count : goal.invariant-loop-count
invariant-loop-count l =
    (1 ≤ l.v) × (l.v ≤ l.n)
    × Gathered l.initial.slots (on_by l.m l.list l.set l.pages l.done l.stop l.n l.start) l.slots l.count (on_by l.m l.list l.set l.pages l.done l.stop (l.n - l.count) l.v)
