-- Going back gathers the slots of `back_by`.
use Rattle.flash.proofs.Kit.{◌-◌, ◌≤◌}
use Rattle.walk.specs.inner.Slots.{back_by}
use Rattle.walk.proofs.GatherLaws.{Gathered}
use Rattle.walk.proofs.walk.go_back.Given as goal

abbrev pub invariant-loop-count : goal.invariant-loop-count
invariant-loop-count l =
    (1 ≤ l.v) × (l.v ≤ l.n)
    × Gathered l.initial.slots (back_by l.m l.set l.pages l.sources l.plain l.stop l.n l.start) l.slots l.count (back_by l.m l.set l.pages l.sources l.plain l.stop (l.n - l.count) l.v)
