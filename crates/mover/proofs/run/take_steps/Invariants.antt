-- A run that passed its tests does the steps that its definition has, each with the tables of its pass, and tells them.
use Rattle.flash.proofs.Kit.{◌≡◌, ◌+◌, length}
use Rattle.flash.specs.Chip.{Chip}
use Rattle.method.specs.inner.MoveIn.{move_in}
use Rattle.method.specs.Step.{running_of, steps, operations_from, tally_of}
use Rattle.method.specs.Worn.{worn_by}
use Rattle.walk.specs.inner.Slots.{slots_length}
use Rattle.places.specs.inner.Place.{place_of}
use Rattle.mover.specs.inner.Prepared.{plan_in}
use Rattle.mover.specs.inner.Steps.{OtherTable}
use Rattle.mover.proofs.run.take_steps.Given as goal

abbrev pub invariant-loop-i : goal.invariant-loop-i
invariant-loop-i l =
    let X = plan_in l.prepared in
    let start = running_of l.initial.store l.initial.marks l.work in
    ◌≡◌ {A = Chip} (record { store = l.store; marks = l.marks }) (steps X l.i l.place start).chip
    × (l.tally ≡ tally_of X l.i l.place start)
    × (l.at ≡ place_of l.sizes (l.place + l.i)) × OtherTable (move_in l.prepared.moved) l.held l.other
    × (length l.slots ≡ slots_length) × (l.wear ≡ worn_by (operations_from l.sizes l.place l.i) l.initial.wear)
