-- The plan that the steps of a run carry out.
use Rattle.method.specs.Move.{Plan}
use Rattle.walk.specs.inner.Terms.{plan_by}
use Rattle.mover.specs.declared.prepared.Prepared.{Prepared}

abbrev pub plan_in : Prepared → Plan
plan_in prepared = plan_by prepared.moved.sizes prepared.moved.list.now prepared.moved.sets.now prepared.drops.now
