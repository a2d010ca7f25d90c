-- The zero sum of the pass that is told.
use Rattle.method.specs.inner.MoveIn.{move_in}
use Rattle.mover.proofs.RebuiltLaws.{forth, back}
use Rattle.mover.proofs.rebuild.zero_slots.Goals as goal

pub returns-then-coded : goal.returns-then-coded
returns-then-coded c =
    let z = c.backward_zero.ensures in
    let rows = c.args.rows in (
      z.0,
      z.1,
      λ marks found k h of C. back (move_in rows.moved) rows.moved.accepted marks found c.args.coded C 0 k h c.if-coded.true _ (λ begun T. rw of at (z.2 begun T)),
    )

pub returns : goal.returns
returns c =
    let z = c.forward_zero.ensures in
    let rows = c.args.rows in (
      z.0,
      z.1,
      λ marks found k h of C. forth (move_in rows.moved) rows.moved.accepted marks found c.args.coded C 0 k h c.if-coded.false _ (λ begun T. rw of at (z.2 begun T)),
    )
