-- What is summed for a write, by rows that are in the tables or are filled for it.
use Rattle.flash.proofs.Kit.{refl, sym, ap, ap₂, ◌∙◌, subst, ◌||◌, ◌-◌, arith}
use Rattle.method.specs.inner.MoveIn.{move_in}
use Rattle.method.proofs.basics.Indexes.{slot_lt}
use Rattle.flash.proofs.Bounds.{product_le}
use Rattle.walk.specs.inner.Rows.{PagesRow, SourcesRow}
use Rattle.mover.proofs.StepLaws.{written-set, row_is}
use Rattle.std.specs.Prelude.{is_none}
use Rattle.mover.proofs.step.write_terms.Goals as goal
use Rattle.mover.proofs.step.write_terms.Goals.{in-Some, in-None}

pub set_written-set-requires : goal.set_written-set-requires
set_written-set-requires c =
    let Z = c.args.prepared.moved.sizes in
    let B = c.args.prepared.moved.accepted.ranges in
    let R = c.requires.block_in in
    let few = product_le Z.n Z.m {c = 64} {d = 64} B.n-high B.m-high in (
      B.m-high,
      omega (arith, R.2, B.n-high),
      R.1,
      λ back. (let low = R.3 back in (low, omega (arith, slot_lt Z.m (c.args.block - 1) c.args.page Z.n (omega (arith, R.2)) R.1))),
    )

pub set_rows-requires : goal.set_rows-requires
set_rows-requires c =
    let P = c.args.prepared in
    let R = c.requires.block_in in
    let set = c.set_written-set.ensures in
    ((written-set _ P.moved.accepted _ (is_none P.pages) _ _ _ _ c.requires.other_tells R.3 R.2 R.1 set.0 set.1).1, refl, refl)

pub row-requires : goal.row-requires
row-requires c =
    let P = c.args.prepared in
    let R = c.requires.block_in in
    let set = c.set_written-set.ensures in
    let W = written-set _ P.moved.accepted _ (is_none P.pages) _ _ _ _ c.requires.other_tells R.3 R.2 R.1 set.0 set.1 in
    (omega (arith, W.1, P.moved.accepted.ranges.m-high), (P.pages_tell _ c.in-Some.is).room)

pub row-requires-in-Some : goal.row-requires-in-Some
row-requires-in-Some c =
    let P = c.args.prepared in
    let R = c.requires.block_in in
    let set = c.set_written-set.ensures in
    let W = written-set _ P.moved.accepted _ (is_none P.pages) _ _ _ _ c.requires.other_tells R.3 R.2 R.1 set.0 set.1 in
    (omega (arith, W.1, P.moved.accepted.ranges.m-high), omega arith)

pub row_terms-requires-clause-rows : goal.row_terms-requires-clause-rows
row_terms-requires-clause-rows c =
    let P = c.args.prepared in
    let M = move_in P.moved in
    let R = c.requires.block_in in
    let set = c.set_written-set.result in
    let is = c.set_written-set.ensures in
    let W = written-set _ P.moved.accepted _ (is_none P.pages) _ _ _ _ c.requires.other_tells R.3 R.2 R.1 is.0 is.1 in
    elim c.match-prepared.branch [
      | in-Some w ↦ rw w.rows-is (record {
        set_in = W.1;
        written = W.0;
        pages-tell = subst (PagesRow M set) (sym (w.row.ensures ∙ row_is _ _)) ((P.pages_tell _ w.in-Some.is).row set W.1);
        sources-tell = λ forth. subst (SourcesRow M set) (sym (w.row-in-Some.ensures ∙ row_is _ _))
            ((c.requires.other_tells.sources-tell (ap₂ ◌||◌ forth (ap is_none w.in-Some.is))).row set W.1);
      })
      | in-None w ↦ rw w.rows-is (record {
        set_in = W.1;
        written = W.0;
        pages-tell = w.set_rows.ensures.0;
        sources-tell = λ forth. w.set_rows.ensures.1;
      })
    ]
