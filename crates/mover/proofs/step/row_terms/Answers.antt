-- What is summed for a write, gathered by the rows of its set in the pass that it is of.
use Rattle.flash.proofs.Kit.{arith}
use Rattle.method.specs.inner.MoveIn.{move_in}
use Rattle.walk.proofs.TableLaws.{list-in}
use Rattle.mover.proofs.StepLaws.{drop-sent}
use Rattle.mover.proofs.step.row_terms.Goals as goal

pub backward_terms-requires : goal.backward_terms-requires
backward_terms-requires c =
    let P = c.args.prepared in
    let A = P.moved.accepted in
    let S = c.requires.rows in
    let R = c.requires.block_in in
    record {
      pages_in = (S.pages-tell.fits, list-in (move_in P.moved) A, R.3 c.if-backward.true, R.2, R.1, P.by_pages, omega arith);
      n_bound = (A.ranges.n-high, A.ranges.m-high, S.set_in, R.0);
    }

pub returns-then-backward : goal.returns-then-backward
returns-then-backward c =
    let P = c.args.prepared in
    let A = P.moved.accepted in
    let M = move_in P.moved in
    let S = c.requires.rows in
    let R = c.requires.block_in in
    let yes = c.if-backward.true in
    let G = c.backward_terms.ensures in
    rw yes record {
      count_le_slots_length = G.count_le_slots_length;
      by_index = λ marks shape. G.by_index P.moved.sets.now P.drops.now marks A
          (S.written.1 yes, drop-sent M A P.drops.now P.places.now P.drops_in c.args.block c.args.page (R.3 yes) R.2 R.1) S.pages-tell shape;
    }

pub forward_terms-requires : goal.forward_terms-requires
forward_terms-requires c =
    let A = c.args.prepared.moved.accepted in
    let S = c.requires.rows in
    let R = c.requires.block_in in
    let no = c.if-backward.false in
    record {
      pages_in = (S.pages-tell.fits, (S.sources-tell no).fits, omega (arith, R.4 no), omega arith);
      n_bound = (A.ranges.n-high, A.ranges.m-high, S.set_in, R.0);
    }

pub returns : goal.returns
returns c =
    let P = c.args.prepared in
    let S = c.requires.rows in
    let no = c.if-backward.false in
    let G = rw (S.written.0 no) at c.forward_terms.ensures in
    rw no record {
      count_le_slots_length = G.count_le_slots_length;
      by_index = λ marks shape. G.by_index P.moved.list.now P.moved.sets.now marks P.moved.accepted (rw (S.written.0 no) at S.pages-tell)
          (rw (S.written.0 no) at (S.sources-tell no)) shape;
    }
