-- The table of sources is filled original by original.
use Rattle.flash.proofs.Kit.{◌<◌, ◌≡◌, refl, sym, ap, ℕ, ◌+◌, ◌*◌, arith}
use Rattle.flash.proofs.Parts.{part-fits}
use Rattle.split.specs.Split.{set_of}
use Rattle.split.proofs.SplitLaws.{block-range}
use Rattle.method.proofs.basics.Indexes.{slot-div}
use Rattle.walk.specs.inner.Rows.{filled_by}
use Rattle.method.specs.inner.MoveIn.{move_in}
use Rattle.walk.proofs.TableLaws.{filled_more, sets-in, list-in}
use Rattle.walk.proofs.rows.sources_table.Goals as goal

pub loop-block-init : goal.loop-block-init
unfolding filled_by
loop-block-init c = let none : 0 * c.args.moved.sizes.m ≡ 0 = omega arith in rw none refl

pub loop-page-preserved : goal.loop-page-preserved
unfolding set_of
loop-page-preserved c =
    let l = c.loop-page in
    let m = c.args.moved.sizes.m in
    let block = c.loop-block.block in
    let next : block * m + (l.page + 1) ≡ block * m + l.page + 1 = omega arith in
    rw next (filled_more _ _ c.args.sources.now l.sources _ _ _ l.invariant (rw (c.from-in-loop-page.ensures, c.quotient-target.ensures, c.new-divisor.ensures, c.from.ensures))
    (ap (λ (x : ℕ). x + 1) (sym (slot-div m block l.page c.loop-page-test.true))))

pub bounds-sources-from : goal.bounds-sources-from
bounds-sources-from c =
    let M = c.args.moved in
    let k = c.loop-block.block * M.sizes.m + c.loop-page.page in
    let inside : k < M.sizes.n * M.sizes.m = omega (arith, part-fits c.loop-block.block M.sizes.n M.sizes.m (omega arith)) in
    let set = (sets-in (move_in M) M.accepted).set-lt k inside in
    let goes = (block-range M.sizes.n M.sizes.m _ ((list-in (move_in M) M.accepted).entry_lt k inside)).1 in
    rw (c.quotient-target.ensures, c.new-divisor.ensures, c.from.ensures, c.from-in-loop-page.ensures)
    (omega (arith, set, goes, M.accepted.ranges.n-high, M.accepted.ranges.m-high, c.loop-page.auto.sources, c.requires))
