-- The table of pages is filled original by original.
use Rattle.flash.proofs.Kit.{◌≡◌, refl, sym, ◌+◌, ◌*◌, arith}
use Rattle.flash.proofs.Parts.{part-fits}
use Rattle.split.specs.Split.{set_of}
use Rattle.method.proofs.basics.Indexes.{slot-div, slot-mod}
use Rattle.walk.specs.inner.Rows.{filled_by}
use Rattle.method.specs.inner.MoveIn.{move_in}
use Rattle.walk.proofs.TableLaws.{filled_more, sets-in}
use Rattle.walk.proofs.rows.pages_table.Goals as goal

pub loop-block-init : goal.loop-block-init
unfolding filled_by
loop-block-init c = let none : 0 * c.args.moved.sizes.m ≡ 0 = omega arith in rw none refl

pub loop-page-preserved : goal.loop-page-preserved
unfolding set_of
loop-page-preserved c =
    let l = c.loop-page in
    let m = c.args.moved.sizes.m in
    let block = c.loop-block.block in
    let next : block * m + (l.page + 1) ≡ block * m + l.page + 1 = omega arith in
    rw next (filled_more _ _ c.args.pages.now l.pages _ _ _ l.invariant (rw (c.from-set.ensures, slot-div m block l.page c.loop-page-test.true))
    (sym (slot-mod m block l.page c.loop-page-test.true)))

pub bounds-pages-set : goal.bounds-pages-set
bounds-pages-set c =
    let M = c.args.moved in
    let inside = part-fits c.loop-block.block M.sizes.n M.sizes.m (omega arith) in
    let set = (sets-in (move_in M) M.accepted).set-lt (c.loop-block.block * M.sizes.m + c.loop-page.page) (omega (arith, inside)) in
    omega (arith, set, c.from-set.ensures, M.accepted.ranges.n-high, M.accepted.ranges.m-high)
