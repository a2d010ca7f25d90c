-- `sets_by_destination` enters the sets of all originals, and tells whether those of each source block have each set.
use Rattle.flash.proofs.Kit.{length, take, length-take, ◌+◌, ◌*◌, ◌≤◌, ◌≡◌, sym, suc-mul, add-one, arith}
use Rattle.flash.proofs.Parts.{part-fits}
use Rattle.split.proofs.RowsLaws.{clear-front, none-entered, no_rows, row_more}
use Rattle.split.proofs.rows.sets_by_destination.Goals as goal
use Rattle.split.proofs.rows.sets_by_destination.Lts as lts
use Rattle.split.proofs.rows.sets_by_destination.Reads as reads
use Rattle.split.proofs.rows.sets_by_destination.Tie as tie

pub loop-i-init : goal.loop-i-init
loop-i-init c =
    let a = c.args in
    let count = a.n * a.m in
    let part : length (take count a.table.now) ≡ count = simp length-take (omega arith) in (
      none-entered a.list.now a.sets.now _ _ (omega arith)
          (rw c.requires.2 (clear-front c.fill.new.self _ count 255 (rw part at (c.fill.ensures.after (λ y e. e))))),
      sym (no_rows _ _),
    )

-- the row lies within list and sets
fits : (c : lts.In-loop tie.the-claims reads.Pre reads.Post goal.the-invariant-loop-i goal.the-decreases-loop-i tie.handed_clauses) → (let a = c.args in
    c.loop-i.i * a.m + a.m ≤ a.n * a.m)
fits c = let a = c.args in part-fits c.loop-i.i a.n a.m
    c.loop-i-test.true

pub loop-i-preserved : goal.loop-i-preserved
loop-i-preserved c =
    let a = c.args in
    let l = c.loop-i in
    let next : (l.i + 1) * a.m ≡ l.i * a.m + a.m = rw (add-one l.i) (suc-mul l.i a.m) in (
      rw next c.enter_row-met.ensures.0,
      row_more a.m l.i a.sets.now l.each _ _ (omega arith) (omega (arith, fits c.before.before.before.before.before.before)) l.invariant.1 c.enter_row-met.ensures.1
          c.lowest_free.ensures,
    )
