-- `rows_have_each` tells whether each row has each number below m.
use Rattle.flash.proofs.Kit.{length, ◌+◌, ◌*◌, ◌≤◌, sym, arith}
use Rattle.flash.proofs.Parts.{part-fits, lent-part}
use Rattle.split.proofs.RowsLaws.{no_rows, bits-of-part, row_more}
use Rattle.split.proofs.rows.rows_have_each.Goals as goal
use Rattle.split.proofs.rows.rows_have_each.Lts as lts
use Rattle.split.proofs.rows.rows_have_each.Reads as reads
use Rattle.split.proofs.rows.rows_have_each.Tie as tie

pub loop-i-init : goal.loop-i-init
loop-i-init c = sym (no_rows _ _)

-- the row lies within the bytes
fits : (c : lts.In-loop tie.the-claims reads.Pre reads.Post goal.the-invariant-loop-i goal.the-decreases-loop-i) → (let m = c.args.m in
    c.loop-i.i * m + m ≤ length c.args.bytes.now)
fits c = omega (arith, part-fits c.loop-i.i c.args.n c.args.m c.loop-i-test.true, c.requires.1)

pub loop-i-preserved : goal.loop-i-preserved
loop-i-preserved c =
    let m = c.args.m in
    let i = c.loop-i.i in
    let bytes = c.args.bytes.now in
    let room = fits c.before.before.before.before in
    let met = bits-of-part m i bytes _ room (rw (lent-part m i bytes) at c.bits-met.ensures) in
    row_more m i bytes c.loop-i.each _ _ (omega arith) room c.loop-i.invariant met c.lowest_free.ensures
