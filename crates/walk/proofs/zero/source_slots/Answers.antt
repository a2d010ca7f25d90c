-- The original whose slots are gathered is D(pred(block)).
use Rattle.walk.proofs.SetLaws.{number-is, number_in, number-set}
use Rattle.walk.proofs.zero.source_slots.Goals as goal

pub row_slots-requires : goal.row_slots-requires
row_slots-requires c =
    let rows = c.args.rows in
    let b = c.args.block in
    (number_in rows b _ _ c.requires.0 c.requires.1 c.from-u.ensures c.from.ensures, c.requires.2, number-set rows b _ _ c.requires.0 c.requires.1 c.from-u.ensures c.from.ensures)

pub returns : goal.returns
returns c =
    let e = number-is c.args.rows c.args.block _ _ c.requires.0 c.requires.1 c.from-u.ensures c.from.ensures in
    λ begun T. rw (← e) (c.row_slots.ensures begun T)
