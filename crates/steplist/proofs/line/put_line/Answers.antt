-- `put_line` meets its contract: the line of each kind of step.
use Rattle.flash.proofs.Kit.{◌≡◌, ap, ◌∙◌, ℕ, arith}
use Rattle.method.specs.Place.{operation_at}
use Rattle.listing.proofs.PrintLaws.{nothing-printed}
use Rattle.places.specs.declared.place.Op.{Op}
use Rattle.places.specs.inner.Place.{op_of}
use Rattle.places.proofs.PlaceLaws.{number_is, is-place}
use Rattle.steplist.specs.Output.{step_line}
use Rattle.steplist.proofs.LineLaws.{op_line, line-told}
use Rattle.steplist.proofs.line.put_line.Goals as goal
use Rattle.steplist.proofs.line.put_line.Lts as lts
use Rattle.steplist.proofs.line.put_line.Reads as reads
use Rattle.steplist.proofs.line.put_line.Tie as tie

pub new-here-requires : goal.new-here-requires
new-here-requires c = c.requires.bounds

pub operation-requires : goal.operation-requires
operation-requires c = (c.requires.bounds.0, is-place _ _ _ c.new-here.ensures)

-- the line goes by what `operation` told
line : (c : lts.After-operation tie.the-claims reads.Pre reads.Post tie.handed_clauses) (told : Op) → c.operation.result ≡ told
    → (let a = c.args in step_line a.place (operation_at a.sizes a.place) a.work.now ≡ op_line a.place a.work.now told)
line c told e =
    let a = c.args in
    let here = ap (λ (p : ℕ). op_of a.sizes (operation_at a.sizes p)) (number_is _ _ _ c.new-here.ensures) in
    line-told a.sizes (operation_at a.sizes a.place) a.place a.work.now c.operation.result told (c.operation.ensures ∙ here) e

pub put_write-requires : goal.put_write-requires
put_write-requires c = rw (line c.before.before.before _ c.in-Write.is) at c.requires.work_in_bounds

pub put_erase-requires : goal.put_erase-requires
put_erase-requires c = rw (line c.before.before.before _ c.in-Erase.is) at c.requires.work_in_bounds

pub returns-in-Write : goal.returns-in-Write
returns-in-Write c = rw (line c.before.before.before.before.before.before _ c.in-Write.is) c.put_write.ensures

pub returns-in-Erase : goal.returns-in-Erase
returns-in-Erase c = rw (line c.before.before.before.before.before.before _ c.in-Erase.is) c.put_erase.ensures

pub returns-in-Done : goal.returns-in-Done
returns-in-Done c =
    rw (line c.before.before _ c.in-Done.is) (nothing-printed c.args.out.now c.args.at (omega (arith, c.requires.work_in_bounds)))
