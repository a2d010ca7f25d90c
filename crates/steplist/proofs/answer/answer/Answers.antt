-- The bytes written for an input are its output, whatever the input.
use Rattle.flash.proofs.Kit.{arith, ◌≡◌, sym, ap, ◌∙◌, length-take-le}
use Rattle.listing.specs.Lines.{unreadable_line}
use Rattle.listing.specs.Input.{input_of, within_limit}
use Rattle.listing.specs.ReaderAnswers.{asked_as}
use Rattle.steplist.specs.Output.{answered}
use Rattle.steplist.proofs.LengthLaws.{refused-short}
use Rattle.listing.proofs.AreaLaws.{over-front, over-room}
use Rattle.listing.proofs.PrintLaws.{first-printed}
use Rattle.steplist.proofs.AskedLaws.{asked, answers}
use Rattle.steplist.proofs.answer.answer.Goals as goal
use Rattle.steplist.proofs.answer.answer.Lts as lts
use Rattle.steplist.proofs.answer.answer.Reads as reads
use Rattle.steplist.proofs.answer.answer.Tie as tie

-- what was read is what the input within its limit asks for
told : (c : lts.After-read tie.the-claims reads.Pre reads.Post tie.handed_clauses)
    → asked_as c.read.new.numbers c.read.result ≡ input_of (within_limit c.args.input.now)
told c =
    let l = c.limit-end in
    let input = c.args.input.now in
    rw (over-front (within_limit input) input l.new.input l.result l.ensures.0 l.ensures.1) at c.read.ensures.result_after

pub slice_bounds-read-end : goal.slice_bounds-read-end
slice_bounds-read-end c =
    let l = c.limit-end in
    let input = c.args.input.now in
    over-room (within_limit input) input l.new.input l.result l.ensures.0 l.ensures.1

pub slice_bounds-read-end-2 : goal.slice_bounds-read-end-2
slice_bounds-read-end-2 c =
    let l = c.limit-end in
    let input = c.args.input.now in
    sym (length-take-le l.result l.new.input (over-room (within_limit input) input l.new.input l.result l.ensures.0 l.ensures.1))

pub put_unreadable-requires : goal.put_unreadable-requires
unfolding unreadable_line
put_unreadable-requires c = omega arith

pub put_refused-requires : goal.put_refused-requires
put_refused-requires c = omega (arith, refused-short)

pub put_move-requires : goal.put_move-requires
put_move-requires c =
    let input = c.args.input.now in
    (asked _ (within_limit input) c.read.new.numbers (ap (asked_as c.read.new.numbers) (sym c.in-Ok.is) ∙ told c.before.before.before), omega arith)

pub returns-in-Err-Unreadable : goal.returns-in-Err-Unreadable
unfolding answered unreadable_line
returns-in-Err-Unreadable c =
    let a = c.args in
    let done = answers a.named a.input.now c.read.new.numbers a.out.now _ _ c.read.result _ (told c.before.before.before) (rw c.in-Err-Unreadable.field-0-is at c.in-Err-Unreadable.is)
    (first-printed c.put_unreadable.ensures) in
    record { written = done.0; counts = done.1; input_after = c.limit-end.ensures.1 }

pub returns-in-Err-Refused : goal.returns-in-Err-Refused
unfolding answered
returns-in-Err-Refused c =
    let a = c.args in
    let done = answers a.named a.input.now c.read.new.numbers a.out.now _ _ c.read.result _ (told c.before.before.before) (rw c.in-Err-Refused.field-0-is at c.in-Err-Refused.is)
    (first-printed c.put_refused.ensures) in
    record { written = done.0; counts = done.1; input_after = c.limit-end.ensures.1 }

pub returns-in-Ok : goal.returns-in-Ok
returns-in-Ok c =
    let a = c.args in
    let done = answers a.named a.input.now c.read.new.numbers a.out.now _ _ c.read.result _ (told c.before.before.before.before) c.in-Ok.is
    c.put_move.ensures in
    record { written = done.0; counts = done.1; input_after = c.limit-end.ensures.1 }
