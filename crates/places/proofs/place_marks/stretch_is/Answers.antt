-- `stretch_is` meets its contract: the bytes lent are those of the stretch.
use Rattle.flash.proofs.Kit.{◌∙◌, ◌-◌, arith}
use Rattle.places.proofs.MarkLaws.{stretch-at}
use Rattle.places.proofs.place_marks.stretch_is.Goals as goal

pub returns : goal.returns
returns c =
    let a = c.args in
    c.is_filled.ensures ∙ stretch-at a.bytes.now a.start (a.end - a.start) a.value (omega arith)
