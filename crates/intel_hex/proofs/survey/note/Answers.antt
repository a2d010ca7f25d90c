-- `note` notes the span of a record that has bytes.
use Rattle.flash.proofs.Kit.{arith}
use Rattle.intel_hex.proofs.SurveyLaws.{note-none, note-top}
use Rattle.intel_hex.proofs.survey.note.Goals as goal

pub returns-then-count-eq0 : goal.returns-then-count-eq0
returns-then-count-eq0 c =
    let a = c.args in
    note-none a.tops.now a.half a.offset a.count c.if-count-eq0.true

pub returns : goal.returns
returns c =
    let a = c.args in
    let h = c.requires.half_bound (omega (arith, c.if-count-eq0.false)) in
    note-top a.tops.now a.half a.offset a.count _ (omega (arith, c.if-count-eq0.false)) (omega arith) c.next_top.ensures
