-- `survey` judges each record, and notes which spans' records rise.
use Rattle.flash.proofs.Kit.{refl}
use Rattle.intel_hex.proofs.SurveyLaws.{surveying-start, surveying-stop, surveying-on}
use Rattle.intel_hex.proofs.survey.survey.Goals as goal

pub loop-verdict-init : goal.loop-verdict-init
loop-verdict-init c = surveying-start _ _ _

pub returns-in-Some : goal.returns-in-Some
returns-in-Some c = surveying-stop c.loop-verdict.invariant _ refl refl c.in-Some.ensures

pub loop-verdict-preserved : goal.loop-verdict-preserved
loop-verdict-preserved c =
    let l = c.loop-verdict in
    let K = rw (c.half_at-half.ensures, c.offset_at.ensures, c.count_at.ensures) at c.note.ensures in
    rw (c.next_at-at.ensures, c.half_at-half.ensures) (surveying-on l.invariant c.in_default.ensures K c.requires)
