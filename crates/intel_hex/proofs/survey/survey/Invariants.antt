-- `survey` judges each record, and notes which spans' records rise.
use Rattle.flash.proofs.Kit.{◌-◌, length}
use Rattle.intel_hex.proofs.SurveyLaws.{Surveying}
use Rattle.intel_hex.proofs.survey.survey.Given as goal

abbrev pub invariant-loop-verdict : goal.invariant-loop-verdict
invariant-loop-verdict l = Surveying l.text.codes.now l.size l.at l.upper l.tops

abbrev pub decreases-loop-verdict : goal.decreases-loop-verdict
decreases-loop-verdict l = length l.text.codes.now - l.at
