-- The theorems that `claims` promises.
use Rattle.checker.proofs.SoundLaws.{sums-are-choices}
use Rattle.checker.proofs.LinesBack.{lines-as-printed}
use Rattle.checker.proofs.AcceptedLaws.{never-blank, accepts-exactly}
use Rattle.checker.proofs.FirstLaws.{first-decides}
use Rattle.checker.proofs.MethodPassed.{method-passes}
use Rattle.checker.proofs.Exampled.{examples}
use Rattle.checker.proofs.claims.Goals as goal

pub returns : goal.returns
returns c = record {
  lines_as_printed = lines-as-printed;
  never_blank = never-blank;
  sums_are_choices = sums-are-choices;
  accepts_exactly = accepts-exactly;
  first_decides = first-decides;
  method_passes = method-passes;
  examples = examples;
}
