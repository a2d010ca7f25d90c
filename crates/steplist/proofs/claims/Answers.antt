-- The theorem and the examples hold: what `claims` asks for.
use Rattle.steplist.proofs.Exampled.{examples}
use Rattle.steplist.proofs.OriginalsPassed.{originals-pass}
use Rattle.steplist.proofs.claims.Goals as goal

pub returns : goal.returns
returns c = record { originals_pass = originals-pass; examples = examples }
