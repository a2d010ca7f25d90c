-- With the work page, number 2 of run and read is due just where a part is of another length.
use Rattle.method.specs.Answers.{bad_parts}
use Rattle.mover.proofs.refusals.bad_parts.Goals as goal

pub returns : goal.returns
unfolding bad_parts
returns c = rw c.bad_lent.ensures
