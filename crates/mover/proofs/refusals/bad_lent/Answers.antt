-- A lent part is found to be of another length just where one is.
use Rattle.split.specs.Request.{bad_request}
use Rattle.method.specs.Answers.{bad_chip}
use Rattle.mover.proofs.refusals.bad_lent.Goals as goal

pub returns : goal.returns
unfolding bad_request bad_chip
returns c = rw (c.original_count-originals.ensures, c.slot_count-slots.ensures, c.store_length-bytes.ensures)
