-- `terms_of` gives the slots of a pass.
use Rattle.flash.proofs.slots.terms_of.Goals as goal

pub returns : goal.returns
returns c = rw (c.slot_at.ensures, c.slot_at-2.ensures, c.slot_at-3.ensures, c.slot_at-4.ensures)
