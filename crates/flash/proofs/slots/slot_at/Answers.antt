-- `slot_at` gives a slot, or the first where there are fewer: for passes that are not full.
use Rattle.flash.proofs.Kit.{sym, List·getD-eq-default}
use Rattle.flash.proofs.Blocks.{get_d_any}
use Rattle.flash.proofs.slots.slot_at.Goals as goal

pub returns-then-at-slots : goal.returns-then-at-slots
returns-then-at-slots c = get_d_any c.args.slots.now _ 0 _ c.if-at-slots.true

pub returns-else-at-slots : goal.returns-else-at-slots
returns-else-at-slots c = sym (List·getD-eq-default c.args.slots.now _ c.if-at-slots.false)
