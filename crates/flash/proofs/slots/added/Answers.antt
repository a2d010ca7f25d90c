-- `added` adds a byte to another, or leaves it.
use Rattle.flash.proofs.Kit.{sym, xor_zero_l}
use Rattle.flash.proofs.slots.added.Goals as goal

pub returns-then-add : goal.returns-then-add
returns-then-add c = rw c.if-add.true

pub returns-else-add : goal.returns-else-add
returns-else-add c = rw c.if-add.false (sym (xor_zero_l c.args.byte))
