-- `in_order` puts the lower of two originals first.
use Rattle.flash.proofs.Kit.{lt-ltb, le-ltb}
use Rattle.checker.specs.Method.{inserted, ascending}
use Rattle.steplist.proofs.originals.in_order.Goals as goal

pub returns-then-one-other : goal.returns-then-one-other
unfolding ascending inserted
returns-then-one-other c = record { result_value = rw (lt-ltb c.args.one c.args.other c.if-one-other.true); by_index = λ count h k. (h, k) }

pub returns-else-one-other : goal.returns-else-one-other
unfolding ascending inserted
returns-else-one-other c = record { result_value = rw (le-ltb c.args.one c.args.other c.if-one-other.false); by_index = λ count h k. (k, h) }
