-- `Divisor::new` has the reciprocal.
use Rattle.flash.proofs.quotient.Divisor.new.Goals as goal

pub invariant_of-result : goal.invariant_of-result
invariant_of-result c = record { in_range = c.requires; inverts = c.reciprocal.ensures }
