-- `reciprocal` meets its contract.
use Rattle.flash.proofs.Kit.{refl, div-le_self, arith}
use Rattle.flash.specs.inner.Reciprocal.{scale, reciprocal_of}
use Rattle.flash.proofs.quotient.reciprocal.Goals as goal

pub overflow_add-result : goal.overflow_add-result
overflow_add-result c = record { fits = omega (arith, div-le_self scale c.args.m) }

pub returns : goal.returns
unfolding reciprocal_of
returns c = refl
