-- `digit` values a digit by its bits.
use Rattle.flash.proofs.Kit.{arith}
use Rattle.intel_hex.proofs.WeightLaws.{digit-bits, digit-small}
use Rattle.intel_hex.proofs.codes.digit.Goals as goal

pub returns : goal.returns
returns c = (digit-bits _ c.requires, omega (arith, digit-bits _ c.requires, digit-small _ c.requires))
