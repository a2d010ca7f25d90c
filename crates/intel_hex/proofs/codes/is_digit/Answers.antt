-- `is_digit` knows a digit by three ranges.
use Rattle.intel_hex.proofs.WeightLaws.{digit-ranges}
use Rattle.intel_hex.proofs.codes.is_digit.Goals as goal

pub returns : goal.returns
returns c = digit-ranges _ _ _ _ c.within.ensures c.within-2.ensures c.within-3.ensures
