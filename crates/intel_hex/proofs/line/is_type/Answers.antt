-- `is_type` knows the three types.
use Rattle.intel_hex.specs.Reading.{is_type}
use Rattle.flash.proofs.Kit.{rules}
use Rattle.intel_hex.proofs.line.is_type.Goals as goal

pub returns : goal.returns
unfolding is_type
returns c = search rules
