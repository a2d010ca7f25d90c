-- `length_of` gives the length of a text from that of its image.
use Rattle.flash.proofs.Kit.{arith}
use Rattle.intel_hex.specs.Writing.{hex_length}
use Rattle.intel_hex.proofs.write.length_of.Goals as goal

pub returns : goal.returns
unfolding hex_length
returns c = omega arith
