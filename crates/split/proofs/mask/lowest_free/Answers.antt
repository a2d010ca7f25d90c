-- `lowest_free` gives the lowest bit that is 0.
use Rattle.flash.proofs.Kit.{arith}
use Rattle.split.specs.inner.Mask.{lowest_zero}
use Rattle.split.proofs.MaskLaws.{lowest-zero}
use Rattle.split.proofs.mask.lowest_free.Goals as goal

pub returns : goal.returns
unfolding lowest_zero
returns c = lowest-zero 64 c.args.mask (omega arith)
