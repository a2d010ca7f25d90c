-- `flip` changes one bit of one mask of a table, and tells what it was.
use Rattle.flash.proofs.Kit.{arith, one-mul, shl_exact}
use Rattle.split.proofs.MaskLaws.{flipped-at}
use Rattle.split.proofs.mask.flip.Goals as goal

pub returns : goal.returns
returns c =
    let a = c.args in
    record { was = c.has.ensures; flips = rw (shl_exact {a = 1} 1 a.bit 64 (omega arith) (omega arith), one-mul) (flipped-at a.masks.now a.at a.bit (omega arith)) }
