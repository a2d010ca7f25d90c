-- `with_bit` sets one bit.
use Rattle.flash.proofs.Kit.{one-mul, arith, shl_exact}
use Rattle.split.proofs.MaskLaws.{with-power}
use Rattle.split.proofs.mask.with_bit.Goals as goal

pub returns : goal.returns
returns c = rw (shl_exact {a = 1} 1 c.args.bit 64 (omega arith) (omega arith), one-mul)
    (with-power c.args.mask c.args.bit)
