-- `erase_part` fills one part, which comes back to the others.
use Rattle.flash.proofs.Kit.{arith}
use Rattle.flash.specs.Chip.{erased}
use Rattle.flash.proofs.Parts.{filled-back}
use Rattle.flash.proofs.block.erase_part.Goals as goal

pub returns : goal.returns
returns c =
    let a = c.args in
    let part = c.fill in
    filled-back a.size a.block erased a.bytes.now part.new.self (omega arith) (part.ensures.after (λ y e. e))
