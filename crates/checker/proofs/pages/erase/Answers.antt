-- `erase` fills the part of one block.
use Rattle.flash.proofs.Kit.{arith}
use Rattle.std.proofs.Common.{rules}
use Rattle.flash.proofs.Parts.{filled-back}
use Rattle.checker.specs.Pages.{block_erased}
use Rattle.checker.proofs.pages.erase.Goals as goal

pub returns : goal.returns
unfolding block_erased
returns c =
    let a = c.args in
    filled-back a.m a.block 0 a.pages.now c.fill.new.self (omega arith) (search rules)
