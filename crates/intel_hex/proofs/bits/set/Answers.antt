-- `set` sets one bit, and leaves the others.
use Rattle.flash.proofs.Kit.{arith, one-mul, shl_exact, ◌%◌}
use Rattle.intel_hex.proofs.BitLaws.{word_set}
use Rattle.intel_hex.proofs.bits.set.Goals as goal

pub returns : goal.returns
returns c =
    let a = c.args in
    rw (shl_exact {a = 1} 1 (a.b % 64) 64 (omega arith) (omega arith), one-mul) (word_set a.words.now a.b (omega arith) c.requires)
