-- `are_below` meets its contract: the bits that are gathered tell whether each byte so far is below the limit.
use Rattle.flash.proofs.Kit.{◌≡◌, ◌∙◌, arith, lt-ltb, length, take-length, pow_pos}
use Rattle.flash.specs.Lists.{all}
use Rattle.flash.proofs.Loops.{bits-more}
use Rattle.flash.proofs.bytes.are_below.Goals as goal

pub loop-byte-init : goal.loop-byte-init
unfolding all
loop-byte-init c = lt-ltb 0 c.args.limit (omega (arith, c.requires.1, pow_pos c.requires.0))

pub loop-byte-preserved : goal.loop-byte-preserved
loop-byte-preserved c =
    let a = c.args in
    let l = c.loop-byte in
    bits-more c.requires.0 a.limit a.bytes.now l.bits l.byte-index c.requires.1 (omega arith) l.invariant
