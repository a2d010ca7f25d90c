-- `is_erased` meets its contract: all bits are in common while each byte is 255.
use Rattle.flash.proofs.Kit.{◌≡◌, refl, ◌∙◌, ◌<◌, arith, length, get_or, take-length, and_le_l}
use Rattle.flash.specs.Lists.{all}
use Rattle.flash.proofs.Loops.{erased-more}
use Rattle.flash.proofs.bytes.is_erased.Goals as goal

pub loop-byte-init : goal.loop-byte-init
unfolding all
loop-byte-init c = (omega arith, refl)

pub loop-byte-preserved : goal.loop-byte-preserved
loop-byte-preserved c =
    let l = c.loop-byte in
    let bytes = c.args.bytes.now in
    let inside : l.byte-index < length bytes = omega arith in
    (omega (arith, and_le_l l.common (get_or bytes l.byte-index 0)), erased-more bytes l.common l.byte-index inside l.invariant.0 (omega arith) l.invariant.1)
