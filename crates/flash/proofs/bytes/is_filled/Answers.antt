-- `is_filled` meets its contract: the gathered bits are 0 while each byte is the value.
use Rattle.flash.proofs.Kit.{◌≡◌, refl, ◌∙◌, ◌<◌, arith, length, take-length}
use Rattle.flash.specs.Lists.{all}
use Rattle.flash.proofs.Loops.{filled_more}
use Rattle.flash.proofs.bytes.is_filled.Goals as goal

pub returns-then-value-eq-ERASED : goal.returns-then-value-eq-ERASED
returns-then-value-eq-ERASED c = rw c.if-value-eq-ERASED.true c.is_erased.ensures

pub loop-byte-init : goal.loop-byte-init
unfolding all
loop-byte-init c = refl

pub loop-byte-preserved : goal.loop-byte-preserved
loop-byte-preserved c =
    let l = c.loop-byte in
    let inside : l.byte-index < length c.args.bytes.now = omega arith in
    filled_more _ _ l.different _ inside l.invariant
