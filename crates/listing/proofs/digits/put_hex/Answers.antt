-- `put_hex` prints a byte as two hexadecimal digits.
use Rattle.flash.proofs.Kit.{length-take-le, length, take, refl, ◌<◌, arith}
use Rattle.listing.proofs.PrintLaws.{nothing-printed, printed-then, hex-more, length-hex}
use Rattle.flash.specs.Lists.{concat_map}
use Rattle.listing.specs.Digits.{small, hex}
use Rattle.listing.proofs.digits.put_hex.Goals as goal

pub loop-byte-init : goal.loop-byte-init
unfolding concat_map
loop-byte-init c = (nothing-printed c.args.out.now c.args.at (omega (arith, c.requires)), refl)

pub put_digits-next-requires-clause-count_in_bounds : goal.put_digits-next-requires-clause-count_in_bounds
put_digits-next-requires-clause-count_in_bounds c =
    let l = c.loop-byte in
    let a = c.args in
    let done = length-hex small (take l.byte-index a.bytes.now) in
    let i = length-take-le l.byte-index a.bytes.now (omega arith) in
    omega (arith, length-hex small a.bytes.now)

pub loop-byte-preserved : goal.loop-byte-preserved
unfolding hex
loop-byte-preserved c =
    let l = c.loop-byte in
    let a = c.args in
    let inside : l.byte-index < length a.bytes.now = omega arith in
    let digits = rw c.from.ensures at c.put_digits-next.ensures in
    (rw (hex-more small a.bytes.now l.byte-index inside) (printed-then l.invariant.0 digits), omega arith)
