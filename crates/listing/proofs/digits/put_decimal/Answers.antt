-- `put_decimal` prints a number in decimal and leaves the rest of the area.
use Rattle.listing.specs.Digits.{small, places_up_to, decimal}
use Rattle.listing.proofs.DigitLaws.{length_digits}
use Rattle.flash.proofs.Kit.{arith}
use Rattle.listing.proofs.digits.put_decimal.Goals as goal

pub put_digits-requires : goal.put_digits-requires
unfolding decimal
put_digits-requires c =
    let n = c.args.n in
    omega (arith, length_digits small 10 (places_up_to n n) n)

pub returns : goal.returns
unfolding decimal
returns c =
    let a = c.args in
    rw c.count_places.ensures at c.put_digits.ensures
