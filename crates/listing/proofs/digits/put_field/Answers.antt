-- `put_field` prints a text and a number behind it: the parts of a line.
use Rattle.flash.proofs.Kit.{arith, length-append}
use Rattle.listing.proofs.PrintLaws.{printed-then}
use Rattle.listing.proofs.digits.put_field.Goals as goal

pub put_text-next-requires : goal.put_text-next-requires
put_text-next-requires c = omega (arith, simp length-append at c.requires)

pub put_decimal-requires : goal.put_decimal-requires
put_decimal-requires c = omega (arith, simp length-append at c.requires)

pub returns : goal.returns
returns c = printed-then c.put_text-next.ensures c.put_decimal.ensures
