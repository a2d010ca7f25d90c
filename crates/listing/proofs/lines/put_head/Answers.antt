-- `put_head` prints the number of a write, its block and its page.
use Rattle.flash.proofs.Kit.{arith, length-append}
use Rattle.listing.proofs.PrintLaws.{printed-then}
use Rattle.listing.proofs.lines.put_head.Goals as goal

pub put_decimal-past_step-requires : goal.put_decimal-past_step-requires
put_decimal-past_step-requires c = omega (arith, simp length-append at c.requires)

pub put_field-past_block-requires : goal.put_field-past_block-requires
put_field-past_block-requires c = simp length-append (omega (arith, simp length-append at c.requires))

pub put_field-requires : goal.put_field-requires
put_field-requires c =
    simp length-append (omega (arith, simp length-append at c.requires, simp length-append at c.put_field-past_block.ensures.next-is))

pub returns : goal.returns
returns c = printed-then (printed-then c.put_decimal-past_step.ensures c.put_field-past_block.ensures) c.put_field.ensures
