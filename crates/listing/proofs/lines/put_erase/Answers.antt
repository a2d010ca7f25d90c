-- `put_erase` prints the line of an erase.
use Rattle.flash.proofs.Kit.{arith, length-append}
use Rattle.listing.specs.Lines.{erase_line}
use Rattle.listing.proofs.PrintLaws.{printed-then}
use Rattle.listing.proofs.lines.put_erase.Goals as goal

pub put_decimal-past_step-requires : goal.put_decimal-past_step-requires
unfolding erase_line
put_decimal-past_step-requires c = omega (arith, simp length-append at c.requires)

pub put_field-past_block-requires : goal.put_field-past_block-requires
unfolding erase_line
put_field-past_block-requires c = simp length-append (omega (arith, simp length-append at c.requires))

pub put_text-requires : goal.put_text-requires
unfolding erase_line
put_text-requires c = omega (arith, simp length-append at c.requires, simp length-append at c.put_field-past_block.ensures.next-is)

pub returns : goal.returns
unfolding erase_line
returns c = printed-then (printed-then c.put_decimal-past_step.ensures c.put_field-past_block.ensures) c.put_text.ensures
