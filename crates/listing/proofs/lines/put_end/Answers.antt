-- `put_end` prints the end line with writes and erases.
use Rattle.flash.proofs.Kit.{arith, length-append}
use Rattle.listing.specs.Lines.{end_line}
use Rattle.listing.proofs.PrintLaws.{printed-then}
use Rattle.listing.proofs.lines.put_end.Goals as goal

pub put_field-past_writes-requires : goal.put_field-past_writes-requires
unfolding end_line
put_field-past_writes-requires c = omega (arith, simp length-append at c.requires)

pub put_field-past_erases-requires : goal.put_field-past_erases-requires
unfolding end_line
put_field-past_erases-requires c = omega (arith, simp length-append at c.requires)

pub put_text-requires : goal.put_text-requires
unfolding end_line
put_text-requires c = omega (arith, simp length-append at c.requires)

pub returns : goal.returns
unfolding end_line
returns c = printed-then (printed-then c.put_field-past_writes.ensures c.put_field-past_erases.ensures) c.put_text.ensures
