-- `put_refused` prints the line of a refusal with its number.
use Rattle.flash.proofs.Kit.{arith, length-append}
use Rattle.listing.specs.Lines.{refused_line}
use Rattle.listing.proofs.PrintLaws.{printed-then}
use Rattle.listing.proofs.lines.put_refused.Goals as goal

pub put_field-past_number-requires : goal.put_field-past_number-requires
unfolding refused_line
put_field-past_number-requires c = omega (arith, simp length-append at c.requires)

pub put_text-requires : goal.put_text-requires
unfolding refused_line
put_text-requires c = omega (arith, simp length-append at c.requires)

pub returns : goal.returns
unfolding refused_line
returns c = printed-then c.put_field-past_number.ensures c.put_text.ensures
