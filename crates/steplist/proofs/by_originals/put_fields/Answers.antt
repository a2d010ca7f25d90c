-- `put_fields` prints each original behind a space.
use Rattle.flash.proofs.Kit.{append-nil, arith, length-append}
use Rattle.flash.specs.Lists.{concat_map}
use Rattle.listing.proofs.PrintLaws.{printed-then}
use Rattle.steplist.proofs.by_originals.put_fields.Goals as goal

pub put_field-requires : goal.put_field-requires
unfolding concat_map
put_field-requires c = omega (arith, simp length-append at (rw c.in-One.is at c.requires))

pub put_field-next-requires : goal.put_field-next-requires
unfolding concat_map
put_field-next-requires c = omega (arith, simp length-append at (rw c.in-Two.is at c.requires))

pub put_field-requires-in-Two : goal.put_field-requires-in-Two
unfolding concat_map
put_field-requires-in-Two c =
    omega (arith, simp length-append at (rw c.in-Two.is at c.requires), simp length-append at c.put_field-next.ensures.next-is)

pub returns-in-One : goal.returns-in-One
unfolding concat_map
returns-in-One c = rw (c.in-One.is, append-nil) c.put_field.ensures

pub returns-in-Two : goal.returns-in-Two
unfolding concat_map
returns-in-Two c = rw (c.in-Two.is, append-nil) (printed-then c.put_field-next.ensures c.put_field-in-Two.ensures)
