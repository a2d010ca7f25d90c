-- `put_write` prints the line of a write with the page's bytes.
use Rattle.flash.proofs.Kit.{arith, length-append}
use Rattle.listing.specs.Lines.{write_line}
use Rattle.listing.proofs.PrintLaws.{printed-then}
use Rattle.listing.proofs.lines.put_write.Goals as goal

pub put_head-past_page-requires : goal.put_head-past_page-requires
unfolding write_line
put_head-past_page-requires c = simp length-append (omega (arith, simp length-append at c.requires))

-- the bytes and the end of the line fit behind the page's number
pub put_text-past_space-requires : goal.put_text-past_space-requires
unfolding write_line
put_text-past_space-requires c = omega (arith, simp length-append at c.requires, simp length-append at c.put_head-past_page.ensures.next-is)

pub put_hex-past_bytes-requires : goal.put_hex-past_bytes-requires
unfolding write_line
put_hex-past_bytes-requires c = omega (arith, simp length-append at c.requires, simp length-append at c.put_head-past_page.ensures.next-is)

pub put_text-requires : goal.put_text-requires
unfolding write_line
put_text-requires c = omega (arith, simp length-append at c.requires, simp length-append at c.put_head-past_page.ensures.next-is)

pub returns : goal.returns
unfolding write_line
returns c =
    let bytes = printed-then c.put_text-past_space.ensures c.put_hex-past_bytes.ensures in
    printed-then (printed-then c.put_head-past_page.ensures bytes) c.put_text.ensures
