-- `put_originals` prints the line of a write with the page's originals.
use Rattle.flash.proofs.Kit.{◌∷◌, ◌+◌, ◌≤◌, arith, length, length-append}
use Rattle.flash.specs.Lists.{concat_map}
use Rattle.listing.specs.Digits.{decimal}
use Rattle.listing.specs.Lines.{originals_line}
use Rattle.listing.proofs.PrintLaws.{printed-then}
use Rattle.steplist.specs.inner.Originals.{originals_as}
use Rattle.steplist.proofs.by_originals.put_originals.Goals as goal
use Rattle.steplist.proofs.by_originals.put_originals.Lts as lts
use Rattle.steplist.proofs.by_originals.put_originals.Reads as reads
use Rattle.steplist.proofs.by_originals.put_originals.Tie as tie

pub put_head-past_page-requires : goal.put_head-past_page-requires
unfolding originals_line
put_head-past_page-requires c = simp length-append (omega (arith, simp length-append at c.requires))

-- the originals and the end of the line fit behind the page's number
room : (c : lts.After-put_head tie.the-claims reads.Pre reads.Post)
    → (let a = c.args in c.put_head-past_page.result + length (concat_map (λ k. 32 ∷ decimal k) (originals_as a.originals)) + 1 ≤ length a.out.now)
unfolding originals_line
room c = omega (arith, simp length-append at c.requires, simp length-append at c.put_head-past_page.ensures.next-is)

pub put_fields-past_originals-requires : goal.put_fields-past_originals-requires
put_fields-past_originals-requires c = omega (arith, room c.before.before.before)

pub put_text-requires : goal.put_text-requires
put_text-requires c =
    omega (arith, room c.before.before.before.before.before.before.before.before.before, c.put_fields-past_originals.ensures.next-is)

pub returns : goal.returns
unfolding originals_line
returns c = printed-then (printed-then c.put_head-past_page.ensures c.put_fields-past_originals.ensures) c.put_text.ensures
