-- `make_piece` leaves a piece of what a pass makes of a page, and counts it.
use Rattle.flash.proofs.Kit.{◌≡◌, ◌∙◌, Bool, true, false, cond, List, [], ℕ, length, take, drop}
use Rattle.flash.specs.PageSum.{◌⊕◌}
use Rattle.flash.specs.inner.Terms.{sum_of}
use Rattle.flash.proofs.slots.make_piece.Goals as goal

-- what was taken into the piece counts where it is added to
begun : (add : Bool) (old piece taken sum made : List ℕ) → length old ≡ length piece → taken ≡ cond add old piece
    → made ≡ cond add taken [] ⊕ take (length taken) sum
    → made ≡ cond add old [] ⊕ take (length piece) sum
begun true old piece taken sum made h e f = f ∙ rw (e, h)
begun false old piece taken sum made h e f = f ∙ rw e

pub returns : goal.returns
returns c =
    let a = c.args in
    let sum = drop a.at (sum_of a.store.now a.p a.terms) in (
      begun a.add a.old.now a.piece.now _ sum _ c.requires.len.0 c.begin.ensures c.sum_piece.ensures,
      c.count_few.ensures,
    )
