-- `Place::operation` meets its contract: what the place holds tells the step.
use Rattle.flash.proofs.Kit.{◌≡◌, sym, ap, ◌∙◌, ◌<◌, eqb-true}
use Rattle.flash.proofs.Bools.{both}
use Rattle.method.specs.Place.{mark_of, last_place}
use Rattle.places.specs.declared.place.Op.TheVariants.{Write}
use Rattle.places.specs.inner.Place.{pass_of}
use Rattle.places.proofs.PlaceLaws.{all_done, goes_on, writes, page-full}
use Rattle.places.proofs.place.Place.operation.Goals as goal
use Rattle.places.proofs.place.Place.operation.Goals.{else-backward, then-backward}
use Rattle.places.proofs.place.Place.operation.Lts as lts
use Rattle.places.proofs.place.Place.operation.Reads as reads
use Rattle.places.proofs.place.Place.operation.Tie as tie

pub returns-then-backward-block : goal.returns-then-backward-block
returns-then-backward-block c =
    let w = both _ _ c.if-backward-block.true in
    sym (all_done c.args.sizes c.args.self c.requires.1 w.0 (eqb-true _ _ w.1))

-- a step is left
on : (c : lts.Else1 tie.the-claims reads.Pre reads.Post) → c.args.self.at < last_place c.args.sizes
on c = goes_on c.args.sizes c.args.self c.requires.1 c.if-backward-block.false

-- the letter is that of the pass
mark : (c : lts.After-letter_after tie.the-claims reads.Pre reads.Post)
    → (let a = c.args in c.letter_after.result ≡ mark_of a.sizes (pass_of a.self.backward))
unfolding mark_of
mark c = c.letter_after.ensures ∙ elim c.if-backward.branch [
  | then-backward w ↦ rw (w.pass-is, w.if-backward.true)
  | else-backward w ↦ rw (w.pass-is, w.if-backward.false)
]

pub returns-then-page-sizes : goal.returns-then-page-sizes
returns-then-page-sizes c =
    let self = c.args.self in
    ap (Write self.backward self.block self.page) (mark c)
    ∙ sym (writes c.args.sizes self c.requires.1 (on c.before.before.before.before) c.if-page-sizes.true)

pub freed-requires : goal.freed-requires
freed-requires c =
    (c.requires.1, on c.before.before, page-full c.args.sizes c.args.self c.requires.1 c.if-page-sizes.false)
