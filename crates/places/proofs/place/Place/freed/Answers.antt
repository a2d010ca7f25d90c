-- `Place::freed` tells the block of the erase at its place.
use Rattle.flash.proofs.Kit.{◌∙◌, add-one, arith}
use Rattle.places.proofs.PlaceLaws.{low, high, erases}
use Rattle.places.proofs.place.Place.freed.Goals as goal

pub overflow_sub-result : goal.overflow_sub-result
overflow_sub-result c = (low c.args.sizes c.args.self c.requires.0 c.requires.1 c.if-self.true)

pub overflow_add-result : goal.overflow_add-result
overflow_add-result c = (omega (arith, high c.args.sizes c.args.self c.requires.0 c.if-self.false))

pub returns-then-self : goal.returns-then-self
returns-then-self c =
    erases c.args.sizes c.args.self c.requires.0 c.requires.1 c.requires.2 ∙ rw c.if-self.true

pub returns-else-self : goal.returns-else-self
returns-else-self c =
    erases c.args.sizes c.args.self c.requires.0 c.requires.1 c.requires.2 ∙ rw (c.if-self.false, ← add-one c.args.self.block)
