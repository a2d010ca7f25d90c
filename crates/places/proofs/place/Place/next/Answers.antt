-- `Place::next` meets its contract: a page on, or a turn on in the same pass or from the forward pass to the backward one.
use Rattle.flash.proofs.Kit.{arith}
use Rattle.places.proofs.PlaceLaws.{low, high, next-page, next-back, next-forth, last-small}
use Rattle.places.proofs.place.Place.next.Goals as goal

pub overflow_add-self : goal.overflow_add-self
overflow_add-self c = record { fits = omega (arith, c.requires.2, last-small c.args.sizes c.requires.0) }

pub returns-then-self-sizes : goal.returns-then-self-sizes
returns-then-self-sizes c =
    next-page c.args.sizes c.args.self c.requires.1 c.requires.2 c.if-self-sizes.true

pub overflow_sub-self : goal.overflow_sub-self
overflow_sub-self c =
    low c.args.sizes c.args.self c.requires.1 c.requires.2 c.if-self.true

pub returns-then-self : goal.returns-then-self
returns-then-self c =
    next-back c.args.sizes c.args.self c.requires.1 c.requires.2 c.if-self-sizes.false c.if-self.true

pub overflow_add-self-2 : goal.overflow_add-self-2
overflow_add-self-2 c =
    record { fits = omega (arith, high c.args.sizes c.args.self c.requires.1 c.if-self.false) }

pub returns : goal.returns
returns c =
    next-forth c.args.sizes c.args.self c.requires.1 c.requires.2
    c.if-self-sizes.false c.if-self.false
