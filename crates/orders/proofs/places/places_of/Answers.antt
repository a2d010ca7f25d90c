-- `places_of` tells where the blocks of an order stand, if it is one.
use Rattle.flash.proofs.Kit.{refl, sym, ap, ◌∙◌, ◌||◌, ℕ, ◌<◌, arith, ltb, get_or}
use Rattle.orders.proofs.PlacingLaws.{none-placed, outside, repeated, placed-all}
use Rattle.orders.proofs.places.places_of.Goals as goal

pub loop-i-init : goal.loop-i-init
loop-i-init c = none-placed _ _ _ refl

pub returns-then-block-n : goal.returns-then-block-n
returns-then-block-n c =
    let out = ap (λ (b : ℕ). ltb b 1 || ltb c.args.n b) (sym c.from-block.ensures) ∙ c.if-block-n.true in
    outside _ _ c.requires.1 c.requires.0 _ _ c.loop-i.invariant c.loop-i-test.true out

pub returns-then-places-block-gt0 : goal.returns-then-places-block-gt0
returns-then-places-block-gt0 c =
    let met : 0 < get_or c.loop-i.places (get_or c.args.order.now c.loop-i.i 0) 0 =
    omega (arith, c.if-places-block-gt0.true, ap (λ (b : ℕ). get_or c.loop-i.places b 0) c.from-block.ensures) in
    repeated _ _ c.requires.1 c.requires.0 _ _ c.loop-i.invariant c.loop-i-test.true met

pub returns : goal.returns
returns c = placed-all _ _ c.requires.1 c.requires.0 _ _ c.loop-i.invariant c.loop-i-test.false
