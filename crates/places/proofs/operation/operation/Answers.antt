-- `operation` meets its contract: two refusals, or the step at the place.
use Rattle.flash.proofs.Kit.{◌≡◌, sym, ap, ◌∙◌, ℕ, arith, lt-ltb, le-ltb}
use Rattle.flash.proofs.Bounds.{in-range}
use Rattle.method.specs.Place.{operation_at}
use Rattle.flash.specs.declared.sizes.Sizes.{Sizes}
use Rattle.places.specs.declared.place.Op.{Op}
use Rattle.places.specs.declared.place.Place.{Place}
use Rattle.places.specs.inner.Place.{place_of, op_of}
use Rattle.places.specs.Operation.{operation_answer}
use Rattle.places.proofs.PlaceLaws.{number_is, is-place}
use Rattle.places.proofs.StepTold.{told-step, step-within}
use Rattle.places.proofs.operation.operation.Goals as goal

pub returns-then-not-in_range-clause-answer : goal.returns-then-not-in_range-clause-answer
unfolding operation_answer
returns-then-not-in_range-clause-answer c = rw (sym c.in_range.ensures ∙ c.if-not-in_range.true)

pub last_place-requires : goal.last_place-requires
last_place-requires c =
    let B = in-range c.args.sizes (sym c.in_range.ensures ∙ c.if-not-in_range.false) in
    (B.n-high, B.m-high)

pub returns-then-last_place-place-clause-answer : goal.returns-then-last_place-place-clause-answer
unfolding operation_answer
returns-then-last_place-place-clause-answer c =
    let in_ranges = sym c.in_range.ensures ∙ c.if-not-in_range.false in
    rw (in_ranges, lt-ltb _ _ (rw c.last_place.ensures at c.if-last_place-place.true))

pub new-requires : goal.new-requires
new-requires c =
    (in-range c.args.sizes (sym c.in_range.ensures ∙ c.if-not-in_range.false), omega (arith, c.last_place.ensures, c.if-last_place-place.false))

pub operation-requires : goal.operation-requires
operation-requires c = (in-range c.args.sizes (sym c.in_range.ensures ∙ c.if-not-in_range.false), is-place _ _ _ c.new.ensures)

-- what is told at the place that was made
told-at : (Z : Sizes) (place : ℕ) (here : Place) {told : Op} → here ≡ place_of Z place → told ≡ op_of Z (operation_at Z here.at) → told ≡ op_of Z (operation_at Z place)
told-at Z place here e f = f ∙ ap (λ (p : ℕ). op_of Z (operation_at Z p)) (number_is _ _ _ e)

pub returns-clause-answer : goal.returns-clause-answer
unfolding operation_answer
returns-clause-answer c =
    let Z = c.args.sizes in
    let in_ranges = sym c.in_range.ensures ∙ c.if-not-in_range.false in
    let step = told-at _ _ _ c.new.ensures c.operation.ensures in
    rw (in_ranges, le-ltb _ _ (rw c.last_place.ensures at c.if-last_place-place.false)) (rw step (told-step Z (operation_at Z c.args.place)))

pub returns-clause-step : goal.returns-clause-step
returns-clause-step c = told-at _ _ _ c.new.ensures c.operation.ensures

pub returns-clause-within : goal.returns-clause-within
returns-clause-within c = step-within c.args.sizes c.operation.result _ c.operation.ensures
