-- `is_elsewhere` meets its contract: the three grounds of number 5.
use Rattle.flash.proofs.Kit.{◌≡◌, sym, ap, ◌∙◌, ◌≤◌, arith}
use Rattle.flash.specs.declared.sizes.Sizes.{Sizes}
use Rattle.flash.specs.Chip.{Chip}
use Rattle.method.specs.Place.{last_place}
use Rattle.method.specs.Answers.{is_elsewhere}
use Rattle.places.specs.inner.Place.{place_of}
use Rattle.places.proofs.PlaceLaws.{number_is, is-place}
use Rattle.places.proofs.MarkLaws.{InSlots, in-slots, too_far, other-marks, torn-is}
use Rattle.places.proofs.place_marks.is_elsewhere.Goals as goal
use Rattle.places.proofs.place_marks.is_elsewhere.Lts as lts
use Rattle.places.proofs.place_marks.is_elsewhere.Reads as reads
use Rattle.places.proofs.place_marks.is_elsewhere.Tie as tie

pub returns-then-last_place-place : goal.returns-then-last_place-place
returns-then-last_place-place c = too_far _ _ _ (rw (← c.last_place.ensures) c.if-last_place-place.true)

-- the place that the code holds is the one asked for, and lies in the move
module _ (c : lts.After-new tie.the-claims reads.Pre reads.Post) where
  abbrev Z : Sizes
  Z = c.args.sizes

  at-is : c.new-here.result.at ≡ c.args.place
  at-is = number_is _ _ _ c.new-here.ensures

  place_is : c.new-here.result ≡ place_of Z c.new-here.result.at
  place_is = is-place _ _ _ c.new-here.ensures

  in-move : c.new-here.result.at ≤ last_place Z
  in-move = let e = at-is in let f = c.last_place.ensures in omega (arith, c.if-last_place-place.false)

  slots : InSlots Z c.new-here.result
  slots = in-slots _ _ place_is c.requires.0 in-move

pub marks_stand-requires : goal.marks_stand-requires
marks_stand-requires c = (c.requires.0, place_is c.before, in-move c.before, c.requires.1)

pub returns-then-not-marks_stand : goal.returns-then-not-marks_stand
returns-then-not-marks_stand c =
    let chip : Chip = record { store = c.args.store.now; marks = c.args.marks.now } in
    let new = c.before.before.before in
    other-marks (Z new) chip _ (in-move new) (sym c.marks_stand.ensures ∙ c.if-not-marks_stand.true) ∙ ap (is_elsewhere (Z new) chip) (at-is new)

pub overflow_mul-first : goal.overflow_mul-first
overflow_mul-first c = let f = slots c.before.before.before in omega arith

pub overflow_add-first : goal.overflow_add-first
overflow_add-first c = let f = slots c.before.before.before in omega arith

pub overflow_mul-first-2 : goal.overflow_mul-first-2
overflow_mul-first-2 c = let f = slots c.before.before.before in omega arith

pub overflow_add-first-2 : goal.overflow_add-first-2
overflow_add-first-2 c = let f = slots c.before.before.before in omega arith

pub overflow_mul-first-3 : goal.overflow_mul-first-3
overflow_mul-first-3 c = let f = slots c.before.before.before in omega arith

pub stretch_is-requires : goal.stretch_is-requires
stretch_is-requires c = let f = slots c.before.before.before in (f.bytes-rise, omega arith)

pub returns : goal.returns
returns c =
    let a = c.args in
    let new = c.before.before.before.before in
    rw c.stretch_is.ensures
    (torn-is (Z new) c.new-here.result (place_is new) c.requires.0 (in-move new) a.store.now a.marks.now c.requires.1 c.requires.2
    (sym c.marks_stand.ensures ∙ c.if-not-marks_stand.false))
    ∙ ap (is_elsewhere (Z new) (record { store = a.store.now; marks = a.marks.now })) (at-is new)
