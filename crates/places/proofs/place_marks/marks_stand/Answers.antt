-- `marks_stand` meets its contract: four stretches of equal marks.
use Rattle.flash.proofs.Kit.{◌≡◌, ◌∙◌, true, false, arith}
use Rattle.flash.specs.Geometry.{letter}
use Rattle.method.specs.Place.{pass_at, written, above, held_mark}
use Rattle.places.proofs.MarkLaws.{in-slots, letter-written, letter-kept, marks-are}
use Rattle.places.proofs.place_marks.marks_stand.Goals as goal
use Rattle.places.proofs.place_marks.marks_stand.Goals.{else-place, else-place-2, then-place, then-place-2}

pub overflow_mul-first : goal.overflow_mul-first
overflow_mul-first c = omega (arith, in-slots _ _ c.requires.1 c.requires.0 c.requires.2)

pub overflow_add-blank : goal.overflow_add-blank
overflow_add-blank c = omega (arith, in-slots _ _ c.requires.1 c.requires.0 c.requires.2)

pub overflow_add-above : goal.overflow_add-above
overflow_add-above c = omega (arith, in-slots _ _ c.requires.1 c.requires.0 c.requires.2)

pub stretch_is-requires : goal.stretch_is-requires
stretch_is-requires c =
    let f = in-slots _ _ c.requires.1 c.requires.0 c.requires.2 in
    (omega arith, omega arith)

pub stretch_is-requires-2 : goal.stretch_is-requires-2
stretch_is-requires-2 c =
    let f = in-slots _ _ c.requires.1 c.requires.0 c.requires.2 in
    (omega arith, omega arith)

pub stretch_is-requires-3 : goal.stretch_is-requires-3
stretch_is-requires-3 c =
    let f = in-slots _ _ c.requires.1 c.requires.0 c.requires.2 in
    (omega arith, omega arith)

pub stretch_is-requires-4 : goal.stretch_is-requires-4
stretch_is-requires-4 c =
    let f = in-slots _ _ c.requires.1 c.requires.0 c.requires.2 in
    (omega arith, omega arith)

pub returns : goal.returns
returns c =
    let Z = c.args.sizes in
    let pass = pass_at Z c.args.place.at in
    let wrote : letter Z c.if-place.written ≡ held_mark Z (written pass) = elim c.if-place.branch [
      | then-place w ↦ rw w.written-is (letter-written Z c.args.place c.requires.1 c.requires.0 c.requires.2 true w.if-place.true)
      | else-place w ↦ rw w.written-is (letter-written Z c.args.place c.requires.1 c.requires.0 c.requires.2 false w.if-place.false)
    ] in
    let kept : letter Z c.if-place-2.kept ≡ held_mark Z (above pass) = elim c.if-place-2.branch [
      | then-place-2 w ↦ rw w.kept-is (letter-kept Z c.args.place c.requires.1 c.requires.0 c.requires.2 true w.if-place-2.true)
      | else-place-2 w ↦ rw w.kept-is (letter-kept Z c.args.place c.requires.1 c.requires.0 c.requires.2 false w.if-place-2.false)
    ] in
    rw (c.stretch_is.ensures, c.stretch_is-2.ensures, c.stretch_is-3.ensures, c.stretch_is-4.ensures)
    (marks-are Z c.args.place c.requires.1 c.requires.0 c.requires.2 c.args.marks.now c.requires.3 _ _ _
    c.letter_after.ensures (c.letter_after-2.ensures ∙ wrote) (c.letter_after-3.ensures ∙ kept))
