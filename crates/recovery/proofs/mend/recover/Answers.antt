-- `recover` meets its contract: each of its five ways out is a case of the definition.
use Rattle.flash.proofs.Kit.{◌≡◌, sym, ap, ◌∙◌, Bool, true, cond, ◌||◌, not, List, ℕ, ◌-◌, arith, eqb, length}
use Rattle.flash.specs.declared.sizes.Sizes.{Sizes}
use Rattle.flash.specs.Geometry.{Bounds, in_range, slot_count, store_len}
use Rattle.flash.specs.Chip.{Chip}
use Rattle.flash.proofs.Bounds.{in-range, block-in-store, block-in-marks}
use Rattle.method.specs.Answers.{bad_chip}
use Rattle.recovery.specs.MarksRead.{answer_of, reading_of}
use Rattle.recovery.proofs.Answer.{chip-lengths, refused-1, refused-2, refused-6, mended-full, mended-torn}
use Rattle.recovery.proofs.Tells.{what-is-told}
use Rattle.recovery.proofs.mend.recover.Goals as goal
use Rattle.recovery.proofs.mend.recover.Goals.{else-backward, then-backward}

abbrev chip : (store marks : List ℕ) → Chip
chip store marks = record { store = store; marks = marks }

-- the sizes are in range
ranged : (Z : Sizes) {t : Bool} → t ≡ in_range Z → t ≡ true → in_range Z ≡ true
ranged Z e t = sym e ∙ t

ranges : (Z : Sizes) {t : Bool} → t ≡ in_range Z → t ≡ true → Bounds Z
ranges Z e t = in-range Z (ranged Z e t)

-- the test of the lengths is the table's
lengths : (Z : Sizes) (store marks : List ℕ) {bytes slots : ℕ} {t : Bool} → bytes ≡ store_len Z → slots ≡ slot_count Z
    → (not (eqb (length store) bytes) || not (eqb (length marks) slots)) ≡ t → bad_chip Z (chip store marks) ≡ t
unfolding bad_chip
lengths Z store marks b s e = rw (b, s) at e

pub returns-then-not-in_range : goal.returns-then-not-in_range
returns-then-not-in_range c = sym (refused-1 _ _ _ (sym c.in_range.ensures ∙ c.if-not-in_range.true))

pub store_length-requires : goal.store_length-requires
store_length-requires c = let B = ranges c.args.sizes c.in_range.ensures c.if-not-in_range.false in (B.n-high, B.m-high, B.p-high)

pub slot_count-requires : goal.slot_count-requires
slot_count-requires c = let B = ranges c.args.sizes c.in_range.ensures c.if-not-in_range.false in (B.n-high, B.m-high)

pub returns-then-store-store_length : goal.returns-then-store-store_length
returns-then-store-store_length c =
    sym (refused-2 _ _ _ (ranged c.args.sizes c.in_range.ensures c.if-not-in_range.false)
    (lengths _ _ _ c.store_length.ensures c.slot_count.ensures c.if-store-store_length.true))

pub read_marks-requires : goal.read_marks-requires
read_marks-requires c =
    let a = c.args in
    let B = ranges c.args.sizes c.in_range.ensures c.if-not-in_range.false in
    let good = lengths a.sizes a.store.now a.marks.now c.store_length.ensures c.slot_count.ensures c.if-store-store_length.false in
    record { n_bound = (B.n-high, B.m-low, B.m-high, B.s-high); marks_len = (chip-lengths _ _ good).1 }

pub overflow_sub-filled : goal.overflow_sub-filled
overflow_sub-filled c = (rw c.in-Full.is at c.read_marks.ensures.shown).0

pub place_in_turn-place-requires : goal.place_in_turn-place-requires
place_in_turn-place-requires c =
    let B = ranges c.args.sizes c.in_range.ensures c.if-not-in_range.false in
    let S = rw c.in-Full.is at c.read_marks.ensures.shown in
    let inside = S.1.inside in (
      B.n-high,
      B.m-high,
      elim c.if-backward.branch [ then-backward w ↦ omega arith | else-backward w ↦ omega arith ],
      omega arith,
    )

pub erase_block-requires : goal.erase_block-requires
erase_block-requires c =
    let a = c.args in
    let good = lengths a.sizes a.store.now a.marks.now c.store_length.ensures c.slot_count.ensures c.if-store-store_length.false in
    let L = chip-lengths a.sizes (chip a.store.now a.marks.now) good in
    let block = c.in-Torn.block in
    let inside = (rw c.in-Torn.is at c.read_marks.ensures.shown).inside in
    record {
      p_in_bounds = omega (arith, L.0, block-in-store a.sizes block inside);
      m_in_bounds = omega (arith, L.1, block-in-marks a.sizes block inside);
    }

pub place_in_turn-place-requires-in-Torn : goal.place_in_turn-place-requires-in-Torn
place_in_turn-place-requires-in-Torn c =
    let B = ranges c.args.sizes c.in_range.ensures c.if-not-in_range.false in
    (B.n-high, B.m-high, (rw c.in-Torn.is at c.read_marks.ensures.shown).inside, omega arith)

pub rise-requires : goal.rise-requires
rise-requires c =
    let B = ranges c.args.sizes c.in_range.ensures c.if-not-in_range.false in
    omega (arith, (rw c.in-Torn.is at c.read_marks.ensures.shown).inside, B.n-high)

pub returns-in-NoMoment : goal.returns-in-NoMoment
unfolding answer_of
returns-in-NoMoment c =
    sym (refused-6 _ _ _ (ranged c.args.sizes c.in_range.ensures c.if-not-in_range.false)
    (lengths _ _ _ c.store_length.ensures c.slot_count.ensures c.if-store-store_length.false)
    (sym (what-is-told _ _ _ c.read_marks.ensures.result_value) ∙ ap (reading_of _) c.in-NoMoment.is))

pub returns-after-backward : goal.returns-after-backward
unfolding answer_of
returns-after-backward c =
    let change = c.in-Full.change in
    let filled : c.if-backward.filled ≡ cond c.in-Full.backward change (change - 1) =
    elim c.if-backward.branch [
      | then-backward w ↦ rw (w.filled-is, w.if-backward.true)
      | else-backward w ↦ rw (w.filled-is, w.if-backward.false)
    ] in
    rw (c.place_in_turn-place.ensures, filled)
    (sym (mended-full _ _ _ (ranged c.args.sizes c.in_range.ensures c.if-not-in_range.false)
    (lengths _ _ _ c.store_length.ensures c.slot_count.ensures c.if-store-store_length.false) _
    (sym (what-is-told _ _ _ c.read_marks.ensures.result_value) ∙ ap (reading_of _) c.in-Full.is)))

pub returns-in-Torn : goal.returns-in-Torn
unfolding answer_of
returns-in-Torn c =
    rw (c.erase_block.ensures, c.place_in_turn-place-in-Torn.ensures, c.rise.ensures)
    (sym (mended-torn _ _ _ (ranged c.args.sizes c.in_range.ensures c.if-not-in_range.false)
    (lengths _ _ _ c.store_length.ensures c.slot_count.ensures c.if-store-store_length.false) _ _
    (sym (what-is-told _ _ _ c.read_marks.ensures.result_value) ∙ ap (reading_of _) c.in-Torn.is)))
