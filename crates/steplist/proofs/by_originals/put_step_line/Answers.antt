-- The line of each kind of step by originals.
use Rattle.flash.proofs.Kit.{◌≡◌, sym, ap, ◌∙◌, ℕ, ◌*◌, ◌≤◌, ◌<◌, arith, length}
use Rattle.flash.specs.declared.sizes.Sizes.{Sizes}
use Rattle.method.specs.inner.MoveIn.{move_in}
use Rattle.method.specs.Place.{operation_at, last_place}
use Rattle.listing.specs.Lines.{originals_line, erase_line}
use Rattle.listing.proofs.InputLaws.{few-originals}
use Rattle.listing.proofs.PrintLaws.{nothing-printed}
use Rattle.places.specs.declared.place.Op.{Op}
use Rattle.places.specs.declared.place.Place.{Place}
use Rattle.places.specs.inner.Place.{place_of, op_of}
use Rattle.places.proofs.PlaceLaws.{number_is, is-place}
use Rattle.places.proofs.StepTold.{is-write, is-erase, told-done}
use Rattle.checker.specs.Method.{step_text}
use Rattle.steplist.specs.declared.originals.Originals.{Originals}
use Rattle.steplist.specs.inner.Originals.{originals_as, Within}
use Rattle.steplist.proofs.LengthLaws.{few-steps, erase-short, originals-short}
use Rattle.steplist.proofs.by_originals.put_step_line.Goals as goal

pub operation-requires : goal.operation-requires
operation-requires c = (c.args.moved.accepted.ranges, is-place _ _ _ c.new-here.ensures)

-- few steps, and what `operation` told of this one
few : (Z : Sizes) (place : ℕ) → Z.n ≤ 8 → Z.m ≤ 8 → place < last_place Z → place < 144
few Z place n m h = omega (arith, few-steps Z n m)

told : (Z : Sizes) (place : ℕ) (here : Place) (answer : Op) → here ≡ place_of Z place → answer ≡ op_of Z (operation_at Z here.at) → answer ≡ op_of Z (operation_at Z place)
told Z place here answer e f = f ∙ ap (λ (p : ℕ). op_of Z (operation_at Z p)) (number_is _ _ _ e)

pub originals_of-originals-requires : goal.originals_of-originals-requires
originals_of-originals-requires c =
    let a = c.args in
    let w = is-write a.moved.sizes a.place _ _ _ _ (sym c.in-Write.is ∙ told a.moved.sizes a.place _ _ c.new-here.ensures c.operation.ensures) in
    (w.page-in, w.block_in, w.low, w.high)

-- how long its line is
line-short : (Z : Sizes) (place block page : ℕ) (originals : Originals) → Z.n ≤ 8 → Z.m ≤ 8 → place < last_place Z → block ≤ Z.n → page < Z.m → Within (Z.n * Z.m) originals
    → length (originals_line place block page (originals_as originals)) ≤ 149
line-short Z place block page originals n m h b q w =
    originals-short place block page (Z.n * Z.m) (omega (arith, few Z place n m h)) (omega arith) (omega arith) (omega (arith, few-originals Z.n Z.m n m)) originals w

pub put_originals-requires : goal.put_originals-requires
put_originals-requires c =
    let a = c.args in
    let w = is-write a.moved.sizes a.place _ _ _ _ (sym c.in-Write.is ∙ told a.moved.sizes a.place _ _ c.new-here.ensures c.operation.ensures) in
    omega (arith, line-short a.moved.sizes a.place c.in-Write.block c.in-Write.page _ c.requires.0 c.requires.1 c.requires.2 w.block_in w.page-in c.originals_of-originals.ensures.1, c.requires.3)

pub put_erase-requires : goal.put_erase-requires
put_erase-requires c =
    let a = c.args in
    let e = is-erase a.moved.sizes a.place _ (sym c.in-Erase.is ∙ told a.moved.sizes a.place _ _ c.new-here.ensures c.operation.ensures) in
    omega (arith, erase-short a.place c.in-Erase.block (omega (arith, few a.moved.sizes a.place c.requires.0 c.requires.1 c.requires.2)) (omega (arith, e.block_in, c.requires.0)), c.requires.3)

pub returns-in-Write : goal.returns-in-Write
unfolding step_text
returns-in-Write c =
    let a = c.args in
    let p = c.put_originals.ensures in
    let w = is-write a.moved.sizes a.place _ _ _ _ (sym c.in-Write.is ∙ told a.moved.sizes a.place _ _ c.new-here.ensures c.operation.ensures) in
    let short = line-short a.moved.sizes a.place c.in-Write.block c.in-Write.page _ c.requires.0 c.requires.1 c.requires.2 w.block_in w.page-in c.originals_of-originals.ensures.1 in
    let line : step_text (move_in a.moved) a.place (operation_at a.moved.sizes a.place) ≡ originals_line a.place c.in-Write.block c.in-Write.page (originals_as c.originals_of-originals.result) =
    rw (w.is, c.originals_of-originals.ensures.0) in
    (rw line p, omega (arith, p.next-is, short))

pub returns-in-Erase : goal.returns-in-Erase
unfolding step_text
returns-in-Erase c =
    let a = c.args in
    let p = c.put_erase.ensures in
    let e = is-erase a.moved.sizes a.place _ (sym c.in-Erase.is ∙ told a.moved.sizes a.place _ _ c.new-here.ensures c.operation.ensures) in
    let short = erase-short a.place c.in-Erase.block (omega (arith, few a.moved.sizes a.place c.requires.0 c.requires.1 c.requires.2)) (omega (arith, e.block_in, c.requires.0)) in
    let line : step_text (move_in a.moved) a.place (operation_at a.moved.sizes a.place) ≡ erase_line a.place c.in-Erase.block = rw e.is in
    (rw line p, omega (arith, p.next-is, short))

pub returns-in-Done : goal.returns-in-Done
unfolding step_text
returns-in-Done c =
    let a = c.args in
    let Z = a.moved.sizes in
    let done = told-done Z (operation_at Z a.place) (sym c.in-Done.is ∙ told Z a.place _ _ c.new-here.ensures c.operation.ensures) in
    (rw done (nothing-printed a.out.now a.at (omega (arith, c.requires.3))), omega arith)
