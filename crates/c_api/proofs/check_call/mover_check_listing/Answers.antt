-- `mover_check_listing` meets its contract: it hands on what the call returned for the entries decoded.
use Rattle.flash.proofs.Kit.{◌≡◌, refl, sym, Bool, true, false, cond, arith, length-take-le}
use mir.Val.{bool_byte}
use Rattle.c_api.proofs.BytesLaws.{count_fits, front-is}
use Rattle.c_api.proofs.CheckLaws.{check-exported}
use Rattle.c_api.proofs.check_call.mover_check_listing.Goals as goal

pub slice_bounds-entries-end : goal.slice_bounds-entries-end
slice_bounds-entries-end c = omega (arith, count_fits _ _ _ c.decode-count.ensures.0)

pub slice_bounds-check-end : goal.slice_bounds-check-end
slice_bounds-check-end c =
    let d = c.decode-count in
    sym (length-take-le _ d.new.list (omega (arith, count_fits _ _ _ d.ensures.0, d.auto.list)))

-- a yes is told as 1
as-number : (b : Bool) → bool_byte b ≡ cond b 1 0
as-number true = refl
as-number false = refl

pub returns-in-Ok : goal.returns-in-Ok
returns-in-Ok c =
    let a = c.args in
    let d = c.decode-count.ensures in
    rw (c.from.ensures, as-number c.in-Ok.yes) (check-exported a.n a.m a.text.now a.list.now _ (front-is _ _ _ _ d.0 d.1) _ 0 c.in-Ok.ensures refl)

pub returns-in-Err-Lent : goal.returns-in-Err-Lent
returns-in-Err-Lent c =
    let a = c.args in
    let d = c.decode-count.ensures in
    let told = rw (c.in-Err-Lent.is, c.in-Err-Lent.field-0-is) at c.check.ensures in
    rw c.number.ensures (check-exported a.n a.m a.text.now a.list.now _ (front-is _ _ _ _ d.0 d.1) _ 0 told refl)

pub returns-in-Err-Line : goal.returns-in-Err-Line
returns-in-Err-Line c =
    let a = c.args in
    let d = c.decode-count.ensures in
    let told = rw (c.in-Err-Line.is, c.in-Err-Line.field-0-is) at c.check.ensures in
    rw c.number-in-Err-Line.ensures (check-exported a.n a.m a.text.now a.list.now _ (front-is _ _ _ _ d.0 d.1) _ _ told c.line_told.ensures)
