-- `mover_least_y` meets its contract: it hands on what the call returned for the entries decoded.
use Rattle.flash.proofs.Kit.{sym, arith, length-take-le}
use Rattle.c_api.proofs.BytesLaws.{count_fits, front-is}
use Rattle.c_api.proofs.OrderCallLaws.{least-exported, told-small}
use Rattle.c_api.proofs.order_call.mover_least_y.Goals as goal

pub slice_bounds-entries-end : goal.slice_bounds-entries-end
slice_bounds-entries-end c = omega (arith, count_fits _ _ _ c.decode-count.ensures.0)

pub slice_bounds-least_y-end : goal.slice_bounds-least_y-end
slice_bounds-least_y-end c =
    let d = c.decode-count in
    sym (length-take-le _ d.new.list (omega (arith, count_fits _ _ _ d.ensures.0, d.auto.list)))

-- what is told fits into 32 bits
pub overflow_cast-y : goal.overflow_cast-y
overflow_cast-y c = let small = told-small _ _ _ _ _ c.in-Ok.ensures in omega arith

pub overflow_cast-page : goal.overflow_cast-page
overflow_cast-page c = let small = told-small _ _ _ _ _ c.in-Ok.ensures in omega arith

pub returns-in-Ok : goal.returns-in-Ok
returns-in-Ok c =
    let d = c.decode-count.ensures in
    least-exported _ _ _ _ _ (front-is _ _ _ _ d.0 d.1) _ c.in-Ok.ensures

pub returns-in-Err : goal.returns-in-Err
returns-in-Err c =
    let d = c.decode-count.ensures in
    rw c.number.ensures (least-exported _ _ _ _ _ (front-is _ _ _ _ d.0 d.1) _ c.in-Err.ensures)
