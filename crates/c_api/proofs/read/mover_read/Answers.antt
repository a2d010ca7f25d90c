-- `mover_read` meets its contract: it hands on what the call returned for the entries decoded.
use Rattle.flash.proofs.Kit.{sym, arith, length-take-le}
use Rattle.c_api.proofs.BytesLaws.{count_fits, front-is}
use Rattle.c_api.proofs.ExportLaws.{read-exported}
use Rattle.c_api.proofs.read.mover_read.Goals as goal

pub slice_bounds-entries-end : goal.slice_bounds-entries-end
slice_bounds-entries-end c = omega (arith, count_fits _ _ _ c.decode-length.ensures.0)

pub slice_bounds-read-end : goal.slice_bounds-read-end
slice_bounds-read-end c =
    let d = c.decode-length in
    sym (length-take-le _ d.new.list (omega (arith, count_fits _ _ _ d.ensures.0, d.auto.list)))

pub returns-in-Ok : goal.returns-in-Ok
returns-in-Ok c =
    let d = c.decode-length.ensures in
    let told = rw c.in-Ok.is at c.read-answer.ensures.work_after in
    rw c.sizes_of.ensures at (read-exported _ _ _ _ _ (front-is _ _ _ _ d.0 d.1) _ _ _ _ told)

pub returns-in-Err : goal.returns-in-Err
returns-in-Err c =
    let d = c.decode-length.ensures in
    let told = rw c.in-Err.is at c.read-answer.ensures.work_after in
    rw c.number.ensures (rw c.sizes_of.ensures at (read-exported _ _ _ _ _ (front-is _ _ _ _ d.0 d.1) _ _ _ _ told))
