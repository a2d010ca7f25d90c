-- `mover_rebuild` meets its contract: it hands on what the call returned for the entries decoded.
use Rattle.flash.proofs.Kit.{sym, arith, length-take-le}
use Rattle.c_api.proofs.BytesLaws.{count_fits, front-is}
use Rattle.c_api.proofs.ExportLaws.{rebuild-exported}
use Rattle.c_api.proofs.rebuild.mover_rebuild.Goals as goal

pub slice_bounds-entries-end : goal.slice_bounds-entries-end
slice_bounds-entries-end c = omega (arith, count_fits _ _ _ c.decode-length.ensures.0)

pub slice_bounds-rebuild-end : goal.slice_bounds-rebuild-end
slice_bounds-rebuild-end c =
    let d = c.decode-length in
    sym (length-take-le _ d.new.list (omega (arith, count_fits _ _ _ d.ensures.0, d.auto.list)))

pub returns : goal.returns
returns c =
    let d = c.decode-length.ensures in
    rw c.number.ensures (rw c.sizes_of.ensures at (rebuild-exported _ _ _ _ _ (front-is _ _ _ _ d.0 d.1) _ _ _ _ _ c.rebuild.ensures))
