-- `mover_split` meets its contract: it hands on what the call returned for the entries decoded.
use Rattle.flash.proofs.Kit.{sym, arith, length-take-le}
use Rattle.c_api.proofs.BytesLaws.{count_fits, front-is}
use Rattle.c_api.proofs.ExportLaws.{split-exported}
use Rattle.c_api.proofs.split_call.mover_split.Goals as goal

pub slice_bounds-entries-end : goal.slice_bounds-entries-end
slice_bounds-entries-end c = omega (arith, count_fits _ _ _ c.decode-count.ensures.0)

pub slice_bounds-split-end : goal.slice_bounds-split-end
slice_bounds-split-end c =
    let d = c.decode-count in
    sym (length-take-le _ d.new.list (omega (arith, count_fits _ _ _ d.ensures.0, d.auto.list)))

pub returns : goal.returns
returns c =
    let d = c.decode-count.ensures in
    rw c.number.ensures (rw c.sizes_of.ensures at (split-exported _ _ _ _ _ (front-is _ _ _ _ d.0 d.1) _ c.split.ensures.sets_after))
