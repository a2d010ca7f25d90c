-- The run answers for the list and the counters that its bytes spell.
use Rattle.flash.proofs.Kit.{sym, ◌∙◌, arith, length-take-le}
use Rattle.std.proofs.lemmas.Result.{err_from_is_err_and}
use Rattle.c_api.proofs.BytesLaws.{count_fits, front-is}
use Rattle.c_api.proofs.WearLaws.{counters-length}
use Rattle.c_api.proofs.ExportLaws.{counters-kept, run-exported, run-other-length, run-done, run-left}
use Rattle.c_api.proofs.run.run_bytes.Goals as goal

pub returns-then-wear-ne-WEAR : goal.returns-then-wear-ne-WEAR
returns-then-wear-ne-WEAR c = run-other-length _ _ _ _ _ _ _ _ _ _ c.if-wear-ne-WEAR.true _ c.bad_length.ensures

pub slice_bounds-entries-end : goal.slice_bounds-entries-end
slice_bounds-entries-end c = omega (arith, count_fits _ _ _ c.decode-count.ensures.0)

pub slice_bounds-run-end : goal.slice_bounds-run-end
slice_bounds-run-end c =
    let d = c.decode-count in
    sym (length-take-le _ d.new.list (omega (arith, count_fits _ _ _ d.ensures.0, d.auto.list)))

pub decode_wear-requires : goal.decode_wear-requires
decode_wear-requires c = c.if-wear-ne-WEAR.false

-- the record has its length, and what the run returned is that of the entries decoded
pub encode_wear-requires : goal.encode_wear-requires
encode_wear-requires c = (
  c.if-wear-ne-WEAR.false,
  counters-kept c.run-ran.result _ _ _ _ _ _ _ _ _ _ c.run-ran.ensures.work_after ∙ rw c.decode_wear.ensures.value (counters-length _),
)

pub returns : goal.returns
returns c =
    let d = c.decode-count.ensures in
    let ran = rw (c.decode_wear.ensures.value, c.in_ok-taken.was) at c.run-ran.ensures.work_after in
    run-done _ _ _ _ _ _ _ _ _ _ c.if-wear-ne-WEAR.false _ _ _ _ _
    (run-exported _ _ _ _ _ (front-is _ _ _ _ d.0 d.1) _ _ _ _ _ _ _ ran) _ c.encode_wear.ensures

pub returns-in_err-taken : goal.returns-in_err-taken
returns-in_err-taken c =
    let d = c.decode-count.ensures in
    let ran = rw (c.decode_wear.ensures.value, c.in_err-taken.was) at c.run-ran.ensures.work_after in
    let p = err_from_is_err_and c.from_residual.result c.from_residual.ensures.1 in
    rw (p.1, p.2) (run-left _ _ _ _ _ _ _ _ _ _ c.if-wear-ne-WEAR.false _ _ _ _ _
    (run-exported _ _ _ _ _ (front-is _ _ _ _ d.0 d.1) _ _ _ _ _ _ _ ran))
