-- The recovery answers for the counters that its bytes spell.
use Rattle.std.proofs.lemmas.Result.{err_from_is_err_and}
use Rattle.c_api.proofs.ExportLaws.{mend-other-length, mend-done, mend-left, mend-refused, mend-counters}
use Rattle.c_api.proofs.mend.mend_bytes.Goals as goal

pub returns-then-wear-ne-WEAR : goal.returns-then-wear-ne-WEAR
returns-then-wear-ne-WEAR c =
    let a = c.args in
    mend-other-length a.sizes (record { store = a.store.now; marks = a.marks.now }) a.wear.now c.if-wear-ne-WEAR.true _ c.bad_length.ensures

-- the record has its length
pub decode_wear-requires : goal.decode_wear-requires
decode_wear-requires c = c.if-wear-ne-WEAR.false

pub encode_wear-requires : goal.encode_wear-requires
encode_wear-requires c =
    let sized = c.if-wear-ne-WEAR.false in
    let mended = rw (c.decode_wear.ensures.value, c.in_ok-done.was) at c.mend-mended.ensures in
    (sized, mend-counters _ _ _ sized _ _ _ _ mended c.if-done-ne0.true)

pub returns-then-done-ne0 : goal.returns-then-done-ne0
returns-then-done-ne0 c =
    let mended = rw (c.decode_wear.ensures.value, c.in_ok-done.was) at c.mend-mended.ensures in
    mend-done _ _ _ c.if-wear-ne-WEAR.false _ _ _ _ mended _ c.encode_wear.ensures

pub returns-else-done-ne0 : goal.returns-else-done-ne0
returns-else-done-ne0 c =
    let d = c.decode_wear.ensures in
    let mended = rw (d.value, c.in_ok-done.was) at c.mend-mended.ensures in
    mend-left _ _ _ c.if-wear-ne-WEAR.false _ _ _ (rw d.value at d.result_value) _ mended c.if-done-ne0.false

pub returns-in_err-done : goal.returns-in_err-done
returns-in_err-done c =
    let mended = rw (c.decode_wear.ensures.value, c.in_err-done.was) at c.mend-mended.ensures in
    let p = err_from_is_err_and c.from_residual.result c.from_residual.ensures.1 in
    rw (p.1, p.2) (mend-refused _ _ _ c.if-wear-ne-WEAR.false _ _ _ _ mended)
