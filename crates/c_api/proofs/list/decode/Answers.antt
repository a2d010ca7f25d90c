-- `decode` meets its contract: the entries passed are those of the bytes, and behind them the area is as it was.
use Rattle.flash.proofs.Kit.{◌≡◌, refl, ◌∙◌, false, ◌||◌, ◌+◌, ◌/◌, ◌*◌, ◌≤◌, arith, eqb, ltb, List, ℕ, ◌%◌, length, get_or}
use Rattle.c_api.specs.Bytes.{is_odd}
use Rattle.c_api.proofs.BytesLaws.{entries-length, decode-more, all-entries, no-entries, entries-within, within}
use Rattle.c_api.proofs.list.decode.Goals as goal

pub returns-then-bytes-list : goal.returns-then-bytes-list
unfolding is_odd
returns-then-bytes-list c =
    let a = c.args in
    rw (no-entries (length a.list.now) a.bytes.now c.if-bytes-list.true) (refl, refl)

-- there is room for the list
room : (bytes list : List ℕ) → (eqb (length bytes % 2) 1 || ltb (length list) (length bytes / 2)) ≡ false
    → (is_odd bytes || ltb (length list) (length bytes / 2)) ≡ false
unfolding is_odd
room bytes list e = e

fits : (bytes list : List ℕ) → (eqb (length bytes % 2) 1 || ltb (length list) (length bytes / 2)) ≡ false
    → (length bytes ≡ 2 * (length bytes / 2)) × (length bytes / 2 ≤ length list)
fits bytes list e = within (length list) bytes (room bytes list e)

pub loop-i-preserved : goal.loop-i-preserved
loop-i-preserved c =
    let l = c.loop-i in
    let a = c.args in
    let r = fits a.bytes.now a.list.now c.if-bytes-list.false in
    let entry : c.from_le_bytes.result ≡ get_or a.bytes.now (2 * l.i) 0 + get_or a.bytes.now (2 * l.i + 1) 0 * 256 = omega (arith, c.from_le_bytes.ensures) in
    rw (l.invariant, entry) (decode-more a.bytes.now a.list.now (length a.bytes.now / 2) l.i r.0 (omega arith) r.1)

pub returns : goal.returns
returns c =
    let l = c.loop-i in
    let a = c.args in
    let r = fits a.bytes.now a.list.now c.if-bytes-list.false in
    let e : l.i ≡ length a.bytes.now / 2 = omega arith in
    let all = entries-length _ a.bytes.now r.0 in
    rw (entries-within _ _ (room a.bytes.now a.list.now c.if-bytes-list.false), all)
    (refl, rw e at l.invariant ∙ rw (all-entries a.bytes.now _ r.0))
