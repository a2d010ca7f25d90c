-- `read` meets its contract: each of its ways out is a case of the answer.
use Rattle.flash.proofs.Kit.{◌≡◌, sym, ap, ◌∙◌, ◌||◌, not, List, ◌++◌, ℕ, ◌-◌, arith, eqb, length, replicate, ne_eqb, eq-eqb}
use Rattle.flash.specs.Refusals.{number_in}
use Rattle.flash.specs.declared.sizes.Sizes.{Sizes}
use Rattle.flash.specs.Geometry.{slot_count, store_len}
use Rattle.flash.specs.Chip.{erased}
use Rattle.flash.proofs.Bounds.{in-range}
use Rattle.method.specs.Answers.{bad_chip}
use Rattle.intel_hex.specs.Reading.{hex_number}
use Rattle.intel_hex.specs.Answers.{rest_sizes, spare_length}
use Rattle.intel_hex.proofs.CallLaws.{chip-lengths, other-pages, image-small, image-length, put_back, put_same, put-behind}
use Rattle.intel_hex.proofs.CallLaws.{read-1, read-2, read-text, read-0}
use Rattle.intel_hex.proofs.VerdictLaws.{handed-on, not-carried}
use Rattle.intel_hex.proofs.call.read.Goals as goal

-- the test of the lengths is the table's
lengths : (Z : Sizes) (store marks : List ℕ) (s t : ℕ) → s ≡ store_len Z → t ≡ slot_count Z
    → (not (eqb (length store) s) || not (eqb (length marks) t)) ≡ bad_chip Z (record { store = store; marks = marks })
unfolding bad_chip
lengths Z store marks s t e f = rw (e, f)

pub returns-then-not-in_range : goal.returns-then-not-in_range
returns-then-not-in_range c = read-1 _ _ _ _ _ (sym c.in_range.ensures ∙ c.if-not-in_range.true)

pub store_length-requires : goal.store_length-requires
store_length-requires c = let b = in-range _ (sym c.in_range.ensures ∙ c.if-not-in_range.false) in (b.n-high, b.m-high, b.p-high)

pub slot_count-requires : goal.slot_count-requires
slot_count-requires c = let b = in-range _ (sym c.in_range.ensures ∙ c.if-not-in_range.false) in (b.n-high, b.m-high)

pub returns-then-store-store_length : goal.returns-then-store-store_length
returns-then-store-store_length c =
    let a = c.args in
    let ranges = sym c.in_range.ensures ∙ c.if-not-in_range.false in
    let fit = lengths (rest_sizes a.n a.m a.p) a.store.now a.marks.now _ _ c.store_length.ensures c.slot_count.ensures in
    read-2 _ _ _ _ _ ranges (sym fit ∙ c.if-store-store_length.true)

pub read-requires : goal.read-requires
read-requires c =
    let a = c.args in
    let Z = rest_sizes a.n a.m a.p in
    let ranges = sym c.in_range.ensures ∙ c.if-not-in_range.false in
    let fit = lengths Z a.store.now a.marks.now _ _ c.store_length.ensures c.slot_count.ensures in
    let L = chip-lengths Z (record { store = a.store.now; marks = a.marks.now }) (sym fit ∙ c.if-store-store_length.false) in
    omega (arith, image-length Z a.store.now L.0, image-small Z (in-range Z ranges))

pub returns-in_err-read : goal.returns-in_err-read
returns-in_err-read c =
    let a = c.args in
    let text = a.text.now in
    let Z = rest_sizes a.n a.m a.p in
    let ranges = sym c.in_range.ensures ∙ c.if-not-in_range.false in
    let fit = sym (lengths Z a.store.now a.marks.now _ _ c.store_length.ensures c.slot_count.ensures) ∙ c.if-store-store_length.false in
    let L = (chip-lengths Z (record { store = a.store.now; marks = a.marks.now }) fit).0 in
    let r = c.read in
    let e = c.in_err-read.field-0.0 in
    let zero = not-carried r.result c.from_residual.result e c.in_err-read.was c.from_residual.ensures.1 in
    let number = r.ensures.number_is ∙ ap (λ (size : ℕ). hex_number size text) (image-length Z a.store.now L) in
    let same = rw (ne_eqb (number_in r.result) 0 zero) at r.ensures.image-is in
    rw (handed-on r.result c.from_residual.result e c.in_err-read.was c.from_residual.ensures.1)
    (read-text _ _ _ _ _ ranges fit (number_in r.result) number zero _ (ap (put_back Z a.store.now L) same ∙ put_same Z a.store.now L))

pub returns : goal.returns
returns c =
    let a = c.args in
    let text = a.text.now in
    let Z = rest_sizes a.n a.m a.p in
    let ranges = sym c.in_range.ensures ∙ c.if-not-in_range.false in
    let fit = sym (lengths Z a.store.now a.marks.now _ _ c.store_length.ensures c.slot_count.ensures) ∙ c.if-store-store_length.false in
    let L = chip-lengths Z (record { store = a.store.now; marks = a.marks.now }) fit in
    let zero : number_in c.read.result ≡ 0 = ap number_in c.in_ok-read.was in
    let n = image-length Z a.store.now L.0 in
    let number = sym (c.read.ensures.number_is ∙ ap (λ (size : ℕ). hex_number size text) n) ∙ zero in
    let image = (rw (eq-eqb (number_in c.read.result) 0 zero, n) at c.read.ensures.image-is) in
    let behind = put-behind Z a.store.now L.0 _ ∙ image in
    let store = c.set_rest.ensures.0 ∙ ap (λ (l : List ℕ). replicate (spare_length Z) erased ++ l) behind in
    let pages = ap (λ (x : ℕ). x - a.m) L.1 ∙ other-pages Z in
    let marks = c.set_rest.ensures.1 ∙ ap (λ (x : ℕ). replicate a.m erased ++ replicate x 0) pages in
    read-0 _ _ _ _ _ ranges fit number _ _ store marks
