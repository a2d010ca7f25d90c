-- `write` meets its contract: each of its ways out is a case of the answer.
use Rattle.flash.proofs.Kit.{◌≡◌, sym, ap, ◌∙◌, List, ℕ, ◌||◌, not, arith, eqb, length}
use Rattle.flash.specs.declared.sizes.Sizes.{Sizes}
use Rattle.flash.specs.Geometry.{slot_count, store_len}
use Rattle.flash.proofs.Bounds.{in-range}
use Rattle.method.specs.State.{originals_in}
use Rattle.method.specs.Answers.{bad_chip}
use Rattle.intel_hex.specs.Writing.{hex_text, hex_length}
use Rattle.intel_hex.specs.Answers.{rest_sizes, image_length}
use Rattle.intel_hex.proofs.CallLaws.{write-lengths, image-small, spare-small, image-is, image-length, write-1, write-2, write-5}
use Rattle.intel_hex.proofs.CallLaws.{write-0}
use Rattle.intel_hex.proofs.call.write.Goals as goal

-- the test of the lengths is the table's
lengths : (Z : Sizes) (store marks text : List ℕ) (s t u : ℕ) → s ≡ store_len Z → t ≡ slot_count Z → u ≡ hex_length (image_length Z)
    → (not (eqb (length store) s) || not (eqb (length marks) t) || not (eqb (length text) u))
    ≡ (bad_chip Z (record { store = store; marks = marks }) || not (eqb (length text) (hex_length (image_length Z))))
unfolding bad_chip
lengths Z store marks text s t u e f g = rw (e, f, g)

pub returns-then-not-in_range : goal.returns-then-not-in_range
returns-then-not-in_range c = write-1 _ _ _ _ _ (sym c.in_range.ensures ∙ c.if-not-in_range.true)

pub overflow_mul-first : goal.overflow_mul-first
overflow_mul-first c = omega (arith, spare-small _ (in-range _ (sym c.in_range.ensures ∙ c.if-not-in_range.false)))

pub store_length-requires : goal.store_length-requires
store_length-requires c = let b = in-range _ (sym c.in_range.ensures ∙ c.if-not-in_range.false) in (b.n-high, b.m-high, b.p-high)

pub slot_count-requires : goal.slot_count-requires
slot_count-requires c = let b = in-range _ (sym c.in_range.ensures ∙ c.if-not-in_range.false) in (b.n-high, b.m-high)

pub length_of-requires : goal.length_of-requires
length_of-requires c = image-small _ (in-range _ (sym c.in_range.ensures ∙ c.if-not-in_range.false))

pub returns-then-store-store_length : goal.returns-then-store-store_length
returns-then-store-store_length c =
    let a = c.args in
    let fit = lengths (rest_sizes a.n a.m a.p) a.store.now a.marks.now a.text.now _ _ _ c.store_length.ensures c.slot_count.ensures c.length_of.ensures in
    write-2 _ _ _ _ _ (sym c.in_range.ensures ∙ c.if-not-in_range.false) (sym fit ∙ c.if-store-store_length.true)

pub is_elsewhere-requires : goal.is_elsewhere-requires
is_elsewhere-requires c =
    let a = c.args in
    let Z = rest_sizes a.n a.m a.p in
    let fit = lengths Z a.store.now a.marks.now a.text.now _ _ _ c.store_length.ensures c.slot_count.ensures c.length_of.ensures in
    let L = write-lengths Z (record { store = a.store.now; marks = a.marks.now }) a.text.now (sym fit ∙ c.if-store-store_length.false) in
    (in-range _ (sym c.in_range.ensures ∙ c.if-not-in_range.false), L.1, L.0)

pub returns-then-is_elsewhere : goal.returns-then-is_elsewhere
returns-then-is_elsewhere c =
    let a = c.args in
    let fit = lengths (rest_sizes a.n a.m a.p) a.store.now a.marks.now a.text.now _ _ _ c.store_length.ensures c.slot_count.ensures c.length_of.ensures in
    write-5 _ _ _ _ _ (sym c.in_range.ensures ∙ c.if-not-in_range.false) (sym fit ∙ c.if-store-store_length.false)
    (sym c.if-is_elsewhere.true ∙ c.is_elsewhere.ensures)

pub put_image-requires : goal.put_image-requires
put_image-requires c =
    let a = c.args in
    let Z = rest_sizes a.n a.m a.p in
    let fit = lengths Z a.store.now a.marks.now a.text.now _ _ _ c.store_length.ensures c.slot_count.ensures c.length_of.ensures in
    let L = write-lengths Z (record { store = a.store.now; marks = a.marks.now }) a.text.now (sym fit ∙ c.if-store-store_length.false) in
    let n = image-length Z a.store.now L.0 in
    (omega (arith, n, image-small Z (in-range Z (sym c.in_range.ensures ∙ c.if-not-in_range.false))), L.2 ∙ ap hex_length (sym n))

pub returns : goal.returns
unfolding originals_in
returns c =
    let a = c.args in
    let Z = rest_sizes a.n a.m a.p in
    let fit = sym (lengths Z a.store.now a.marks.now a.text.now _ _ _ c.store_length.ensures c.slot_count.ensures c.length_of.ensures)
    ∙ c.if-store-store_length.false in
    let L = write-lengths Z (record { store = a.store.now; marks = a.marks.now }) a.text.now fit in
    write-0 _ _ _ _ _ (sym c.in_range.ensures ∙ c.if-not-in_range.false) fit (sym c.if-is_elsewhere.false ∙ c.is_elsewhere.ensures) _
    (c.put_image.ensures ∙ ap hex_text (image-is Z a.store.now L.0))
