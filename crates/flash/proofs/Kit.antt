-- What the proofs of all crates take of the kit, in one place: the head of each file names what it needs of it.
pub use mathlib.Core.Bool.{◌&&◌, Bool, beq as Bool·beq, and_assoc, and-false, and-true, cond, false, false≢true, not, or_assoc, or-false, or-true, true}
pub use mathlib.Core.Bool.{true≢false, ◌||◌}
pub use mathlib.Core.List.Memᴰ.{append_cases as List·Memᴰ·append-cases}
pub use mathlib.Core.List.Memᴰ.{cases_cons as List·Memᴰ·cases-cons}
pub use mathlib.Core.List.Memᴰ.{head as List·Memᴰ·head}
pub use mathlib.Core.List.Memᴰ.{not-nil as List·Memᴰ·not-nil}
pub use mathlib.Core.List.Memᴰ.{tail as List·Memᴰ·tail}
pub use mathlib.Core.List.{◌++◌, List, Memᴰ as List-as-Memᴰ}
pub use mathlib.Core.List.Memᴰ.{append_left as Memᴰ·append-left}
pub use mathlib.Core.List.Memᴰ.{append_right as Memᴰ·append-right}
pub use mathlib.Core.List.{[], append_assoc, append-nil, map, ◌∷◌}
pub use mathlib.Core.Logic.{inl, inr, ◌≢◌, ◌⊎◌, ⊎_elim}
pub use mathlib.Core.Option.{Option, none, some}
pub use mathlib.Core.Path.{ap, ap₂, fun_ext, refl, subst, sym, ◌∙◌, ◌≡◌}
pub use Prim.Native.Nat.{◌%◌, ◌*◌, ◌+◌, ◌-◌, ◌/◌, ◌<◌, ◌^◌, max, min, suc, zero, ℕ, ◌≤◌}
pub use native.Mathlib.Nat.{add-mul, add-suc, add-zero, div-add-mod', div-eq_of_lt, div-le_self, div-lt_iff_lt-mul, div-one, div_self, le_antisymm}
pub use native.Mathlib.Nat.{le-div_iff_mul-le, le_of_suc-le-suc, mod-eq_of_lt, mod-lt, mul-add-div_right, mul-add-mod_self_right, mul_assoc}
pub use native.Mathlib.Nat.{mul-div_cancel, mul-le-mul, mul-le-mul_left, mul-le-mul_right, mul-zero, not-suc-le-zero, one-mul, pow-le-pow_right}
pub use native.Mathlib.Nat.{pow-suc, suc-add, suc-mul, zero-add, zero-div, zero-mod, zero-sub}
pub use native.Mathlib.Numerals.{add-one, one-add, unary_clauses}
pub use native.Mathlib.Omega.{arith}
pub use lib.Arith.{bin_ind, digits_lt}
pub use lib.Bits.{and_le_l, and_le_r, and_mask, bit_and, bit_or, bit_xor, differ, or_add_and, or_lt, or_shr, or_step, or_zero_l, or_zero_r, xor_add_and, xor_comm}
pub use lib.Bits.{xor_self, xor_shr, xor_step, xor_zero_l, xor_zero_r}
unfoldable pub use lib.Count.{count_trailing_zeros}
pub use lib.Count.{trailing_le, under}
pub use lib.Dec.{eqb, leb, lit<, ltb}
pub use lib.ListN.{get_or-append as List·getD-append, get_or-eq_default as List·getD-eq-default, get_or-map as List·getD-map, drop, drop_of_length-le, get_or, get_or-replicate, length, length-append}
pub use lib.ListN.{length-drop, length-map, length-replicate, length-set, length-take, replicate, replicate-append-replicate, set, take, take-append-drop}
pub use lib.Pow.{pow-add, pow-lt, pow_pos, shl_exact, shl-shr, shr-shr}
pub use lib.Seq.{append_snoc, drop-append-add, drop-append-le, drop_at, drop-cons, drop-drop, drop-length, drop-set-add, drop-set-lt, ext_get_or}
pub use lib.Seq.{get_or-append-add, get_or_at, get_or-drop, get_or-set_other, get_or-set_same, get_or-take, length-take-le, set-append_left, set_at, set_split}
pub use lib.Seq.{slice, slice_empty, take-add, take_all, take-append-le, take_at, take-length, take-nil, take-set-le, take-set-lt, take-suc}
pub use lib.Seq.{take-suc-set, take-take}
pub use borrow.Author.Count.{below_more}
pub use borrow.Author.Fill.{fill_more}
pub use borrow.Author.Rules.{rules}
pub use borrow.Author.Tests.{eq-eqb, eqb-false, eqb-true, le-leb, le-ltb, leb-false, leb-true, lt-leb, lt-ltb, ltb-false, ltb-true, ne_eqb, not-false}
pub use borrow.Author.Tests.{not-true}
