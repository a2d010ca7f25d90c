-- Stores at rest in which the originals whose read has a slot are ones, all others zeros: what their pages are at a place that they lead to, but for those of
-- one block.
use Rattle.flash.proofs.Kit.{◌≡◌, refl, sym, ap, ◌∙◌, ◌≢◌, Bool, true, false, cond, ◌&&◌, List, ℕ, suc, ◌+◌, ◌/◌, ◌%◌, ◌≤◌, ◌<◌}
use Rattle.flash.proofs.Kit.{div-add-mod', mod-lt, div-lt_iff_lt-mul, arith, eqb, eq-eqb, and-false, length, get_or}
use Rattle.flash.specs.Lists.{part}
use Rattle.flash.specs.declared.sizes.Sizes.{Sizes}
use Rattle.flash.specs.Geometry.{slot, original_count, slot_count}
use Rattle.flash.specs.Chip.{Chip, page_at}
use Rattle.split.specs.Request.{Request}
use Rattle.split.proofs.OneToOneLaws.{Distinct}
use Rattle.method.specs.Move.{Move, plan, AcceptedMove}
use Rattle.method.specs.Place.{Pass, last_place, pass_at, filling, marks_of}
use Rattle.method.specs.State.{originals_in, chip_at_rest, state_of}
use Rattle.method.specs.Runs.{Start}
use Rattle.method.specs.Rebuild.{whole_move}
use Rattle.method.specs.inner.Shape.{Shape}
use Rattle.method.proofs.basics.MoveShape.{Shows}
use Rattle.method.proofs.places.PlaceShape.{letter_above}
use Rattle.method.proofs.rebuild.BlockFilled.{JustFilled, BlockTorn, filled-there, marks_begun, shows-begun}
use Rattle.method.proofs.rebuild.Lists.{has, mix, mix-alone}
use Rattle.method.proofs.rebuild.OtherSum.{EachHas}
use Rattle.method.proofs.rebuild.PageSets.{set_at, held_beside}
use Rattle.method.proofs.rebuild.States.{state-size, state-shows, made, made-part, made-starts}
use Rattle.method.proofs.rebuild.Taken.{RebuildTaken, page-length}
use Rattle.method.proofs.rebuild.Units.{bit_page, bit_length, bit_byte, bit-same, bit_of, UnitPage, unit-page, zero-page}

module _ (R : Request) (chip : Chip) (area flags : List ℕ) (bad : ℕ) (T : RebuildTaken R chip area flags bad) where
  open R.sizes use {n, m, p as P}

  abbrev Z : Sizes
  Z = R.sizes

  abbrev M : Move
  M = whole_move R

  abbrev A : AcceptedMove M
  A = T.accepted

  abbrev place : ℕ
  place = T.found.place

  pub in_blocks : (t : ℕ) → t < slot_count Z → (t / m ≤ n) × (t % m < m) × (slot m (t / m) (t % m) ≡ t)
  in_blocks t h = (let l : t / m < n + 1 = (div-lt_iff_lt-mul A.ranges.m-low).1 h in (omega arith, mod-lt t A.ranges.m-low, div-add-mod' t m))

  -- the block that is left out, and the marks with which it was begun
  pub record ButOne : Type 0 where
    pub begun : List ℕ
    pub low : ℕ
    pub pass : Pass
    pub shape : Shape Z begun low (suc low) (letter_above pass)
    pub pass-is : pass_at Z place ≡ pass
    pub block-is : filling Z place ≡ low
    pub in-move : place ≤ last_place Z
    pub shown : (value page : ℕ → List ℕ) → Shows M (marks_of Z place) value page → Shows M begun value page

  abbrev pub but-torn : (block : ℕ) → BlockTorn Z A.ranges chip.marks T.found T.told block → ButOne
  but-torn block B = record {
    begun = marks_of Z place;
    low = block;
    pass = B.pass;
    shape = B.begun.shape;
    pass-is = B.begun.stands.pass-is;
    block-is = B.begun.stands.block-is;
    in-move = B.in-move;
    shown = λ value page H. H;
  }

  abbrev pub but_last : JustFilled Z chip.marks place → ButOne
  but_last J = record {
    begun = marks_begun M A chip.marks place J;
    low = J.block;
    pass = J.pass;
    shape = J.begun.shape;
    pass-is = J.stands.pass-is;
    block-is = J.stands.block-is;
    in-move = J.in-move;
    shown = shows-begun M A (marks_of Z place) place (filled-there Z chip.marks place J);
  }

  -- ones for slot u, in the sets that pass the test
  module _ (O : ButOne) (u : ℕ) (test : ℕ → Bool) where
    abbrev pub unit_value : (j : ℕ) → List ℕ
    unit_value j = bit_page P (bit_of M A O.begun O.low O.pass O.shape u test j)

    pub unit-whole : (j : ℕ) → j < original_count Z → length (unit_value j) ≡ P
    unit-whole j h = bit_length P (bit_of M A O.begun O.low O.pass O.shape u test j)

    abbrev pub unit_store : Chip
    unit_store = chip_at_rest Z (made Z unit_value unit-whole)

    pub unit-starts : Start R unit_store
    unit-starts = made-starts Z unit_value unit-whole R refl T.undropped T.list-accepted A.split

    abbrev pub value_in : (j : ℕ) → List ℕ
    value_in j = part P j (originals_in Z unit_store)

    pub is-value : (j : ℕ) → j < original_count Z → value_in j ≡ unit_value j
    is-value = made-part Z unit_value unit-whole

    abbrev pub unit_pages : (t : ℕ) → List ℕ
    unit_pages = page_at P (state_of (plan R) (originals_in Z unit_store) place)

    pub unit-shows : Shows M (marks_of Z place) value_in unit_pages
    unit-shows = state-shows R unit_store unit-starts T.undropped place O.in-move

    pub unit_size : (t : ℕ) → t < slot_count Z → length (unit_pages t) ≡ P
    unit_size =
        page-length M A chip.marks T.found T.told bad (state_of (plan R) (originals_in Z unit_store) place) (state-size R unit_store unit-starts T.undropped place O.in-move)

    abbrev pub slot_set : (t : ℕ) → ℕ
    slot_set t = set_at M (held_beside O.pass O.low (t / m)) (t / m) (t % m)

    unit-at : (t : ℕ) → t < slot_count Z → t / m ≢ O.low → unit_pages t ≡ bit_page P (test (slot_set t) && eqb u t)
    unfolding UnitPage
    unit-at t h ne =
        let b = in_blocks t h in
        ap unit_pages (sym b.2)
        ∙ unit-page M A O.begun O.low O.pass O.shape u test value_in is-value unit_pages (O.shown value_in unit_pages unit-shows) (t / m) (t % m) b.0 b.1 ne
        ∙ ap (λ (x : ℕ). bit_page P (test (slot_set t) && eqb u x)) b.2

    pub zeros-at : (t : ℕ) → t < slot_count Z → t / m ≢ O.low → t ≢ u → unit_pages t ≡ bit_page P false
    zeros-at t h ne other =
        let b = in_blocks t h in
        ap unit_pages (sym b.2)
        ∙ zero-page M A O.begun O.low O.pass O.shape u test value_in is-value unit_pages (O.shown value_in unit_pages unit-shows) (t / m) (t % m) b.0 b.1 ne (λ e. other (sym b.2 ∙ e))

    -- so a sum that gives an original has the slot as often as read has it for that original
    pub unit-sum : (ts : List ℕ) → Distinct ts → EachHas (λ t. (t < slot_count Z) × (t / m ≢ O.low)) ts → (j : ℕ) → j < original_count Z
        → mix (λ t. get_or (unit_pages t) 0 0) ts ≡ get_or (value_in j) 0 0 → (test (slot_set u) && has u ts) ≡ bit_of M A O.begun O.low O.pass O.shape u test j
    unit-sum ts distinct beside j j-in gives =
        bit-same _ _
        (sym (mix-alone (λ t. get_or (unit_pages t) 0 0) u ts distinct
        (λ t h ne. ap first_byte (zeros-at t (beside t h).0 (beside t h).1 ne) ∙ bit_byte P false A.ranges.p-low)
        ∙ own (has u ts) refl)
        ∙ gives ∙ ap first_byte (is-value j j-in) ∙ bit_byte P (bit_of M A O.begun O.low O.pass O.shape u test j) A.ranges.p-low)
      where
        first_byte : List ℕ → ℕ
        first_byte p = get_or p 0 0

        own : (it : Bool) → has u ts ≡ it → cond it (get_or (unit_pages u) 0 0) 0 ≡ cond (test (slot_set u) && it) 1 0
        own true e =
            ap first_byte (unit-at u (beside u e).0 (beside u e).1) ∙ bit_byte P (test (slot_set u) && eqb u u) A.ranges.p-low
            ∙ ap (λ (b : Bool). cond (test (slot_set u) && b) 1 0) (eq-eqb u u refl)
        own false e = ap (λ (b : Bool). cond b 1 0) (sym (and-false (test (slot_set u))))
