-- Read's own sum where it goes without the slot; else the other one, or none where a block is torn.
use Rattle.flash.proofs.Kit.{◌≡◌, sym, ap, ◌∙◌, Bool, List, ℕ, ◌≤◌, ◌<◌, arith, eqb, length, take, length-replicate, length-take-le}
use Rattle.flash.specs.Lists.{any, part}
use Rattle.flash.specs.PageSum.{sum}
use Rattle.flash.specs.Chip.{Chip}
use Rattle.method.specs.Move.{Move, AcceptedMove}
use Rattle.method.specs.inner.MoveIn.{move_in}
use Rattle.method.specs.Read.{read_slots}
use Rattle.method.specs.Mend.{Reading}
use Rattle.flash.specs.Geometry.{original_count}
use Rattle.walk.specs.inner.Moments.{Tells}
use Rattle.walk.specs.inner.Slots.{StartsWith}
use Rattle.mover.specs.declared.rebuild.Told.{Told}
use Rattle.mover.specs.inner.Rebuild.{Sees, Seen}
use Rattle.mover.proofs.RebuiltLaws.{sums-to, gives_up, in-store, at-moment, own-fits, from-own, from-torn}
use Rattle.mover.proofs.rebuild.rebuild_page.Goals as goal

abbrev chip : (store marks : List ℕ) → Chip
chip store marks = record { store = store; marks = marks }

-- ---- the slots of read's sum, as they were filled in
module _ (M : Move) (A : AcceptedMove M) (told : Told) (slot k : ℕ) (k-in : k < original_count M.sizes) (old new : List ℕ) (count : ℕ)
    (G : (marks : List ℕ) → Tells M marks told.moment → StartsWith old 1 (read_slots M marks k) new count) where
  own_is : (marks : List ℕ) (found : Reading) → Sees M marks found told → take count new ≡ read_slots M marks k
  own_is marks found S = (G marks (at-moment M A marks found told S slot k k-in)).slots-are

  module _ (E : Seen M told) (size : length old ≡ 65) where
    few : count ≤ 64
    few = let g = G E.0 (at-moment M A E.0 E.1 told E.2 slot k k-in) in omega (arith, g.few, size)

    room : length new ≡ 65
    room = (G E.0 (at-moment M A E.0 E.1 told E.2 slot k k-in)).room

    cut : length (take count new) ≡ count
    cut = length-take-le count new (omega (arith, few, room))

  -- what is asked of them holds of the definition's
  asked : (marks : List ℕ) (found : Reading) → Sees M marks found told → {has : Bool} → has ≡ any (eqb slot) (take count new)
      → any (eqb slot) (read_slots M marks k) ≡ has
  asked marks found S e = ap (any (eqb slot)) (sym (own_is marks found S)) ∙ sym e

pub row_slots-count-requires : goal.row_slots-count-requires
row_slots-count-requires c = (c.requires.0, length-replicate {A = ℕ} 65 0, c.requires.1)

pub slice_bounds-slots-end : goal.slice_bounds-slots-end
slice_bounds-slots-end c =
    let a = c.args in
    let G = c.row_slots-count.ensures in
    let f = few (move_in a.rows.moved) a.rows.moved.accepted a.told a.slot a.k c.requires.0 _ _ _ G c.requires.4 (length-replicate {A = ℕ} 65 0) in
    let r = room (move_in a.rows.moved) a.rows.moved.accepted a.told a.slot a.k c.requires.0 _ _ _ G c.requires.4 (length-replicate {A = ℕ} 65 0) in
    omega (arith, f, r)

pub slice_bounds-own-end : goal.slice_bounds-own-end
slice_bounds-own-end c =
    let a = c.args in
    sym (cut (move_in a.rows.moved) a.rows.moved.accepted a.told a.slot a.k c.requires.0 _ _ _ c.row_slots-count.ensures c.requires.4 (length-replicate {A = ℕ} 65 0))

pub returns-in_default : goal.returns-in_default
returns-in_default c marks found S =
    let a = c.args in
    let L = c.lose.ensures in
    gives_up a.rows.moved.sizes.p (chip a.store.now marks) _ _ _ _
    (from-torn (move_in a.rows.moved) a.rows.moved.accepted marks found a.told S a.slot a.k c.requires.0
    (asked (move_in a.rows.moved) a.rows.moved.accepted a.told a.slot a.k c.requires.0 _ _ _ c.row_slots-count.ensures marks found S c.has_slot.ensures ∙ c.if-has_slot.true) c.in_default.is)
    L.0 L.1 c.requires.3

pub rebuild_other-requires : goal.rebuild_other-requires
rebuild_other-requires c =
    let a = c.args in
    let G = c.row_slots-count.ensures in
    let E = c.requires.4 in
    let f = few (move_in a.rows.moved) a.rows.moved.accepted a.told a.slot a.k c.requires.0 _ _ _ G E (length-replicate {A = ℕ} 65 0) in
    let n = cut (move_in a.rows.moved) a.rows.moved.accepted a.told a.slot a.k c.requires.0 _ _ _ G E (length-replicate {A = ℕ} 65 0) in (
      c.requires.0,
      c.requires.1,
      c.requires.2,
      c.requires.3,
      omega (arith, f, n),
      record {
        has-bad = sym c.has_slot.ensures ∙ c.if-has_slot.true;
        marks = E.0;
        found = E.1;
        coded_at = E.2.full _ c.in-Some.is;
        is = own_is (move_in a.rows.moved) a.rows.moved.accepted a.told a.slot a.k c.requires.0 _ _ _ G E.0 E.1 E.2;
      },
    )

pub returns-then-has_slot : goal.returns-then-has_slot
returns-then-has_slot c marks found S =
    let a = c.args in
    c.rebuild_other.ensures marks found (S.full _ c.in-Some.is)
    (own_is (move_in a.rows.moved) a.rows.moved.accepted a.told a.slot a.k c.requires.0 _ _ _ c.row_slots-count.ensures marks found S)

pub sum_to_page-requires : goal.sum_to_page-requires
sum_to_page-requires c =
    let a = c.args in
    let G = c.row_slots-count.ensures in
    let E = c.requires.4 in
    let f = few (move_in a.rows.moved) a.rows.moved.accepted a.told a.slot a.k c.requires.0 _ _ _ G E (length-replicate {A = ℕ} 65 0) in
    let n = cut (move_in a.rows.moved) a.rows.moved.accepted a.told a.slot a.k c.requires.0 _ _ _ G E (length-replicate {A = ℕ} 65 0) in
    let fits = own-fits (move_in a.rows.moved) a.rows.moved.accepted E.0 E.1 a.told E.2 a.slot a.k c.requires.0 in
    let within = in-store a.rows.moved.sizes _ _ a.store.now (own_is (move_in a.rows.moved) a.rows.moved.accepted a.told a.slot a.k c.requires.0 _ _ _ G E.0 E.1 E.2) c.requires.2 fits in
    record { le_slots = (within.0, omega (arith, f, n), c.requires.3); by_index = within.1 }

pub returns : goal.returns
returns c marks found S =
    let a = c.args in
    let G = c.row_slots-count.ensures in
    sums-to a.rows.moved.sizes.p (chip a.store.now marks) _ _ _
    (from-own (move_in a.rows.moved) a.rows.moved.accepted marks found a.told S a.slot a.k c.requires.0
    (asked (move_in a.rows.moved) a.rows.moved.accepted a.told a.slot a.k c.requires.0 _ _ _ G marks found S c.has_slot.ensures ∙ c.if-has_slot.false))
    (c.sum_to_page.ensures.0 ∙ ap (sum (λ t. part a.rows.moved.sizes.p t a.store.now)) (own_is (move_in a.rows.moved) a.rows.moved.accepted a.told a.slot a.k c.requires.0 _ _ _ G marks found S))
