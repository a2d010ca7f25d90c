-- The zero sum has the slot or not; if it has, the other sum goes without it.
use Rattle.flash.proofs.Kit.{◌≡◌, sym, ap, ap₂, ◌∙◌, true, List, ℕ, ◌≤◌, arith, eqb, length, take, length-replicate, length-take-le}
use Rattle.flash.specs.Lists.{any, part}
use Rattle.flash.specs.PageSum.{sum}
use Rattle.flash.specs.Chip.{Chip}
use Rattle.method.specs.Read.{read_slots}
use Rattle.method.specs.Rebuild.{apart}
use Rattle.method.specs.inner.MoveIn.{move_in}
use Rattle.mover.proofs.RebuiltLaws.{sums-to, gives_up, in-store, from-other, from-lost, other_fits}
use Rattle.mover.proofs.rebuild.rebuild_other.Goals as goal

abbrev chip : (store marks : List ℕ) → Chip
chip store marks = record { store = store; marks = marks }

-- the zero sum's slots are the first of an array
cut : (count : ℕ) (slots : List ℕ) → count ≤ 66 → length slots ≡ 66 → length (take count slots) ≡ count
cut count slots few room = length-take-le count slots (omega (arith, few, room))

pub zero_slots-found-requires : goal.zero_slots-found-requires
zero_slots-found-requires c =
    let C = c.requires.5.coded_at in
    (C.low, C.high, length-replicate {A = ℕ} 66 0)

pub slice_bounds-has_slot-end : goal.slice_bounds-has_slot-end
slice_bounds-has_slot-end c = sym (cut c.zero_slots-found.result _ c.zero_slots-found.ensures.0 c.zero_slots-found.ensures.1)

pub returns-then-not-has_slot : goal.returns-then-not-has_slot
returns-then-not-has_slot c marks found C is =
    let a = c.args in
    let L = c.lose.ensures in
    let lacks = ap (any (eqb a.slot)) (sym (c.zero_slots-found.ensures.2 marks found a.k c.requires.0 c.requires.1 C)) ∙ sym c.has_slot.ensures
    ∙ c.if-not-has_slot.true in
    gives_up a.rows.moved.sizes.p (chip a.store.now marks) _ _ _ _
    (from-lost (move_in a.rows.moved) a.rows.moved.accepted marks found a.coded C a.slot a.k c.requires.0 (ap (any (eqb a.slot)) (sym is) ∙ c.requires.5.has-bad) lacks)
    L.0 L.1 c.requires.3

pub slice_bounds-apart_slots-end : goal.slice_bounds-apart_slots-end
slice_bounds-apart_slots-end c = sym (cut c.zero_slots-found.result _ c.zero_slots-found.ensures.0 c.zero_slots-found.ensures.1)

pub apart_slots-all-requires : goal.apart_slots-all-requires
apart_slots-all-requires c =
    let Z = c.zero_slots-found.ensures in
    omega (arith, c.requires.4, Z.0, cut c.zero_slots-found.result _ Z.0 Z.1, length-replicate {A = ℕ} 130 0)

pub sum_to_page-requires : goal.sum_to_page-requires
sum_to_page-requires c =
    let a = c.args in
    let O = c.requires.5 in
    let S = c.apart_slots-all in
    let Z = c.zero_slots-found.ensures in
    let many = cut c.zero_slots-found.result _ Z.0 Z.1 in
    let few : S.result ≤ 130 = omega (arith, S.ensures.1, c.requires.4, Z.0, many) in
    let room : S.result ≤ length S.new.to = omega (arith, S.ensures.1, c.requires.4, Z.0, many, S.auto.to, length-replicate {A = ℕ} 130 0) in
    let other = S.ensures.0 ∙ ap₂ apart O.is (Z.2 O.marks O.found a.k c.requires.0 c.requires.1 O.coded_at) in
    let fits = other_fits (move_in a.rows.moved) a.rows.moved.accepted O.marks O.found a.coded O.coded_at a.slot a.k c.requires.0 in
    let within = in-store a.rows.moved.sizes _ _ a.store.now other c.requires.2 fits in
    record { le_slots = (within.0, omega (arith, few, length-take-le S.result _ room), c.requires.3); by_index = within.1 }

pub returns : goal.returns
returns c marks found C is =
    let a = c.args in
    let M = move_in a.rows.moved in
    let zero = c.zero_slots-found.ensures.2 marks found a.k c.requires.0 c.requires.1 C in
    let other = c.apart_slots-all.ensures.0 ∙ ap₂ apart is zero in
    let has = ap (any (eqb a.slot)) (sym zero) ∙ sym c.has_slot.ensures ∙ c.if-not-has_slot.false in
    sums-to a.rows.moved.sizes.p (chip a.store.now marks) _ _ _
    (from-other M a.rows.moved.accepted marks found a.coded C a.slot a.k c.requires.0 (ap (any (eqb a.slot)) (sym is) ∙ c.requires.5.has-bad) has)
    (c.sum_to_page.ensures.0 ∙ ap (sum (λ t. part a.rows.moved.sizes.p t a.store.now)) other)
