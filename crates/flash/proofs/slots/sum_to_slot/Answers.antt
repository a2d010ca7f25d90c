-- `sum_to_slot` leaves the sum of the pages of all slots in the page of another slot, and counts it: a step's write.
use Rattle.flash.proofs.Kit.{◌≢◌, refl, sym, ap, ◌∙◌, List, ℕ, ◌+◌, ◌*◌, ◌≤◌, arith, ltb, length, take, lt-ltb}
use Rattle.flash.proofs.Kit.{length-take-le, take_all}
use Rattle.flash.specs.Lists.{part, set_part}
use Rattle.flash.specs.PageSum.{◌⊕◌, sum, written_bytes}
use Rattle.flash.specs.inner.Terms.{sum_of, passed}
use Rattle.flash.proofs.Parts.{length_part}
use Rattle.flash.proofs.PassLaws.{length-passed, pass-terms, pass-more}
use Rattle.flash.proofs.SlotLaws.{set_part-self, slot-passed, slot-part, slot-over}
use Rattle.flash.proofs.Written.{written-most}
use Rattle.flash.proofs.slots.sum_to_slot.Goals as goal

pub loop-i-init : goal.loop-i-init
unfolding sum
loop-i-init c = (refl, sym (set_part-self _ _ _), omega arith, refl)

pub sum_within-requires : goal.sum_within-requires
sum_within-requires c =
    let t = c.terms_of-terms in
    let l = c.loop-i in
    let a = c.args in
    let terms = pass-terms a.p a.slots.now l.i t.result l.invariant.2 t.ensures in
    let fit = terms (λ t. t * a.p + a.p ≤ length a.store.now) c.requires.by_index in
    record { each_term = (rw l.invariant.3 fit, terms (λ t. t ≢ a.to) c.requires.by_index_2); p_in_bounds = (omega arith, omega arith) }

pub loop-i-preserved : goal.loop-i-preserved
loop-i-preserved c =
    let sw = c.sum_within in
    let t = c.terms_of-terms in
    let l = c.loop-i in
    let a = c.args in
    let add = ltb 0 l.i in
    let apart = pass-terms a.p a.slots.now l.i t.result l.invariant.2 t.ensures (λ t. t ≢ a.to) c.requires.by_index_2 in
    let more = pass-more a.p a.slots.now l.i t.result l.invariant.2 t.ensures a.store.now c.requires.by_index in
    let summed = slot-passed a.p a.to a.store.now l.store t.result add c.requires.le_slots.2 l.invariant.3 apart l.invariant.1 in
    let over = slot-over a.p a.to a.store.now l.store t.result add c.requires.le_slots.2 l.invariant.3 apart l.invariant.1 in
    let put = ap (part a.p a.to) sw.ensures
    ∙ slot-part a.p a.to a.store.now l.store t.result add c.requires.le_slots.2 l.invariant.3 apart l.invariant.1 in (
      rw (lt-ltb 0 (l.i + 4) (omega arith), put, summed, l.invariant.0) more,
      rw put (sw.ensures ∙ over),
      omega (arith, c.loop-i-test.true),
      omega (arith, sw.auto.store),
    )

pub last_to_slot-requires : goal.last_to_slot-requires
last_to_slot-requires c =
    let t = c.terms_of-terms-2 in
    let l = c.loop-i in
    let a = c.args in
    let terms = pass-terms a.p a.slots.now l.i t.result l.invariant.2 t.ensures in
    (rw l.invariant.3 (terms (λ t. t * a.p + a.p ≤ length a.store.now) c.requires.by_index), terms (λ t. t ≢ a.to) c.requires.by_index_2, omega arith)

pub returns : goal.returns
returns c =
    let last = c.last_to_slot in
    let t = c.terms_of-terms-2 in
    let l = c.loop-i in
    let a = c.args in
    let add = ltb 0 l.i in
    let apart = pass-terms a.p a.slots.now l.i t.result l.invariant.2 t.ensures (λ t. t ≢ a.to) c.requires.by_index_2 in
    let more = pass-more a.p a.slots.now l.i t.result l.invariant.2 t.ensures a.store.now c.requires.by_index in
    let all = take_all (l.i + 4) a.slots.now (omega (arith, c.loop-i-test.false)) in
    let summed = slot-passed a.p a.to a.store.now l.store t.result add c.requires.le_slots.2 l.invariant.3 apart l.invariant.1
    ∙ ap (λ (s : List ℕ). s ⊕ sum_of a.store.now a.p t.result) l.invariant.0
    ∙ more
    ∙ ap (sum (λ t. part a.p t a.store.now)) all in
    let over = slot-over a.p a.to a.store.now l.store t.result add c.requires.le_slots.2 l.invariant.3 apart l.invariant.1 in
    let whole = length_part a.p a.to l.store (omega arith) in
    let size = length-passed l.store a.p t.result add (part a.p a.to l.store) whole in (
      last.ensures.0 ∙ over ∙ ap (set_part a.p a.to a.store.now) summed,
      last.ensures.1 ∙ ap written_bytes summed,
      omega (arith, last.ensures.1, size, whole, written-most (passed l.store a.p t.result add (part a.p a.to l.store))),
    )
