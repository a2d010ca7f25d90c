-- `total_to_slot` inverts the page of the slot where 255s are to be added.
use Rattle.flash.proofs.Kit.{ap, ◌∙◌, true, false, List, ℕ, arith}
use Rattle.flash.specs.Lists.{part, set_part}
use Rattle.flash.specs.PageSum.{written_bytes}
use Rattle.flash.specs.inner.Totals.{total_page}
use Rattle.flash.proofs.Parts.{part-set_part}
use Rattle.flash.proofs.TotalLaws.{total-inverted, total-length, inverted-back, counted}
use Rattle.flash.proofs.Written.{written-most}
use Rattle.flash.proofs.totals.total_to_slot.Goals as goal

pub returns-then-filler : goal.returns-then-filler
returns-then-filler c =
    let a = c.args in
    let stored = c.stored_to_slot-written.ensures.0 in
    let size = total-length a.p a.store.now a.slots.now c.requires.by_index in
    let new = total_page a.p true a.store.now a.slots.now in
    let store = inverted-back a.p a.to a.store.now _ _ _ c.requires.slots_in_bounds.1 (size false) stored c.invert.ensures
    ∙ ap (set_part a.p a.to a.store.now) (total-inverted a.p a.store.now a.slots.now) in
    let bytes = c.count_written.ensures ∙ counted a.p a.to _
    ∙ ap (λ (after : List ℕ). written_bytes (part a.p a.to after)) store
    ∙ ap written_bytes (part-set_part a.p a.to a.store.now new c.requires.slots_in_bounds.1 (size true)) in
    rw c.if-filler.true (store, bytes, omega (arith, bytes, written-most new, size true))

pub returns : goal.returns
returns c = rw c.if-filler.false c.stored_to_slot-written.ensures
