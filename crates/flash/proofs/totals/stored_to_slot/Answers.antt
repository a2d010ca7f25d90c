-- `stored_to_slot` leaves the sum of the pages in the page of a slot, or zeros where there is none.
use Rattle.flash.proofs.Kit.{rules, ◌≡◌, sym, arith, length}
use Rattle.flash.proofs.Parts.{filled-back}
use Rattle.flash.proofs.TotalLaws.{total-empty, total-sum}
use Rattle.flash.proofs.Written.{written_all}
use Rattle.flash.proofs.totals.stored_to_slot.Goals as goal

pub returns-then-is_empty : goal.returns-then-is_empty
returns-then-is_empty c =
    let a = c.args in
    let none : length a.slots.now ≡ 0 = search rules in
    rw (total-empty a.p a.store.now a.slots.now none)
    (filled-back a.p a.to 0 a.store.now _ c.requires.slots_in_bounds.1 (c.fill.ensures.after (λ y e. e)), sym (written_all a.p 0 (omega arith)), omega arith)

pub returns : goal.returns
returns c =
    let a = c.args in
    rw (total-sum a.p a.store.now a.slots.now c.requires.by_index (search rules)) c.sum_to_slot.ensures
