-- `stored_to_page` leaves the sum of the pages, or zeros where there is none.
use Rattle.flash.proofs.Kit.{rules, ◌≡◌, sym, ap, ◌∙◌, ℕ, arith, length, replicate}
use Rattle.flash.specs.PageSum.{written_bytes}
use Rattle.flash.proofs.TotalLaws.{total-empty, total-sum}
use Rattle.flash.proofs.Written.{written_all}
use Rattle.flash.proofs.totals.stored_to_page.Goals as goal

pub returns-then-is_empty : goal.returns-then-is_empty
returns-then-is_empty c =
    let a = c.args in
    let none : length a.slots.now ≡ 0 = search rules in
    let zeros = c.fill.ensures.after (λ y e. e) ∙ ap (λ (size : ℕ). replicate size 0) c.requires.slots_in_bounds.1 in
    (zeros ∙ sym (total-empty a.p a.store.now a.slots.now none), sym (ap written_bytes zeros ∙ written_all a.p 0 (omega arith)), omega arith)

pub returns : goal.returns
returns c =
    let a = c.args in
    let E = c.sum_to_page.ensures in
    (E.0 ∙ sym (total-sum a.p a.store.now a.slots.now c.requires.by_index (search rules)), E.1, E.2)
