-- The counters over a call, and over a list of calls with cuts.
use Rattle.flash.proofs.Kit.{◌≡◌, refl, sym, ap, ap₂, ◌∙◌, ⊎_elim, true, false, cond, List, [], ◌∷◌, ℕ, ◌+◌}
use Rattle.flash.specs.Lists.{count}
use Rattle.flash.specs.Chip.{Chip}
use Rattle.flash.specs.declared.wear.Wear.{Wear}
use Rattle.flash.proofs.Bools.{bool_cases}
use Rattle.flash.proofs.Searches.{count-append}
use Rattle.method.specs.Place.{Operation}
use Rattle.method.specs.Step.{is_erase}
use Rattle.method.specs.Worn.{worn_by}
use Rattle.method.specs.Events.{Call, Event, History, steps_of, after, returns, wear_given, erases_returned, wear_after, wear_at_end}
use Rattle.method.specs.Events.{erases_reported, operations_reported}
use Rattle.method.specs.WearCounts.{Counters, CallWears, Carried, ListWears, WearCounts}
use Rattle.method.proofs.wear.WornLaws.{worn-append}
use Rattle.method.proofs.wear.EachCounter.{each-worn, worn-up, HaveCounters, counters-append, total-worn}
use Rattle.method.proofs.wear.CallsWear.{every_call}
use Rattle.method.proofs.wear.WornOut.{worn-out}

-- ---- a call that returns
call-wears : (call : Call) (chip : Chip) (kept : Wear) → Counters (wear_given call kept) → CallWears call chip kept
unfolding worn_by
call-wears call chip kept C =
    let W = every_call call chip kept in
    let steps : List Operation = steps_of call chip in
    let given : Wear = wear_given call kept in
    record {
      each = λ b h. rw W.worn (each-worn steps given C b h);
      never-falls = λ b h. rw W.worn (worn-up steps given C b h);
      together = λ ends. rw (W.worn, W.counted) (total-worn steps given C W.have-counters (rw W.worn at ends));
      refused = λ ne. W.worn ∙ ap (λ (o : List Operation). worn_by o given) (W.idle ne);
    }

-- ---- a list of calls: the operations that are reported, and no others, are in the record
pub record Reported (kept end : Wear) (erases : ℕ) (operations : List Operation) : Type 0 where
  pub worn : end ≡ worn_by operations kept
  pub counted : erases ≡ count is_erase operations
  pub have-counters : HaveCounters operations

one-reported : (event : Event) (h : History) (kept : Wear) → wear_given event.call kept ≡ kept
    → Reported kept (wear_after event h kept) (cond (returns event.cut) (erases_returned event.call h.chip) 0) (cond (returns event.cut) (steps_of event.call h.chip) [])
unfolding wear_after worn_by count HaveCounters
one-reported event h kept same =
    let W = every_call event.call h.chip kept in
    ⊎_elim
    (λ (q : returns event.cut ≡ true). rw q (record {
      worn = W.worn ∙ ap (worn_by (steps_of event.call h.chip)) same;
      counted = W.counted;
      have-counters = W.have-counters;
    }))
    (λ (q : returns event.cut ≡ false). rw q (record { worn = refl; counted = refl; have-counters = tt }))
    (bool_cases (returns event.cut))

pub all-reported : (events : List Event) (h : History) (kept : Wear) → Carried events h kept
    → Reported kept (wear_at_end events h kept) (erases_reported events h) (operations_reported events h)
unfolding Carried wear_at_end erases_reported operations_reported worn_by count HaveCounters
all-reported [] h kept C = record { worn = refl; counted = refl; have-counters = tt }
all-reported (event ∷ events) h kept C =
    let one = one-reported event h kept C.0 in
    let rest = all-reported events (after event h) (wear_after event h kept) C.1 in
    let first : List Operation = cond (returns event.cut) (steps_of event.call h.chip) [] in
    let others : List Operation = operations_reported events (after event h) in
    record {
      worn = rest.worn ∙ ap (worn_by others) one.worn ∙ sym (worn-append first others kept);
      counted = ap₂ ◌+◌ one.counted rest.counted ∙ sym (count-append is_erase first others);
      have-counters = counters-append first others one.have-counters rest.have-counters;
    }

list-wears : (events : List Event) (h : History) (kept : Wear) → Counters kept → Carried events h kept → ListWears events h kept
list-wears events h kept C carried =
    let R = all-reported events h kept carried in
    let operations : List Operation = operations_reported events h in
    record {
      each = λ b l. rw R.worn (each-worn operations kept C b l);
      never-falls = λ b l. rw R.worn (worn-up operations kept C b l);
      together = λ ends. rw (R.worn, R.counted) (total-worn operations kept C R.have-counters (rw R.worn at ends));
    }

pub wear-counts : WearCounts
wear-counts = record { call-wears = call-wears; list-wears = list-wears; worn-out = worn-out }
