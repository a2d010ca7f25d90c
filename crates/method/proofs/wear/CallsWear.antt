-- What a call that returns adds to the counters: its steps, and no more.
use Rattle.flash.proofs.Kit.{◌≡◌, refl, sym, ap, ◌∙◌, ⊎_elim, ◌≢◌, Bool, true, false, cond, Option, none, some, List, [], ◌∷◌, ℕ, zero, suc, ◌+◌, ◌≤◌}
use Rattle.flash.proofs.Kit.{◌<◌, arith, eqb, eqb-true, eqb-false, ne_eqb, not-false}
use Rattle.flash.specs.Lists.{count}
use Rattle.flash.specs.Tables.{refusal}
use Rattle.flash.specs.declared.sizes.Sizes.{Sizes}
use Rattle.flash.specs.Geometry.{Bounds, in_range}
use Rattle.flash.specs.Chip.{Chip}
use Rattle.flash.specs.declared.wear.Wear.{Wear}
use Rattle.flash.specs.Wear.{counter_count}
use Rattle.flash.proofs.Bools.{bool_cases}
use Rattle.flash.proofs.Comparisons.{eq-cases}
use Rattle.flash.proofs.Bounds.{in-range}
use Rattle.flash.proofs.Tables.{refusal-zero}
use Rattle.split.specs.Request.{Request}
use Rattle.method.specs.Place.{Operation, erase, operation_at, pass_at, last_place}
use Rattle.method.specs.Step.{is_erase, operations_from}
use Rattle.method.specs.Mend.{Reading, reading}
use Rattle.method.specs.Worn.{worn_once, worn_by}
use Rattle.method.specs.Answers.{RunAnswer, run_rows, steps_taken, run_carried_out, run_refused, run_answer, mend_rows, MendAnswer, mended, mend_answer}
use Rattle.method.specs.Events.{Call, run, mend, read, number_of, mend_steps, steps_of, wear_given, wear_returned, erases_returned}
use Rattle.method.specs.Claims.{WrittenNext, ErasesNext}
use Rattle.method.proofs.basics.AcceptedCalls.{run-taken}
use Rattle.method.proofs.places.StepsAtPlaces.{filling-in}
use Rattle.method.proofs.places.PagesHeld.{Change, by-write, by-erase, change}
use Rattle.method.proofs.places.PagesRise.{write-at}
use Rattle.method.proofs.places.Tallies.{operations_from-suc}
use Rattle.method.proofs.states.RunsAddUp.{run-answer, taken_in}
use Rattle.method.proofs.states.RunsCount.{run-counts}
use Rattle.method.proofs.recovery.ErasesNext.{erases-next}
use Rattle.method.proofs.demand.RunEvents.{run-number}
use Rattle.method.proofs.demand.EveryEvent.{run-refused, mend-refused}
use Rattle.method.proofs.wear.EachCounter.{HasCounter, HaveCounters}

pub record Wears (call : Call) (chip : Chip) (kept : Wear) : Type 0 where
  pub worn : wear_returned call chip kept ≡ worn_by (steps_of call chip) (wear_given call kept)
  pub counted : erases_returned call chip ≡ count is_erase (steps_of call chip)
  pub have-counters : HaveCounters (steps_of call chip)
  pub idle : number_of call chip ≢ 0 → steps_of call chip ≡ []

-- ---- a run
module _ (Z : Sizes) (B : Bounds Z) where
  step-counter : (place : ℕ) → Change Z place → HasCounter (operation_at Z place)
  unfolding HasCounter
  step-counter place (by-write room op W) = rw op tt
  step-counter place (by-erase full op E) = rw op (omega (arith, E.block_in, B.n-high))

  steps-counters : (taken place : ℕ) → place + taken ≤ last_place Z → HaveCounters (operations_from Z place taken)
  unfolding HaveCounters operations_from
  steps-counters zero place h = tt
  steps-counters (suc taken) place h =
      rw (operations_from-suc Z place taken (omega arith)) (step-counter place (change Z place (omega arith)), steps-counters taken (suc place) (omega arith))

module _ (R : Request) (chip : Chip) (work : List ℕ) (wear kept : Wear) (place budget limit : ℕ) where
  abbrev call : Call
  call = run R work wear place budget limit

  abbrev answer : RunAnswer
  answer = run_answer R chip work wear place budget limit

  abbrev operations : List Operation
  operations = operations_from R.sizes place (steps_taken R.sizes place budget)

  taken-wears : refusal (run_rows R chip work wear place limit) ≡ 0 → Wears call chip kept
  unfolding steps_of number_of run_carried_out wear_returned wear_given erases_returned
  taken-wears ok =
      let is = run-answer R chip work wear place budget limit ok in
      let steps : steps_of call chip ≡ operations = ap (λ (a : RunAnswer). cond (eqb a.number 0) operations []) is in
      let T = run-taken R chip work wear place limit ok in
      record {
        worn = ap (λ (a : RunAnswer). a.wear) is ∙ ap (λ (o : List Operation). worn_by o wear) (sym steps);
        counted = (run-counts R chip work wear place budget limit ok).erases ∙ ap (count is_erase) (sym steps);
        have-counters = rw steps (steps-counters R.sizes T.accepted.ranges _ place (taken_in R.sizes place budget T.stands.inside));
        idle = λ ne. absurd (ne (ap (λ (a : RunAnswer). a.number) is));
      }

  idle-wears : answer.number ≢ 0 → Wears call chip kept
  unfolding steps_of number_of run_carried_out run_refused wear_returned wear_given erases_returned worn_by count HaveCounters
  idle-wears ne =
      let is = run-refused R chip work wear place budget limit (λ e. ne (ap (λ (a : RunAnswer). a.number) (run-answer R chip work wear place budget limit e))) in
      let steps : steps_of call chip ≡ [] = ap (λ (b : Bool). cond b operations []) (ne_eqb answer.number 0 ne) in
      record {
        worn = ap (λ (a : RunAnswer). a.wear) is ∙ ap (λ (o : List Operation). worn_by o wear) (sym steps);
        counted = ap (λ (a : RunAnswer). a.tally.erases) is ∙ ap (count is_erase) (sym steps);
        have-counters = rw steps tt;
        idle = λ _. steps;
      }

-- ---- mend
-- the block that it erases is one of the store
mended-in : (Z : Sizes) → in_range Z ≡ true → (marks : List ℕ) (place b : ℕ) → reading Z marks ≡ some (record { place = place; to_erase = some b }) → b ≤ Z.n
unfolding ErasesNext WrittenNext
mended-in Z h marks place b e = ⊎_elim
    (λ op. let W = write-at Z place (pass_at Z place) b 0 op in omega (arith, W.stands.block-is, filling-in Z place (omega (arith, W.in-move))))
    (λ last. omega (arith, last.1))
    (erases-next Z h marks place b e)

module _ (Z : Sizes) (chip : Chip) (wear kept : Wear) where
  abbrev mending : Call
  mending = mend Z wear

  abbrev mend-answer : MendAnswer
  mend-answer = mend_answer Z chip wear

  abbrev mend-number : ℕ
  mend-number = refusal (mend_rows Z chip)

  mend-range : mend-number ≡ 0 → in_range Z ≡ true
  unfolding mend_rows
  mend-range e = not-false (in_range Z) (refusal-zero _ _ (omega arith) e).0

  -- the steps of one that returns 0
  mend-steps : (told : Option Reading) → reading Z chip.marks ≡ told → mend-answer.number ≡ 0 → steps_of mending chip ≡ mend_steps told
  unfolding steps_of number_of
  mend-steps told e ok = ap (λ (x : ℕ). cond (eqb x 0) (mend_steps (reading Z chip.marks)) []) ok ∙ ap mend_steps e

  -- what it returns, and its steps
  by_answer : (a : MendAnswer) (steps : List Operation) → mend-answer ≡ a → steps_of mending chip ≡ steps → a.wear ≡ worn_by steps wear → a.erases ≡ count is_erase steps
      → HaveCounters steps → (a.number ≢ 0 → steps ≡ []) → Wears mending chip kept
  unfolding number_of wear_returned wear_given erases_returned
  by_answer a steps e f worn counted have idle = record {
    worn = ap (λ (x : MendAnswer). x.wear) e ∙ worn ∙ ap (λ (o : List Operation). worn_by o wear) (sym f);
    counted = ap (λ (x : MendAnswer). x.erases) e ∙ counted ∙ ap (count is_erase) (sym f);
    have-counters = rw f have;
    idle = λ ne. f ∙ idle (λ z. ne (ap (λ (x : MendAnswer). x.number) e ∙ z));
  }

  abbrev ToldWears : Option Reading → Type 0
  ToldWears told = reading Z chip.marks ≡ told → mend-answer.number ≡ 0 → Wears mending chip kept

  answered : eqb mend-number 0 ≡ true → (found : Reading) → reading Z chip.marks ≡ some found → mend-answer ≡ mended Z chip wear found
  unfolding mend_answer
  answered q found e = rw (q, e)

  found-wears : eqb mend-number 0 ≡ true → (place : ℕ) (to_erase : Option ℕ) → ToldWears (some (record { place = place; to_erase = to_erase }))
  unfolding mend_steps mended worn_by worn_once count is_erase HaveCounters HasCounter
  found-wears q place none e ok = by_answer _ [] (answered q _ e) (mend-steps _ e ok) refl refl tt (λ _. refl)
  found-wears q place (some b) e ok =
      let ranges = mend-range (eqb-true mend-number 0 q) in
      let low : b < counter_count = omega (arith, mended-in Z ranges chip.marks place b e, (in-range Z ranges).n-high) in
      by_answer _ (erase b ∷ []) (answered q _ e) (mend-steps _ e ok) refl refl (low, tt) (λ ne. absurd (ne refl))

  told-wears : eqb mend-number 0 ≡ true → (told : Option Reading) → ToldWears told
  unfolding mend_steps mend_answer worn_by count HaveCounters
  told-wears q none e ok =
      by_answer (record { number = mend-number; place = 0; erases = 0; chip = chip; wear = wear }) [] (rw (q, e)) (mend-steps _ e ok) refl refl tt (λ _. refl)
  told-wears q (some found) e ok = found-wears q found.place found.to_erase e ok

  mend-wears : mend-answer.number ≡ 0 → Wears mending chip kept
  unfolding mend_answer
  mend-wears ok = ⊎_elim
      (λ (q : eqb mend-number 0 ≡ true). told-wears q (reading Z chip.marks) refl ok)
      (λ (q : eqb mend-number 0 ≡ false). absurd (eqb-false mend-number 0 q (rw q at ok)))
      (bool_cases (eqb mend-number 0))

  mend-idle : mend-answer.number ≢ 0 → Wears mending chip kept
  unfolding steps_of number_of worn_by count HaveCounters
  mend-idle ne =
      by_answer _ [] (mend-refused Z chip wear ne)
      (ap (λ (b : Bool). cond b (mend_steps (reading Z chip.marks)) []) (ne_eqb mend-answer.number 0 ne)) refl refl tt (λ _. refl)

-- ---- every call
pub every_call : (call : Call) (chip : Chip) (kept : Wear) → Wears call chip kept
unfolding number_of steps_of wear_returned wear_given erases_returned worn_by count HaveCounters
every_call (run R work wear place budget limit) chip kept = ⊎_elim
    (λ (ok : (run_answer R chip work wear place budget limit).number ≡ 0).
    taken-wears R chip work wear kept place budget limit (sym (run-number R chip work wear place budget limit) ∙ ok))
    (λ (ne : (run_answer R chip work wear place budget limit).number ≢ 0). idle-wears R chip work wear kept place budget limit ne)
    (eq-cases (run_answer R chip work wear place budget limit).number 0)
every_call (mend Z wear) chip kept = ⊎_elim
    (λ (ok : (mend_answer Z chip wear).number ≡ 0). mend-wears Z chip wear kept ok)
    (λ (ne : (mend_answer Z chip wear).number ≢ 0). mend-idle Z chip wear kept ne)
    (eq-cases (mend_answer Z chip wear).number 0)
every_call (read R work k) chip kept = record { worn = refl; counted = refl; have-counters = tt; idle = λ _. refl }
