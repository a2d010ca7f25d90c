-- Demand 3: every list of events keeps what is kept, so the claim holds at each of its moments.
use Rattle.flash.proofs.Kit.{◌≡◌, refl, sym, ap, ◌∙◌, subst, ⊎_elim, ◌≢◌, Bool, true, false, cond, true≢false, List, [], ◌∷◌, ◌++◌, map, Option}
use Rattle.flash.proofs.Kit.{none as nothing, some, ℕ, zero, suc, ◌+◌, ◌*◌, ◌≤◌, ◌<◌, zero-mod, arith, eqb, length, eqb-false, ne_eqb}
use Rattle.flash.specs.Lists.{range, count}
use Rattle.flash.specs.Tables.{refusal}
use Rattle.flash.specs.declared.sizes.Sizes.{Sizes}
use Rattle.flash.specs.Geometry.{original_count}
use Rattle.flash.specs.PageSum.{sum}
use Rattle.flash.specs.declared.wear.Wear.{Wear}
use Rattle.flash.specs.Chip.{Chip}
use Rattle.flash.proofs.Bools.{bool_cases}
use Rattle.flash.proofs.Comparisons.{eq-cases}
use Rattle.split.specs.Request.{Request}
use Rattle.method.specs.Move.{Plan, plan, AcceptedMove}
use Rattle.method.specs.Place.{Operation, filled}
use Rattle.method.specs.Step.{operations_from}
use Rattle.method.specs.State.{originals_in}
use Rattle.method.specs.Mend.{Reading, reading}
use Rattle.method.specs.Read.{term_page, stored_slots, read_terms, read_page}
use Rattle.method.specs.Answers.{RunAnswer, run_rows, run_carried_out, steps_taken, run_refused, run_answer, mend_rows, MendAnswer, mended, mend_answer, read_rows, read_gives, read_answer}
use Rattle.method.specs.Runs.{Start}
use Rattle.method.specs.Events.{Call, run, mend, read, CutPoint, Event, History, number_of, mend_steps, steps_of, chip_after, chip_returned, returns_finished, starting, during, after, steps_finished, moments}
use Rattle.method.specs.Demand3.{CutObeys, Allowed, AllAllowed, Keeps, AtEach, Demand3}
use Rattle.method.proofs.states.RunsAddUp.{run-answer, start-accepted, start-stands, start-holds, start-full}
use Rattle.method.proofs.places.Turns.{resumes-begun}
use Rattle.method.proofs.recovery.MarksSeen.{terms-seen, page-seen}
use Rattle.method.proofs.recovery.Moments.{Moment, stands-moment}
use Rattle.method.proofs.demand.KeptByHistories.{within, Kept, keeps}
use Rattle.method.proofs.demand.CallsWithoutSteps.{EventKept, idle}
use Rattle.method.proofs.demand.RunEvents.{run-number, run-kept}
use Rattle.method.proofs.demand.MendEvents.{mend-kept}

-- ---- refused calls leave all as it was
pub run-refused : (R : Request) (chip : Chip) (work : List ℕ) (wear : Wear) (place budget limit : ℕ) → refusal (run_rows R chip work wear place limit) ≢ 0
    → run_answer R chip work wear place budget limit ≡ run_refused (refusal (run_rows R chip work wear place limit)) chip work wear
unfolding run_answer
run-refused R chip work wear place budget limit ne = rw (ne_eqb (refusal (run_rows R chip work wear place limit)) 0 ne)

mended-number : (Z : Sizes) (chip : Chip) (wear : Wear) (found : Reading) → (mended Z chip wear found).number ≡ 0
unfolding mended
mended-number Z chip wear found = go found.to_erase
  where
    go : (to_erase : Option ℕ) → (mended Z chip wear (record { place = found.place; to_erase = to_erase })).number ≡ 0
    go nothing = refl
    go (some b) = refl

pub mend-refused : (Z : Sizes) (chip : Chip) (wear : Wear) → (mend_answer Z chip wear).number ≢ 0
    → mend_answer Z chip wear ≡ record { number = refusal (mend_rows Z chip); place = 0; erases = 0; chip = chip; wear = wear }
unfolding mend_answer
mend-refused Z chip wear ne = ⊎_elim
    (λ (q : eqb number 0 ≡ true). go q (reading Z chip.marks) refl)
    (λ (q : eqb number 0 ≡ false). rw q)
    (bool_cases (eqb number 0))
  where
    number : ℕ
    number = refusal (mend_rows Z chip)

    go : eqb number 0 ≡ true → (found : Option Reading) → reading Z chip.marks ≡ found
        → mend_answer Z chip wear ≡ record { number = number; place = 0; erases = 0; chip = chip; wear = wear }
    go q nothing e = rw (q, e)
    go q (some found) e = absurd (ne (rw (q, e) (mended-number Z chip wear found)))

-- ---- one event
module _ (R : Request) (chip₀ : Chip) (S : Start R chip₀) where
  abbrev X : Plan
  X = plan R

  A : AcceptedMove X.move
  A = start-accepted R chip₀ S

  abbrev originals : List ℕ
  originals = originals_in R.sizes chip₀

  module _ (h : History) (K : Kept X originals h) where
    -- the event of a call, cut where it may be
    abbrev EventsKept : Call → Type 0
    EventsKept call = (cut : CutPoint) → CutObeys call cut h.chip → EventKept X originals h call cut

    run-idle : (N : Request) (work : List ℕ) (wear : Wear) (place budget limit : ℕ) → number_of (run N work wear place budget limit) h.chip ≢ 0 → EventsKept (run N work wear place budget limit)
    unfolding number_of steps_of chip_after chip_returned returns_finished run_refused run_carried_out
    run-idle N work wear place budget limit ne =
        let refused : refusal (run_rows N h.chip work wear place limit) ≢ 0 = λ e. ne (ap (λ (a : RunAnswer). a.number) (run-answer N h.chip work wear place budget limit e)) in
        let no_steps : List Operation = operations_from N.sizes place (steps_taken N.sizes place budget) in
        idle X originals h K (run N work wear place budget limit)
        (ap (λ (b : Bool). cond b no_steps []) (ne_eqb (run_answer N h.chip work wear place budget limit).number 0 ne))
        (ap (λ (a : RunAnswer). a.chip) (run-refused N h.chip work wear place 0 limit refused))
        (ap (λ (a : RunAnswer). a.chip) (run-refused N h.chip work wear place budget limit refused))
        (ap (λ (a : RunAnswer). eqb a.finished 1) (run-refused N h.chip work wear place budget limit refused))

    mend-idle : (Z : Sizes) (wear : Wear) → number_of (mend Z wear) h.chip ≢ 0 → EventsKept (mend Z wear)
    unfolding number_of steps_of chip_after chip_returned returns_finished
    mend-idle Z wear ne =
        idle X originals h K (mend Z wear) (ap (λ (b : Bool). cond b (mend_steps (reading Z h.chip.marks)) []) (ne_eqb (mend_answer Z h.chip wear).number 0 ne)) refl
        (ap (λ (a : MendAnswer). a.chip) (mend-refused Z h.chip wear ne)) refl

    read-idle : (N : Request) (work : List ℕ) (k : ℕ) → EventsKept (read N work k)
    unfolding steps_of chip_after chip_returned returns_finished
    read-idle N work k = idle X originals h K (read N work k) refl refl refl refl

    run-shared : (N : Request) → plan N ≡ X → (work : List ℕ) (wear : Wear) (place budget limit : ℕ)
        → number_of (run N work wear place budget limit) h.chip ≡ 0 → h.unmended ≡ false → EventsKept (run N work wear place budget limit)
    unfolding number_of
    run-shared N e work wear place budget limit ok mended cut obeys =
        let full = subst (λ (X : Plan). length originals ≡ original_count X.move.sizes * X.move.sizes.p) (sym e) (start-full R chip₀ S) in
        let kept = subst (λ (X : Plan). Kept X originals h) (sym e) K in
        let number = sym (run-number N h.chip work wear place budget limit) ∙ ok in
        subst (λ (X : Plan). EventKept X originals h (run N work wear place budget limit) cut) e
        (run-kept N (subst (λ (X : Plan). AcceptedMove X.move) (sym e) A) originals full h kept work wear place budget limit number mended cut obeys)

    mend-shared : (Z : Sizes) (wear : Wear) → Z ≡ R.sizes → EventsKept (mend Z wear)
    mend-shared Z wear e = subst (λ (Z : Sizes). EventsKept (mend Z wear)) (sym e) (mend-kept X A originals h K wear)

    pub event-kept : (call : Call) (cut : CutPoint) → Allowed R (record { call = call; cut = cut }) h → EventKept X originals h call cut
    event-kept (run N work wear place budget limit) cut O = ⊎_elim
        (λ (ok : number_of (run N work wear place budget limit) h.chip ≡ 0). run-shared N (O.shares ok) work wear place budget limit ok (O.mended ok) cut O.cut-obeys)
        (λ ne. run-idle N work wear place budget limit ne cut O.cut-obeys)
        (eq-cases (number_of (run N work wear place budget limit) h.chip) 0)
    event-kept (mend Z wear) cut O = ⊎_elim
        (λ (ok : number_of (mend Z wear) h.chip ≡ 0). mend-shared Z wear (O.shares ok) cut O.cut-obeys)
        (λ ne. mend-idle Z wear ne cut O.cut-obeys)
        (eq-cases (number_of (mend Z wear) h.chip) 0)
    event-kept (read N work k) cut O = read-idle N work k cut O.cut-obeys

  -- ---- lists of events
  each_append : (P : History → Type 0) (xs ys : List History) → AtEach P xs → AtEach P ys → AtEach P (xs ++ ys)
  unfolding AtEach
  each_append P [] ys a b = b
  each_append P (x ∷ xs) ys a b = (a.0, each_append P xs ys a.1 b)

  each_map : (P : History → Type 0) (f : ℕ → History) (start count : ℕ) → ((i : ℕ) → start ≤ i → i < start + count → P (f i)) → AtEach P (map f (range start count))
  unfolding AtEach range
  each_map P f start zero p = tt
  each_map P f start (suc count) p = (p start (omega arith) (omega arith), each_map P f (suc start) count (λ i a b. p i (omega arith) (omega arith)))

  -- what follows from what is kept holds at each moment
  pub along : (Q : History → Type 0) → ((h : History) → Kept X originals h → Q h) → (events : List Event) (h : History) → Kept X originals h → AllAllowed R events h
      → AtEach Q (moments events h)
  unfolding AllAllowed AtEach moments after
  along Q f [] h K O = (f h K, tt)
  along Q f (event ∷ events) h K O =
      let E = event-kept h K event.call event.cut O.0 in
      each_append Q (map (during h event.call) (range 0 (suc (steps_finished h event.call event.cut)))) (moments events (after event h))
      (each_map Q (during h event.call) 0 (suc (steps_finished h event.call event.cut)) (λ i a b. f (during h event.call i) (E.inside i (omega arith))))
      (along Q f events (after event h) E.after O.1)

  -- ---- the start
  pub started : Kept X originals (starting chip₀)
  unfolding starting filled count
  started = record {
    place = 0;
    moment = subst (Moment R.sizes chip₀.marks) (resumes-begun R.sizes 0 (zero-mod (R.sizes.m + 1))) (stands-moment R.sizes chip₀ 0 (start-stands R chip₀ S));
    store_length = S.store_length;
    holds = start-holds R chip₀ S;
    bounded = within (omega arith);
    ended = λ e. absurd (true≢false (sym e));
    fresh = λ c m. record { taken = 0; stands = start-stands R chip₀ S; done = refl };
  }

-- ---- equal marks
read_answer_lem : (R : Request) (chip : Chip) (work : List ℕ) (k : ℕ) → (read_answer R chip work k).number ≡ 0
    → read_answer R chip work k ≡ read_gives (length (stored_slots (read_terms (plan R) chip.marks k))) (read_page (plan R) chip k)
unfolding read_answer
read_answer_lem R chip work k e = ⊎_elim
    (λ (q : eqb (refusal (read_rows R chip work k)) 0 ≡ true). rw (q, terms-seen (plan R) chip.marks k, page-seen (plan R) chip k))
    (λ (q : eqb (refusal (read_rows R chip work k)) 0 ≡ false). absurd (eqb-false _ 0 q (rw q at e)))
    (bool_cases (eqb (refusal (read_rows R chip work k)) 0))

by-marks : (R : Request) (marks : List ℕ) (k : ℕ) (chip : Chip) → chip.marks ≡ marks → (work : List ℕ) → (read_answer R chip work k).number ≡ 0
    → read_answer R chip work k ≡ read_gives (length (stored_slots (read_terms (plan R) marks k))) (sum (term_page R.sizes.p chip) (read_terms (plan R) marks k))
unfolding read_page
by-marks R marks k chip same work e = rw (← same) (read_answer_lem R chip work k e)

pub demand-3 : Demand3
demand-3 = record {
  kept = λ R chip₀ S events O. along R chip₀ S (Keeps R chip₀) (keeps R chip₀ S) events (starting chip₀) (started R chip₀ S) O;
  same-slots = λ R marks k. (read_terms (plan R) marks k, by-marks R marks k);
}
