-- A run that is not refused keeps what is kept: after each of its steps, once it has returned, and where it is cut.
use Rattle.flash.proofs.Kit.{◌≡◌, refl, sym, ap, ◌∙◌, subst, ⊎_elim, true, false, cond, true≢false, List, [], ◌++◌, ℕ, suc, ◌+◌, ◌-◌, ◌*◌, ◌≤◌}
use Rattle.flash.proofs.Kit.{◌<◌, min, div-add-mod', arith, eqb, length, get_or, take, drop, length-take, length-drop, take-add, take-take, get_or-take}
use Rattle.flash.proofs.Kit.{get_or-drop, eqb-true}
use Rattle.flash.specs.Lists.{count}
use Rattle.flash.specs.Tables.{refusal}
use Rattle.flash.specs.declared.sizes.Sizes.{Sizes}
use Rattle.flash.specs.Geometry.{original_count}
use Rattle.flash.specs.declared.wear.Wear.{Wear}
use Rattle.flash.specs.Chip.{Chip}
use Rattle.flash.proofs.Bools.{bool_cases, never_both, or_cases}
use Rattle.flash.proofs.Bounds.{range-in}
use Rattle.flash.proofs.Searches.{count-append}
use Rattle.split.specs.Request.{Request}
use Rattle.method.specs.Move.{Plan, move, plan, AcceptedMove}
use Rattle.method.specs.Place.{Operation, done, operations, operation_at, last_place, filled}
use Rattle.method.specs.Step.{Running, steps, is_erase, operations_from}
use Rattle.method.specs.Cut.{CutInside}
use Rattle.method.specs.Worn.{worn_by}
use Rattle.method.specs.Answers.{RunAnswer, run_rows, run_carried_out, steps_taken, run_refused, run_answer}
use Rattle.method.specs.Events.{Call, run, CutPoint, uncut, between, inside, History, number_of, steps_of, chip_after, chip_returned, returns_finished, is_mend, during, returned, cut_short, after_call, steps_finished, sizes_given}
use Rattle.method.specs.Demand3.{CutObeys}
use Rattle.method.specs.Claims.{StepsCounted, PlacesDiffer}
use Rattle.method.proofs.basics.AcceptedCalls.{StandsAt, RunTaken, run-taken}
use Rattle.method.proofs.basics.MoveShape.{Holding}
use Rattle.method.proofs.places.StepsCounted.{steps-counted}
use Rattle.method.proofs.places.PlacesDiffer.{places-differ}
use Rattle.method.proofs.places.Tallies.{erases-in}
use Rattle.method.proofs.states.StepsKeepPages.{steps-hold}
use Rattle.method.proofs.states.RunsAddUp.{run-answer, still-taken}
use Rattle.method.proofs.places.Turns.{turn, turn_last, turn-writes, turn-erases, turn-resumes, resumes_at, resumes-there, resumes-last}
use Rattle.method.proofs.recovery.Moments.{Moment, stands-moment}
use Rattle.method.proofs.recovery.MendFinds.{moment-unique}
use Rattle.method.proofs.recovery.MarksFade.{cut-fades, holding-fades}
use Rattle.method.proofs.recovery.CutsLeave.{AfterCut, in-write, in-erase, torn-erase, after-cut}
use Rattle.method.proofs.demand.KeptByHistories.{Bounded, within, once_more, Fresh, Kept}
use Rattle.method.proofs.demand.CallsWithoutSteps.{EventKept}

-- the number that run returns is that of its table
pub run-number : (R : Request) (chip : Chip) (work : List ℕ) (wear : Wear) (place budget limit : ℕ)
    → (run_answer R chip work wear place budget limit).number ≡ refusal (run_rows R chip work wear place limit)
unfolding run_answer run_carried_out run_refused
run-number R chip work wear place budget limit = ⊎_elim
    (λ (q : eqb number 0 ≡ true). rw q (sym (eqb-true number 0 q)))
    (λ (q : eqb number 0 ≡ false). rw q)
    (bool_cases (eqb number 0))
  where
    number : ℕ
    number = refusal (run_rows R chip work wear place limit)

module _ (R : Request) (A : AcceptedMove (move R)) (originals : List ℕ) (full : length originals ≡ original_count R.sizes * R.sizes.p)
    (h : History) (K : Kept (plan R) originals h) (work : List ℕ) (wear : Wear) (place budget limit : ℕ)
    (ok : refusal (run_rows R h.chip work wear place limit) ≡ 0) (mended : h.unmended ≡ false) where
  abbrev X : Plan
  X = plan R

  abbrev Z : Sizes
  Z = R.sizes

  abbrev call : Call
  call = run R work wear place budget limit

  abbrev total : ℕ
  total = steps_taken Z place budget

  T : RunTaken R h.chip work wear place limit
  T = run-taken R h.chip work wear place limit ok

  total-in : place + total ≤ last_place Z
  unfolding steps_taken
  total-in = omega (arith, T.stands.inside)

  abbrev start : Running
  start = record { chip = h.chip; work = work }

  -- ---- the steps
  steps-are : steps_of call h.chip ≡ operations_from Z place total
  unfolding steps_of number_of run_carried_out
  steps-are =
      ap (λ (a : RunAnswer). cond (eqb a.number 0) (operations_from Z place total) []) (run-answer R h.chip work wear place budget limit ok)

  chip-after : (i : ℕ) → i ≤ total → chip_after call h.chip i ≡ (steps X i place start).chip
  unfolding chip_after run_carried_out steps_taken
  chip-after i l =
      let all : min i (last_place Z - place) ≡ i = omega (arith, total-in) in
      ap (λ (a : RunAnswer). a.chip) (run-answer R h.chip work wear place i limit ok) ∙ ap (λ (x : ℕ). (steps X x place start).chip) all

  some-steps : (i : ℕ) → i ≤ total → take i (operations_from Z place total) ≡ operations_from Z place i
  unfolding operations_from
  some-steps i l = take-take i total (drop place (operations Z)) l

  steps-length : length (operations_from Z place total) ≡ total
  unfolding operations_from StepsCounted
  steps-length =
      length-take total (drop place (operations Z)) ∙ omega (arith, length-drop place (operations Z), steps-counted Z, total-in)

  -- ---- where the move is
  here : K.place ≡ resumes_at Z place
  here = moment-unique Z A.ranges h.chip.marks K.place (resumes_at Z place) K.moment (stands-moment Z h.chip place T.stands)

  few : count is_erase h.begun ≤ turn Z place + h.mends
  few = go K.bounded
    where
      at : turn Z K.place ≡ turn Z place
      at = ap (turn Z) here ∙ turn-resumes Z place

      go : Bounded X h K.place → count is_erase h.begun ≤ turn Z place + h.mends
      go (within b) = omega (arith, at)
      go (once_more u k b) = absurd (true≢false (sym u ∙ mended))

  erases-to : (i : ℕ) → i ≤ total → count is_erase (h.begun ++ operations_from Z place i) ≤ turn Z (place + i) + h.mends
  erases-to i l =
      omega (arith, few, count-append is_erase h.begun (operations_from Z place i), erases-in Z i place (omega (arith, total-in)))

  -- once the finish was reported the move is over, and no step is left
  over : h.finished ≡ true → place ≡ last_place Z
  unfolding last_place
  over e =
      let at : turn Z place ≡ turn Z (last_place Z) = sym (turn-resumes Z place) ∙ ap (turn Z) (sym here ∙ K.ended e) in
      let last : turn Z (last_place Z) ≡ 2 * Z.n = turn_last Z in
      omega (arith, T.stands.inside, div-add-mod' place (Z.m + 1), ap (λ (x : ℕ). x * (Z.m + 1)) (at ∙ last))

  module _ (i : ℕ) (l : i ≤ total) where
    abbrev now : Chip
    now = (steps X i place start).chip

    S : RunTaken R now (steps X i place start).work (worn_by (operations_from Z place i) wear) (place + i) limit
    S = still-taken R h.chip work wear place i limit (omega (arith, total-in)) T

    now-holds : Holding X originals now
    now-holds =
        steps-hold X A originals full i place start (omega (arith, total-in)) (record { lent = T.lent; stands = T.stands }) K.holds

    -- with no cut and no mend the steps from place 0 on were taken
    now-fresh : Fresh X h → (g : History) → g.chip ≡ now → g.begun ≡ h.begun ++ operations_from Z place i → Fresh X g
    unfolding operations_from PlacesDiffer
    now-fresh F g c b =
        let same : F.taken ≡ place = places-differ Z (range-in Z A.ranges) F.taken place F.stands.inside T.stands.inside (sym F.stands.marks ∙ T.stands.marks) in
        record {
          taken = place + i;
          stands = subst (λ (x : Chip). StandsAt Z x (place + i)) (sym c) S.stands;
          done = b ∙ ap (λ (o : List Operation). o ++ take i (drop place (operations Z))) (F.done ∙ ap (λ (x : ℕ). take x (operations Z)) same)
              ∙ sym (take-add place i (operations Z));
        }

    -- a history of this run, with i steps finished
    kept_at : (g : History) → g.chip ≡ now → g.begun ≡ h.begun ++ operations_from Z place i → g.mends ≡ h.mends → (g.cuts ≡ 0 → h.cuts ≡ 0)
        → (g.finished ≡ true → resumes_at Z (place + i) ≡ last_place Z) → Kept X originals g
    kept_at g c b m cuts ended = record {
      place = resumes_at Z (place + i);
      moment = subst (λ (x : Chip). Moment Z x.marks (resumes_at Z (place + i))) (sym c) (stands-moment Z now (place + i) S.stands);
      store_length = ap (λ (x : Chip). length x.store) c ∙ S.lent.store_length;
      holds = subst (Holding X originals) (sym c) now-holds;
      bounded = within (rw (b, m, turn-resumes Z (place + i)) (erases-to i l));
      ended = ended;
      fresh = λ z y. now-fresh (K.fresh (cuts z) (sym m ∙ y)) g c b;
    }

    -- what h reported stays true: no step is left then
    still-over : h.finished ≡ true → resumes_at Z (place + i) ≡ last_place Z
    still-over e =
        let p = over e in
        let z : place + i ≡ last_place Z = omega (arith, total-in) in
        ap (resumes_at Z) z ∙ resumes-last Z

  -- ---- the event
  begun_to : (i : ℕ) → i ≤ total → h.begun ++ take i (steps_of call h.chip) ≡ h.begun ++ operations_from Z place i
  begun_to i l = ap (λ (o : List Operation). h.begun ++ o) (ap (take i) steps-are ∙ some-steps i l)

  steps-count : length (steps_of call h.chip) ≡ total
  steps-count = ap length steps-are ∙ steps-length

  during-kept : (i : ℕ) → i ≤ total → Kept X originals (during h call i)
  unfolding during is_mend
  during-kept i l = kept_at i l (during h call i) (chip-after i l) (begun_to i l) refl (λ e. e) (still-over i l)

  returned-kept : Kept X originals (returned h call)
  unfolding returned is_mend chip_returned returns_finished run_carried_out
  returned-kept =
      kept_at total (omega arith) (returned h call)
      (ap (λ (a : RunAnswer). a.chip) (run-answer R h.chip work wear place budget limit ok))
      (ap (λ (o : List Operation). h.begun ++ o) steps-are)
      refl (λ e. e) (λ e. ⊎_elim (still-over total (omega arith)) (λ f. ap (resumes_at Z) (reported f) ∙ resumes-last Z) (or_cases h.finished _ e))
    where
      told : eqb (place + total) (last_place Z) ≡ false → eqb (run_answer R h.chip work wear place budget limit).finished 1 ≡ false
      told q = ap (λ (a : RunAnswer). eqb a.finished 1) (run-answer R h.chip work wear place budget limit ok) ∙ rw q

      reported : eqb (run_answer R h.chip work wear place budget limit).finished 1 ≡ true → place + total ≡ last_place Z
      reported e = ⊎_elim (eqb-true _ _) (λ q. absurd (never_both e (told q))) (bool_cases (eqb (place + total) (last_place Z)))

  between-kept : (i : ℕ) → i ≤ total → Kept X originals (cut_short h call i (chip_after call h.chip i))
  unfolding cut_short is_mend
  between-kept i l =
      kept_at i l (cut_short h call i (chip_after call h.chip i)) (chip-after i l) (begun_to i l) refl (λ e. absurd (omega arith)) (still-over i l)

  -- cut inside the step after i steps
  module _ (i : ℕ) (l : i < total) (left : Chip) where
    step_is : get_or (steps_of call h.chip) i done ≡ operation_at Z (place + i)
    unfolding operations_from operation_at
    step_is =
        ap (λ (o : List Operation). get_or o i done) steps-are
        ∙ get_or-take total (drop place (operations Z)) i done l ∙ get_or-drop place (operations Z) i done

    module _ (C : CutInside Z (operation_at Z (place + i)) (steps X i place start).chip left) where
      early : place + i < last_place Z
      early = omega (arith, total-in)

      left-holds : Holding X originals left
      left-holds = holding-fades X originals (now i (omega arith)) left (now-holds i (omega arith)) (cut-fades Z (operation_at Z (place + i)) (now i (omega arith)) left C)

      one_more : count is_erase (h.begun ++ operations_from Z place (suc i)) ≤ turn Z (suc (place + i)) + h.mends
      one_more = (let s : place + suc i ≡ suc (place + i) = omega arith in rw s at (erases-to (suc i) l))

      kept-left : (at : ℕ) → Moment Z left.marks at → Bounded X (cut_short h call (suc i) left) at → Kept X originals (cut_short h call (suc i) left)
      unfolding cut_short
      kept-left at m b = record {
        place = at;
        moment = m;
        store_length = C.store_length;
        holds = left-holds;
        bounded = b;
        ended = λ e. absurd (omega (arith, over e, total-in));
        fresh = λ z y. absurd (omega arith);
      }

      inside-kept : Kept X originals (cut_short h call (suc i) left)
      unfolding cut_short is_mend
      inside-kept = go (after-cut Z (place + i) early (now i (omega arith)) left (S i (omega arith)).stands.marks C)
        where
          begun : count is_erase (h.begun ++ take (suc i) (steps_of call h.chip)) ≡ count is_erase (h.begun ++ operations_from Z place (suc i))
          begun = ap (count is_erase) (begun_to (suc i) l)

          go : AfterCut Z (place + i) left.marks → Kept X originals (cut_short h call (suc i) left)
          go (in-write k m) = kept-left (resumes_at Z (place + i)) m (within (omega (arith, begun, one_more, turn-resumes Z (place + i), turn-writes Z (place + i) k)))
          go (in-erase k m) =
              kept-left (resumes_at Z (place + i)) m
              (once_more refl (ap (filled Z) (resumes-there Z (place + i) k) ∙ k) (omega (arith, begun, one_more, turn-resumes Z (place + i), turn-erases Z (place + i) k)))
          go (torn-erase m) = kept-left (suc (place + i)) m (within (omega (arith, begun, one_more)))

  pub run-kept : (cut : CutPoint) → CutObeys call cut h.chip → EventKept X originals h call cut
  unfolding steps_finished after_call sizes_given
  run-kept uncut o = record { inside = λ i l. during-kept i (omega (arith, steps-count)); after = returned-kept }
  run-kept (between f) o = record { inside = λ i l. during-kept i (omega (arith, steps-count)); after = between-kept f (omega (arith, steps-count)) }
  run-kept (inside f left) o =
      let l : f < total = omega (arith, steps-count, o.0) in
      record {
        inside = λ i k. during-kept i (omega arith);
        after = inside-kept f l left (subst (λ (c : Chip). CutInside Z (operation_at Z (place + f)) c left) (chip-after f (omega arith))
            (subst (λ (o : Operation). CutInside Z o (chip_after call h.chip f) left) (step_is f l left) o.1));
      }
