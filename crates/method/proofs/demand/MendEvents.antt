-- A mend with the shared sizes keeps what is kept: before and after its erase, once it has returned, and where it is cut.
use Rattle.flash.proofs.Kit.{◌≡◌, refl, sym, ap, ◌∙◌, subst, true, cond, List, [], ◌∷◌, ◌++◌, or-false, none, some, ℕ, zero, suc, ◌+◌, ◌≤◌, arith}
use Rattle.flash.proofs.Kit.{eqb, length, get_or, take}
use Rattle.flash.specs.Lists.{count}
use Rattle.flash.specs.declared.sizes.Sizes.{Sizes}
use Rattle.flash.specs.declared.wear.Wear.{Wear}
use Rattle.flash.specs.Chip.{Chip}
use Rattle.flash.proofs.Searches.{count-append, count-take}
use Rattle.method.specs.Move.{Plan, AcceptedMove}
use Rattle.method.specs.Place.{Operation, erase, done, filling, filled}
use Rattle.method.specs.Step.{is_erase}
use Rattle.method.specs.Cut.{CutInside}
use Rattle.method.specs.Mend.{Reading, reading}
use Rattle.method.specs.Answers.{MendAnswer, mended, mend_answer}
use Rattle.method.specs.Events.{Call, mend, CutPoint, uncut, between, inside, History, number_of, mend_steps, steps_of, chip_after, chip_returned, returns_finished, is_mend, during, returned, cut_short, after_call, steps_finished, sizes_given}
use Rattle.method.specs.Demand3.{CutObeys}
use Rattle.method.proofs.basics.MoveShape.{Holding}
use Rattle.method.proofs.places.Turns.{turn}
use Rattle.method.proofs.recovery.Moments.{Moment}
use Rattle.method.proofs.recovery.MendFinds.{Finds, torn, full, finds}
use Rattle.method.proofs.recovery.MendAnswers.{Recovered, answers, recovers}
use Rattle.method.proofs.recovery.MarksFade.{cut-fades, holding-fades}
use Rattle.method.proofs.recovery.CutsLeave.{mend-cut}
use Rattle.method.proofs.demand.KeptByHistories.{Bounded, within, once_more, Kept}
use Rattle.method.proofs.demand.CallsWithoutSteps.{EventKept, idle}

module _ (X : Plan) (A : AcceptedMove X.move) (originals : List ℕ) (h : History) (K : Kept X originals h) (wear : Wear) where
  abbrev Z : Sizes
  Z = X.move.sizes

  abbrev call : Call
  call = mend X.move.sizes wear

  abbrev answer : MendAnswer
  answer = mend_answer Z h.chip wear

  R : Recovered Z h.chip K.place answer
  R = recovers Z A.ranges h.chip K.store_length K.place K.moment wear

  steps-are : (found : Reading) → reading Z h.chip.marks ≡ some found → steps_of call h.chip ≡ mend_steps (some found)
  unfolding steps_of number_of
  steps-are found e =
      ap (λ (x : ℕ). cond (eqb x 0) (mend_steps (reading Z h.chip.marks)) []) R.number_is ∙ ap mend_steps e

  -- ---- nothing to erase
  keeps-all : reading Z h.chip.marks ≡ some (record { place = K.place; to_erase = none })
      → (cut : CutPoint) → CutObeys call cut h.chip → EventKept X originals h call cut
  unfolding mend_steps chip_after chip_returned returns_finished mended
  keeps-all e =
      let found : Reading = record { place = K.place; to_erase = none } in
      idle X originals h K call (steps-are found e) refl
      (ap (λ (x : MendAnswer). x.chip) (answers Z A.ranges h.chip K.store_length K.place K.moment wear found e)) refl

  -- ---- a block to erase
  module _ (z : filled Z K.place ≡ 0) (e : reading Z h.chip.marks ≡ some (record { place = K.place; to_erase = some (filling Z K.place) })) where
    one-step : steps_of call h.chip ≡ erase (filling Z K.place) ∷ []
    unfolding mend_steps
    one-step = steps-are (record { place = K.place; to_erase = some (filling Z K.place) }) e

    few : count is_erase h.begun ≤ turn Z K.place + h.mends
    few = go K.bounded
      where
        go : Bounded X h K.place → count is_erase h.begun ≤ turn Z K.place + h.mends
        go (within b) = b
        go (once_more u k b) = absurd (omega (arith, A.ranges.m-low))

    -- whether the erase is begun or not
    begun_to : (i : ℕ) → count is_erase (h.begun ++ take i (steps_of call h.chip)) ≤ turn Z K.place + suc h.mends
    unfolding count is_erase
    begun_to i =
        let steps = steps_of call h.chip in
        omega (arith, few, count-append is_erase h.begun (take i steps), count-take is_erase i steps, ap (count is_erase) one-step)

    -- a history of this mend: the chip still has its moment, and at most this erase was begun
    kept-as : (g : History) → Moment Z g.chip.marks K.place → length g.chip.store ≡ length h.chip.store → Holding X originals g.chip
        → count is_erase g.begun ≤ turn Z K.place + suc h.mends → g.mends ≡ suc h.mends → (g.finished ≡ true → h.finished ≡ true) → Kept X originals g
    kept-as g m s H b n f = record {
      place = K.place;
      moment = m;
      store_length = s ∙ K.store_length;
      holds = H;
      bounded = within (rw n b);
      ended = λ x. K.ended (f x);
      fresh = λ c y. absurd (omega arith);
    }

    mended-holds : Holding X originals answer.chip
    mended-holds = holding-fades X originals h.chip answer.chip K.holds R.fades

    mended-size : length answer.chip.store ≡ length h.chip.store
    mended-size = R.store_length ∙ sym K.store_length

    during-kept : (i : ℕ) → i ≤ 1 → Kept X originals (during h call i)
    unfolding during is_mend chip_after
    during-kept zero l = kept-as (during h call 0) K.moment refl K.holds (begun_to 0) refl (λ f. f)
    during-kept (suc zero) l = kept-as (during h call 1) R.moment mended-size mended-holds (begun_to 1) refl (λ f. f)
    during-kept (suc (suc i)) l = absurd (omega arith)

    between-kept : (i : ℕ) → i ≤ 1 → Kept X originals (cut_short h call i (chip_after call h.chip i))
    unfolding cut_short is_mend chip_after
    between-kept zero l = kept-as (cut_short h call 0 h.chip) K.moment refl K.holds (begun_to 0) refl (λ f. f)
    between-kept (suc zero) l = kept-as (cut_short h call 1 answer.chip) R.moment mended-size mended-holds (begun_to 1) refl (λ f. f)
    between-kept (suc (suc i)) l = absurd (omega arith)

    returned-kept : Kept X originals (returned h call)
    unfolding returned is_mend chip_returned returns_finished
    returned-kept = kept-as (returned h call) R.moment mended-size mended-holds (rw one-step (rw one-step at (begun_to 1))) refl (λ f. rw or-false at f)

    inside-kept : (left : Chip) → CutInside Z (erase (filling Z K.place)) h.chip left → Kept X originals (cut_short h call 1 left)
    unfolding cut_short is_mend
    inside-kept left C =
        kept-as (cut_short h call 1 left) (mend-cut Z h.chip left K.place K.moment z C) (C.store_length ∙ sym K.store_length)
        (holding-fades X originals h.chip left K.holds (cut-fades Z (erase (filling Z K.place)) h.chip left C)) (begun_to 1) refl (λ f. f)

    steps-count : length (steps_of call h.chip) ≡ 1
    steps-count = ap length one-step

    erases-one : (cut : CutPoint) → CutObeys call cut h.chip → EventKept X originals h call cut
    unfolding steps_finished after_call sizes_given chip_after
    erases-one uncut o = record { inside = λ i l. during-kept i (omega (arith, steps-count)); after = returned-kept }
    erases-one (between f) o = record { inside = λ i l. during-kept i (omega (arith, steps-count)); after = between-kept f (omega (arith, steps-count)) }
    erases-one (inside zero left) o = record {
      inside = λ i l. during-kept i (omega arith);
      after = inside-kept left (subst (λ (s : List Operation). CutInside Z (get_or s 0 done) h.chip left) one-step o.1);
    }
    erases-one (inside (suc f) left) o = absurd (omega (arith, steps-count, o.0))

  pub mend-kept : (cut : CutPoint) → CutObeys call cut h.chip → EventKept X originals h call cut
  mend-kept = go (finds Z A.ranges h.chip.marks K.place K.moment)
    where
      go : Finds Z h.chip.marks K.place → (cut : CutPoint) → CutObeys call cut h.chip → EventKept X originals h call cut
      go (torn z S e) = erases-one z e
      go (full k F e) = keeps-all e
