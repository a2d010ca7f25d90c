-- Runs add up, and from rest they lead through the states of the places.
use Rattle.flash.proofs.Kit.{◌≡◌, refl, sym, ap, ap₂, ◌∙◌, subst, true, false, cond, List, ℕ, zero, suc, ◌+◌, ◌*◌, ◌≤◌, ◌<◌, zero-add, add-zero, arith, eqb, length}
use Rattle.flash.proofs.Kit.{get_or}
use Rattle.flash.specs.Lists.{part}
use Rattle.flash.specs.Tables.{refusal}
use Rattle.flash.specs.declared.sizes.Sizes.{Sizes}
use Rattle.flash.specs.Geometry.{slot, slot_of, original_count, work_len}
use Rattle.flash.specs.declared.wear.Wear.{Wear}
use Rattle.flash.specs.Chip.{Chip, page_at, is_blank}
use Rattle.flash.proofs.Bounds.{in-range, slot-in-marks}
use Rattle.split.specs.Request.{Request}
use Rattle.split.specs.Drops.{is_dropped}
use Rattle.split.specs.Answer.{split_answer}
use Rattle.split.proofs.Answers.{passed}
use Rattle.split.proofs.DropLaws.{completed-length}
use Rattle.method.specs.Move.{Plan, move, plan, AcceptedMove}
use Rattle.method.specs.Place.{Pass, write, operation_at, held_mark, last_place}
use Rattle.method.specs.State.{originals_in, counts_as, state_of}
use Rattle.method.specs.Step.{Running, steps, operations_from}
use Rattle.method.specs.Worn.{worn_by, wears_out, is_worn_out}
use Rattle.method.specs.Answers.{RunAnswer, run_rows, steps_taken, run_carried_out, run_answer}
use Rattle.method.specs.Runs.{joined, runs_of_one, RunsAddUp, Start, StatesReached}
use Rattle.method.proofs.basics.MoveShape.{Holding, counts-kept, counts-dropped}
use Rattle.method.proofs.basics.AcceptedCalls.{StandsAt, ListFits, fits-one-to-one, RunTaken, run-taken, taken-run}
use Rattle.method.proofs.states.StepsAddUp.{steps-add, taken-add}
use Rattle.method.proofs.places.Tallies.{tally-split}
use Rattle.method.proofs.wear.WornLaws.{worn-split, under-way}
use Rattle.method.proofs.places.StepsAtPlaces.{filling-in}
use Rattle.method.proofs.places.PagesHeld.{held-blank, stands-marks}
use Rattle.method.proofs.places.PagesRise.{write-at}
use Rattle.method.proofs.places.Turns.{resumes_at, resumes-last}
use Rattle.method.proofs.recovery.Moments.{Moment, stands-moment, finished-page}
use Rattle.method.proofs.states.StepsLeadOn.{steps-stand}
use Rattle.method.proofs.states.StepsKeepPages.{steps-hold}
use Rattle.method.proofs.states.StatesOfPlaces.{is_state}
use Rattle.method.proofs.states.AtRest.{rest-stands, rest-holds, rest-page, rest-length}

pub run-answer : (R : Request) (chip : Chip) (work : List ℕ) (wear : Wear) (place budget limit : ℕ) → refusal (run_rows R chip work wear place limit) ≡ 0
    → run_answer R chip work wear place budget limit ≡ run_carried_out (plan R) chip work wear place (steps_taken R.sizes place budget)
unfolding run_answer
run-answer R chip work wear place budget limit e = rw e

pub taken_in : (Z : Sizes) (place budget : ℕ) → place ≤ last_place Z → place + steps_taken Z place budget ≤ last_place Z
unfolding steps_taken
taken_in Z place budget h = omega arith

-- Number 12 is looked for at place 0 alone: once a step is taken it is not given, and before that the counters are the same.
lasts_on : (Z : Sizes) (wear : Wear) (place taken limit : ℕ) → is_worn_out Z.n wear place limit ≡ false
    → is_worn_out Z.n (worn_by (operations_from Z place taken) wear) (place + taken) limit ≡ false
unfolding worn_by operations_from
lasts_on Z wear place zero limit e = ap (λ (at : ℕ). is_worn_out Z.n wear at limit) (add-zero place) ∙ e
lasts_on Z wear place (suc taken) limit e = under-way Z.n _ (place + suc taken) limit (omega arith)

-- what steps of an accepted run leave is accepted again
pub still-taken : (R : Request) (chip : Chip) (work : List ℕ) (wear : Wear) (place taken limit : ℕ) → place + taken ≤ last_place R.sizes
    → RunTaken R chip work wear place limit
    → (let after = steps (plan R) taken place (record { chip = chip; work = work }) in
    RunTaken R after.chip after.work (worn_by (operations_from R.sizes place taken) wear) (place + taken) limit)
still-taken R chip work wear place taken limit h T =
    let S = steps-stand (plan R) T.accepted taken place (record { chip = chip; work = work }) h (record { lent = T.lent; stands = T.stands }) in
    record {
      accepted = T.accepted;
      lent = S.lent;
      stands = S.stands;
      fits = T.fits;
      lasts = lasts_on R.sizes wear place taken limit T.lasts;
    }

answers-join : (X : Plan) (chip : Chip) (work : List ℕ) (wear : Wear) (place a b : ℕ)
    → (let one = run_carried_out X chip work wear place a in
    run_carried_out X chip work wear place (a + b) ≡ joined one (run_carried_out X one.chip one.work one.wear (place + a) b))
unfolding run_carried_out joined
answers-join X chip work wear place a b =
    let start : Running = record { chip = chip; work = work } in
    let c = tally-split X a b place start in
    let p : place + (a + b) ≡ place + a + b = omega arith in
    let f = ap {B = ℕ} (λ (x : ℕ). cond (eqb x (last_place X.move.sizes)) 1 0) p in
    let s = steps-add X a b place start in
    let w = worn-split X.move.sizes place a b wear in
    λ i. record {
      number = 0;
      place = p i;
      tally = c i;
      finished = f i;
      chip = (s i).chip;
      work = (s i).work;
      wear = w i;
    }

module _ (R : Request) (chip : Chip) (work : List ℕ) (wear : Wear) (place limit : ℕ) (ok : refusal (run_rows R chip work wear place limit) ≡ 0) where
  abbrev Z : Sizes
  Z = R.sizes

  T : RunTaken R chip work wear place limit
  T = run-taken R chip work wear place limit ok

  abbrev one : ℕ → RunAnswer
  one budget = run_answer R chip work wear place budget limit

  one-is : (budget : ℕ) → one budget ≡ run_carried_out (plan R) chip work wear place (steps_taken Z place budget)
  one-is budget = run-answer R chip work wear place budget limit ok

  goes_on : (budget : ℕ) → refusal (run_rows R (one budget).chip (one budget).work (one budget).wear (one budget).place limit) ≡ 0
  unfolding run_carried_out
  goes_on budget =
      rw (one-is budget)
      (taken-run R _ _ _ _ limit (still-taken R chip work wear place (steps_taken Z place budget) limit (taken_in Z place budget T.stands.inside) T))

  in_two : (a b : ℕ) → one (a + b) ≡ joined (one a) (run_answer R (one a).chip (one a).work (one a).wear (one a).place b limit)
  unfolding run_carried_out
  in_two a b =
      let ta = steps_taken Z place a in
      let tb = steps_taken Z (place + ta) b in
      let second = run-answer R (one a).chip (one a).work (one a).wear (one a).place b limit (goes_on a) in
      one-is (a + b) ∙ ap (run_carried_out (plan R) chip work wear place) (taken-add Z place a b) ∙ answers-join (plan R) chip work wear place ta tb
      ∙ ap₂ joined (sym (one-is a)) (rw (one-is a) (sym (rw (one-is a) at second)))

  only-blank : (finished : ℕ) (pass : Pass) (block page : ℕ) → operation_at Z (place + finished) ≡ write pass block page
      → is_blank Z.p (one finished).chip (slot Z.m block page) ≡ true
  unfolding run_carried_out steps_taken held_mark
  only-blank finished pass block page op =
      let at = place + finished in
      let W = write-at Z at pass block page op in
      let on = W.in-move in
      let all : steps_taken Z place finished ≡ finished = omega arith in
      let S = (still-taken R chip work wear place finished limit (omega arith) T).stands in
      let b-in : block ≤ Z.n = omega (arith, filling-in Z at (omega arith), W.stands.block-is) in
      let mark = (stands-marks Z S).mark-is block page b-in W.page-in ∙ ap (held_mark Z) (held-blank Z at block page (sym W.stands.block-is) (omega (arith, W.stands.pages-is))) in
      rw (one-is finished, all) (S.blank (slot Z.m block page) (slot-in-marks Z block page b-in W.page-in) mark)

in_ones : (R : Request) (chip : Chip) (work : List ℕ) (wear : Wear) (place budget limit : ℕ) → refusal (run_rows R chip work wear place limit) ≡ 0
    → run_answer R chip work wear place budget limit ≡ runs_of_one R chip work wear place budget limit
unfolding runs_of_one
in_ones R chip work wear place zero limit ok = refl
in_ones R chip work wear place (suc budget) limit ok =
    let one = run_answer R chip work wear place 1 limit in
    let s : suc budget ≡ 1 + budget = omega arith in
    ap (λ (x : ℕ). run_answer R chip work wear place x limit) s ∙ in_two R chip work wear place limit ok 1 budget
    ∙ ap (joined one) (in_ones R one.chip one.work one.wear one.place budget limit (goes_on R chip work wear place limit ok 1))

pub runs-add-up : RunsAddUp
runs-add-up = record {
  in_two = λ R chip work wear place a b limit ok. in_two R chip work wear place limit ok a b;
  in_ones = in_ones;
  goes_on = λ R chip work wear place budget limit ok. goes_on R chip work wear place limit ok budget;
  only-blank = λ R chip work wear place finished limit pass block page ok. only-blank R chip work wear place limit ok finished pass block page;
}

-- ---- from rest
module _ (R : Request) (chip : Chip) (S : Start R chip) where
  abbrev W : Sizes
  W = R.sizes

  pub start_fits : ListFits R
  unfolding split_answer
  start_fits =
      let p = passed R S.list-accepted in
      record { list_length = p.listed; good = p.good; pins-length = p.pinned; stay = p.stays }

  pub start-accepted : AcceptedMove (move R)
  unfolding split_answer
  start-accepted =
      let p = passed R S.list-accepted in
      record {
        ranges = in-range W p.in-range;
        list_length = completed-length R.list ∙ p.listed;
        sets-length = p.sized;
        one-to-one = fits-one-to-one R start_fits;
        split = S.split-correct;
      }

  pub start-stands : StandsAt W chip 0
  start-stands = rest-stands (move R) start-accepted chip S.store_length S.marks-length S.at_rest

  pub start-holds : Holding (plan R) (originals_in W chip) chip
  start-holds = rest-holds (move R) start-accepted chip S.store_length S.marks-length S.at_rest (is_dropped R.list)

  pub start-full : length (originals_in W chip) ≡ original_count W * W.p
  start-full = rest-length (move R) start-accepted chip S.store_length S.marks-length S.at_rest

  pub start-page : (k : ℕ) → part W.p k (originals_in W chip) ≡ page_at W.p chip (slot_of W.m k)
  start-page k = sym (rest-page (move R) start-accepted chip S.store_length S.marks-length S.at_rest k)

  module _ (work : List ℕ) (work-length : length work ≡ work_len W) (wear : Wear) (limit : ℕ) (lasts : wears_out W.n wear limit ≡ false) where
    pub start-taken : RunTaken R chip work wear 0 limit
    unfolding is_worn_out
    start-taken = record {
      accepted = start-accepted;
      lent = record { store_length = S.store_length; marks-length = S.marks-length; work-length = work-length };
      stands = start-stands;
      fits = start_fits;
      lasts = lasts;
    }

    started : (t : ℕ) → t ≤ last_place W → run_answer R chip work wear 0 t limit ≡ run_carried_out (plan R) chip work wear 0 t
    unfolding steps_taken
    started t h =
        let all : steps_taken W 0 t ≡ t = omega arith in
        run-answer R chip work wear 0 t limit (taken-run R chip work wear 0 limit start-taken) ∙ ap (run_carried_out (plan R) chip work wear 0) all

    module _ (t : ℕ) (h : t ≤ last_place W) where
      abbrev after : Running
      after = steps (plan R) t 0 (record { chip = chip; work = work })

      pub after-taken : RunTaken R after.chip after.work (worn_by (operations_from W 0 t) wear) (0 + t) limit
      after-taken = still-taken R chip work wear 0 t limit (omega arith) start-taken

      pub after_holds : Holding (plan R) (originals_in W chip) after.chip
      after_holds =
          steps-hold (plan R) start-accepted (originals_in W chip) start-full t 0 (record { chip = chip; work = work }) (omega arith)
          (record { lent = start-taken.lent; stands = start-stands }) start-holds

      pub after-steps : (let ran = run_answer R chip work wear 0 t limit in
          (ran.number ≡ 0) × (ran.place ≡ t) × (ran.chip ≡ state_of (plan R) (originals_in W chip) t))
      unfolding run_carried_out
      after-steps =
          let zero-first : 0 + t ≡ t = zero-add t in (
            rw (started t h),
            rw (started t h) zero-first,
            rw (started t h)
                (is_state (plan R) start-accepted (originals_in W chip) after.chip (0 + t) after-taken.stands after-taken.lent.store_length after_holds
                ∙ ap (state_of (plan R) (originals_in W chip)) zero-first),
          )

    at-end : (k : ℕ) → k < original_count W
        → page_at W.p (run_answer R chip work wear 0 (last_place W) limit).chip (slot_of W.m (get_or (move R).list k 0)) ≡ counts_as (plan R) (originals_in W chip) k
    unfolding run_carried_out
    at-end k h =
        let last = last_place W in
        let end : Chip = (after last (omega arith)).chip in
        let N = stands-moment W end (0 + last) (after-taken last (omega arith)).stands in
        rw (started last (omega arith))
        (finished-page (plan R) start-accepted (originals_in W chip) end
        (subst (Moment W end.marks) (ap (resumes_at W) (zero-add last) ∙ resumes-last W) N) (after_holds last (omega arith)) k h)

pub states-reached : StatesReached
states-reached = record {
  after-steps = after-steps;
  at-end = λ R chip S work l wear limit lasts k h.
      let page = at-end R chip S work l wear limit lasts k h in
      (λ kept. page ∙ counts-kept (plan R) _ k kept ∙ start-page R chip S k, λ gone. page ∙ counts-dropped (plan R) _ k gone);
}
