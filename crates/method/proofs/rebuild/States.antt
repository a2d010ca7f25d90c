-- Stores at rest with given originals, and what their pages show at a place that they lead to.
use Rattle.flash.proofs.Kit.{◌≡◌, ap, ◌∙◌, subst, true, false, List, ℕ, ◌+◌, ◌*◌, ◌≤◌, ◌<◌, zero-add, arith, eqb, length, replicate, length-replicate}
use Rattle.flash.specs.Lists.{range, any, part, concat_map}
use Rattle.flash.specs.declared.sizes.Sizes.{Sizes}
use Rattle.flash.specs.Geometry.{original_count, store_len}
use Rattle.flash.specs.Chip.{Chip, page_at}
use Rattle.split.specs.OneToOne.{dropped}
use Rattle.split.specs.Split.{is_split}
use Rattle.split.specs.Request.{Request}
use Rattle.split.specs.Answer.{split_answer}
use Rattle.split.proofs.DropLaws.{undropped-completed}
use Rattle.method.specs.Move.{Plan, plan, AcceptedMove}
use Rattle.method.specs.Place.{last_place, marks_of}
use Rattle.method.specs.State.{chip_at_rest, originals_in, state_of}
use Rattle.method.specs.Step.{Running, steps}
use Rattle.method.specs.Runs.{Start}
use Rattle.method.specs.Rebuild.{whole_move}
use Rattle.method.proofs.basics.MoveShape.{Holding, Shows}
use Rattle.method.proofs.states.RunsAddUp.{start-accepted, start-stands, start-holds, start-full}
use Rattle.method.proofs.states.StepsLeadOn.{Stood, steps-stand}
use Rattle.method.proofs.states.StepsKeepPages.{steps-hold}
use Rattle.method.proofs.states.StatesOfPlaces.{length-pages, page-of, is_state}
use Rattle.method.proofs.states.MadeAtRest.{is-at-rest, store-size, marks-size, made_of}
use Rattle.method.proofs.states.Undropped.{no-drops}
use Rattle.method.proofs.rebuild.Right.{shows-stored}

-- ---- from rest to a place
module _ (R : Request) (chip : Chip) (S : Start R chip) (kept : any (eqb dropped) R.list ≡ false) (place : ℕ) (h : place ≤ last_place R.sizes) where
  abbrev W : Sizes
  W = R.sizes

  abbrev X : Plan
  X = plan R

  A : AcceptedMove X.move
  A = start-accepted R chip S

  abbrev originals : List ℕ
  originals = originals_in W chip

  abbrev run : Running
  run = record { chip = chip; work = replicate W.p 0 }

  stood : Stood X A run 0
  stood = record {
    lent = record { store_length = S.store_length; marks-length = S.marks-length; work-length = length-replicate W.p 0 };
    stands = start-stands R chip S;
  }

  abbrev pub state : Chip
  state = state_of X originals place

  led : Stood X A (steps X place 0 run) (0 + place)
  led = steps-stand X A place 0 run (omega arith) stood

  holds : Holding X originals (steps X place 0 run).chip
  holds = steps-hold X A originals (start-full R chip S) place 0 run (omega arith) stood (start-holds R chip S)

  led-to : (steps X place 0 run).chip ≡ state
  led-to = is_state X A originals (steps X place 0 run).chip (0 + place) led.stands led.lent.store_length holds ∙ ap (state_of X originals) (zero-add place)

  pub state-size : length state.store ≡ store_len W
  state-size = subst (λ (c : Chip). length c.store ≡ store_len W) led-to led.lent.store_length

  pub state-shows : Shows (whole_move R) (marks_of W place) (λ k. part W.p k originals) (page_at W.p state)
  unfolding state_of
  state-shows =
      let there : Holding X originals state = subst (Holding X originals) led-to holds in
      shows-stored (whole_move R) originals state (start-full R chip S) (subst (λ (Y : Plan). Holding Y originals state) (no-drops.plan-is R kept) there)

-- ---- a store at rest whose originals are given
module _ (Z : Sizes) (value : ℕ → List ℕ) (size : (k : ℕ) → k < original_count Z → length (value k) ≡ Z.p) where
  abbrev pub made : List ℕ
  made = concat_map value (range 0 (original_count Z))

  made-length : length made ≡ original_count Z * Z.p
  made-length = length-pages Z.p value 0 (original_count Z) (λ k a b. size k (omega arith))

  pub made-part : (k : ℕ) → k < original_count Z → part Z.p k (originals_in Z (chip_at_rest Z made)) ≡ value k
  made-part k h =
      ap (part Z.p k) (made_of Z made) ∙ page-of Z.p value 0 (original_count Z) k (λ j a b. size j (omega arith)) h ∙ ap value (zero-add k)

  pub made-starts : (R : Request) → R.sizes ≡ Z → any (eqb dropped) R.list ≡ false → (split_answer R).number ≡ 0
      → is_split R.sizes.n R.sizes.m R.list R.sets ≡ true → Start R (chip_at_rest Z made)
  made-starts R e kept accepted split = record {
    store_length = rw e (store-size Z made made-length);
    marks-length = rw e (marks-size Z made);
    at_rest = rw e (is-at-rest Z made);
    list-accepted = accepted;
    split-correct = rw (undropped-completed R.list kept) split;
  }
