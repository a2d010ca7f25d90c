-- The plan of a request, told by the list that was completed in place and by the bits of the dropped pages.
use Rattle.flash.proofs.Kit.{◌≡◌, refl, ap, ap₂, ◌∙◌, sym, fun_ext, ◌≢◌, ⊎_elim, Bool, true, false, cond, List, [], ◌∷◌, ℕ, eqb, length, get_or, replicate}
use Rattle.flash.specs.Lists.{any}
use Rattle.flash.proofs.Bools.{bool_cases}
use Rattle.split.specs.OneToOne.{dropped}
use Rattle.split.specs.Drops.{completed, list_left}
use Rattle.split.specs.Request.{Request}
use Rattle.split.specs.inner.Mask.{is_marked}
use Rattle.split.specs.inner.Dropping.{DropsTold}
use Rattle.split.proofs.DropLaws.{undropped-each}
use Rattle.split.proofs.MarkLaws.{unmarked}
use Rattle.method.specs.Move.{move_of, move, Plan, plan}
use Rattle.method.proofs.basics.AcceptedCalls.{ListFits}
use Rattle.walk.specs.inner.Terms.{plan_by}
use Rattle.mover.specs.inner.Steps.{DropsIn}

-- ---- what is left of the list, by the number returned
pub left-0 : (list : List ℕ) → list_left 0 list ≡ completed list
unfolding list_left any
left-0 list = refl

pub left-judged : (bad moved : Bool) (list : List ℕ) → ◌≢◌ {A = ℕ} (cond bad 3 (cond moved 11 0)) 0 → list ≡ list_left (cond bad 3 (cond moved 11 0)) list
unfolding list_left any
left-judged true moved list ne = refl
left-judged false true list ne = refl
left-judged false false list ne = absurd (ne refl)

pub left_split : (split : Bool) (list : List ℕ) → completed list ≡ list_left (cond split 0 4) list
unfolding list_left any
left_split true list = refl
left_split false list = refl

pub left-undropped : (number : ℕ) (list : List ℕ) → completed list ≡ list → list ≡ list_left number list
unfolding list_left
left-undropped number list e = ⊎_elim
    (λ (t : any (eqb number) (1 ∷ 2 ∷ 3 ∷ 11 ∷ []) ≡ true). rw t)
    (λ (f : any (eqb number) (1 ∷ 2 ∷ 3 ∷ 11 ∷ []) ≡ false). rw f (sym e))
    (bool_cases (any (eqb number) (1 ∷ 2 ∷ 3 ∷ 11 ∷ [])))

-- no bit is set where no page is dropped
pub none_told : (list drops places : List ℕ) → any (eqb dropped) list ≡ false → drops ≡ replicate 64 0 → places ≡ replicate 64 0 → DropsTold list drops places
none_told list drops places none d p = record {
  pages-length = ap length d;
  places-length = ap length p;
  pages-tell = λ k. rw d (unmarked 64 k) ∙ sym (undropped-each list none k);
  places-tell = λ k h. rw p (unmarked 64 (get_or (completed list) k 0)) ∙ sym (undropped-each list none k);
}

module _ (R : Request) (after drops places : List ℕ) (left : after ≡ completed R.list) (T : DropsTold R.list drops places) where
  pub move-told : move_of R.sizes after R.sets ≡ move R
  move-told = ap (λ (l : List ℕ). move_of R.sizes l R.sets) left

  pub plan-told : plan_by R.sizes after R.sets drops ≡ plan R
  plan-told =
      ap₂ {C = Plan} (λ (l : List ℕ) (f : ℕ → Bool). record { move = move_of R.sizes l R.sets; is_dropped = f }) left (fun_ext T.pages-tell)

  pub drops-told : ListFits R → DropsIn (move_of R.sizes after R.sets) drops places
  drops-told F = record {
    places-tell = λ k h.
        ap (λ (l : List ℕ). is_marked places (get_or l k 0)) left ∙ T.places-tell k (rw F.list_length h) ∙ sym (T.pages-tell k);
  }
