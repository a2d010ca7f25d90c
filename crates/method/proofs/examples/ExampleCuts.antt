-- That a cut obeys the rule, as a test of every slot: the examples compute it.
use Rattle.flash.proofs.Kit.{◌≡◌, Bool, true, cond, ◌&&◌, ◌||◌, inl, inr, ⊎_elim, ℕ, arith, eqb, length, eqb-true}
use Rattle.flash.specs.Lists.{range, all, is_same}
use Rattle.flash.specs.declared.sizes.Sizes.{Sizes}
use Rattle.flash.specs.Geometry.{slot_count, store_len, marks_len}
use Rattle.flash.specs.Chip.{Chip, page_at, mark_at}
use Rattle.flash.proofs.Bools.{both, or_cases}
use Rattle.flash.proofs.Ranges.{all_in}
use Rattle.flash.proofs.Same.{same-eq}
use Rattle.method.specs.Place.{Operation, write, erase, done}
use Rattle.method.specs.Cut.{is_torn_mark, touches, Kept, Touched, CutInside}

module _ (Z : Sizes) (before after : Chip) (t : ℕ) where
  unfoldable pub is_kept : Bool
  is_kept = eqb (mark_at after.marks t) (mark_at before.marks t) && is_same (page_at Z.p after t) (page_at Z.p before t)

  unfoldable pub is_touched : Operation → Bool
  is_touched (write pass block page) = is_torn_mark (mark_at after.marks t)
  is_touched (erase block) = is_torn_mark (mark_at after.marks t) || is_kept
  is_touched done = is_kept

  kept : is_kept ≡ true → Kept Z before after t
  unfolding is_kept
  kept e =
      let same = both (eqb (mark_at after.marks t) (mark_at before.marks t)) _ e in
      record { mark = eqb-true _ _ same.0; page = same-eq _ _ same.1 }

  touched : (op : Operation) → is_touched op ≡ true → Touched is_torn_mark Z op before after t
  unfolding is_touched
  touched (write pass block page) e = record { mark = e }
  touched (erase block) e = ⊎_elim (λ torn. inr (record { mark = torn })) (λ same. inl (kept same)) (or_cases _ _ e)
  touched done e = kept e

module _ (Z : Sizes) (op : Operation) (before after : Chip) where
  unfoldable pub may_leave : (t : ℕ) → Bool
  may_leave t = cond (touches Z op t) (is_touched Z before after t op) (is_kept Z before after t)

  pub cut-by-slots : length after.store ≡ store_len Z → length after.marks ≡ marks_len Z → all may_leave (range 0 (slot_count Z)) ≡ true
      → CutInside Z op before after
  unfolding may_leave
  cut-by-slots s m slots =
      let each = all_in may_leave 0 (slot_count Z) slots in
      record {
        store_length = s;
        marks-length = m;
        inside = λ t h e. touched Z before after t op (rw e at (each t (omega arith) (omega arith)));
        outside = λ t h e. kept Z before after t (rw e at (each t (omega arith) (omega arith)));
      }

unfoldable pub cuts-open : Unit {0}
unfolding is_torn_mark touches is_kept is_touched may_leave
cuts-open = tt

-- a pair: what holds of an event, and of those after it
infixr 5 ◌then◌
pub ◌then◌ : {A B : Type 0} → A → B → A × B
a then b = (a, b)
