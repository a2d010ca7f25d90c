-- The check of a list, entry by entry: marks tell which numbers the kept pages met so far are sent to.
use Rattle.flash.proofs.Kit.{◌≡◌, refl, sym, ap, ◌∙◌, ◌≢◌, ⊎_elim, true, false, ◌||◌, or-true, List, ℕ, ◌+◌, ◌≤◌, ◌<◌, arith}
use Rattle.flash.proofs.Kit.{not-suc-le-zero, below_more, eqb, length, get_or, replicate, eqb-true, eq-eqb}
use Rattle.split.specs.OneToOne.{dropped, bad_list}
use Rattle.split.specs.Drops.{is_dropped}
use Rattle.split.specs.inner.Mask.{is_marked}
use Rattle.split.specs.inner.Dropping.{KeptMarked}
use Rattle.flash.proofs.Bools.{bool_cases, never_both, or_cases}
use Rattle.flash.proofs.Comparisons.{eq-cases, ne-lt}
use Rattle.split.proofs.MarkLaws.{unmarked}
use Rattle.split.proofs.DropLaws.{kept_of, good_of, kept-some, none_kept}

same_drop : (list : List ℕ) (i j : ℕ) → get_or list i 0 ≡ get_or list j 0 → is_dropped list i ≡ is_dropped list j
unfolding is_dropped
same_drop list i j e = ap (λ (x : ℕ). eqb x dropped) e

-- of the first k entries those of kept pages are small, differ and are marked, and nothing else is
pub record Checked (originals : ℕ) (list marks : List ℕ) (k : ℕ) : Type 0 where
  pub within : k ≤ length list
  pub sized : length marks ≡ 64
  pub small : (j : ℕ) → j < k → is_dropped list j ≡ false → get_or list j 0 < originals
  pub apart : (j : ℕ) → j < k → is_dropped list j ≡ false → (i : ℕ) → i < j → get_or list i 0 ≢ get_or list j 0
  pub marked : (j : ℕ) → j < k → is_dropped list j ≡ false → is_marked marks (get_or list j 0) ≡ true
  pub only : (x : ℕ) → is_marked marks x ≡ true → (j : ℕ) × (j < k) × (is_dropped list j ≡ false) × (get_or list j 0 ≡ x)

pub none-checked : (originals : ℕ) (list marks : List ℕ) → marks ≡ replicate 64 0 → length marks ≡ 64 → Checked originals list marks 0
none-checked originals list marks e sized = record {
  within = omega arith;
  sized = sized;
  small = λ j h. absurd (not-suc-le-zero h);
  apart = λ j h. absurd (not-suc-le-zero h);
  marked = λ j h. absurd (not-suc-le-zero h);
  only = λ x m. absurd (never_both m (ap (λ (masks : List ℕ). is_marked masks x) e ∙ unmarked 64 x));
}

module _ (originals : ℕ) (list marks : List ℕ) (k : ℕ) (C : Checked originals list marks k) where
  module _ (h : length list ≤ k) where
    pub all-checked : bad_list originals list ≡ false
    all-checked = good_of originals list (record {
      below = λ j l d. C.small j (omega arith) d;
      distinct = λ i j l m d q. ⊎_elim
          (λ (e : i ≡ j). e)
          (λ (ne : i ≢ j). ⊎_elim
          (λ (o : i < j). absurd (C.apart j (omega arith) (sym (same_drop list i j q) ∙ d) i o q))
          (λ (o : j < i). absurd (C.apart i (omega arith) d j o (sym q)))
          (ne-lt i j ne))
          (eq-cases i j);
    })

    pub all-marked : KeptMarked list marks
    all-marked = record {
      masks-length = C.sized;
      kept-marked = λ x. ⊎_elim
          (λ (m : is_marked marks x ≡ true).
          let r = C.only x m in
          m ∙ sym (rw r.3 at (kept-some list r.0 (omega (arith, r.1, C.within)) r.2)))
          (λ (m : is_marked marks x ≡ false).
          m ∙ sym (none_kept x list (λ j l d q. never_both (C.marked j (omega arith) d) (rw q at m))))
          (bool_cases (is_marked marks x));
    }

  module _ (more : k < length list) where
    -- the page is dropped
    pub check-dropped : is_dropped list k ≡ true → Checked originals list marks (k + 1)
    check-dropped d = record {
      within = omega arith;
      sized = C.sized;
      small = below_more (λ j. is_dropped list j ≡ false → get_or list j 0 < originals) k C.small (λ e. absurd (never_both d e));
      apart = below_more (λ j. is_dropped list j ≡ false → (i : ℕ) → i < j → get_or list i 0 ≢ get_or list j 0) k C.apart (λ e. absurd (never_both d e));
      marked = below_more (λ j. is_dropped list j ≡ false → is_marked marks (get_or list j 0) ≡ true) k C.marked (λ e. absurd (never_both d e));
      only = λ x m. let r = C.only x m in (r.0, omega (arith, r.1), r.2, r.3);
    }

    module _ (kept : is_dropped list k ≡ false) where
      refuted : (bad_list originals list ≡ false → ⊥) → bad_list originals list ≡ true
      refuted f = ⊎_elim (λ (b : bad_list originals list ≡ true). b) (λ (b : bad_list originals list ≡ false). absurd (f b)) (bool_cases (bad_list originals list))

      pub too_large : originals ≤ get_or list k 0 → bad_list originals list ≡ true
      too_large h = refuted (λ good. let l = (kept_of originals list good).below k more kept in omega arith)

      pub repeated : is_marked marks (get_or list k 0) ≡ true → bad_list originals list ≡ true
      repeated m = refuted (λ good.
          let r = C.only (get_or list k 0) m in
          let s : r.0 ≡ k = (kept_of originals list good).distinct r.0 k (omega (arith, r.1)) more r.2 r.3 in
          omega (arith, r.1, s))

      -- a number that was not met before
      pub check-kept : (after : List ℕ) → get_or list k 0 < originals → is_marked marks (get_or list k 0) ≡ false → length after ≡ 64
          → ((x : ℕ) → is_marked after x ≡ (is_marked marks x || eqb x (get_or list k 0))) → Checked originals list after (k + 1)
      check-kept after small fresh sized more-marked = record {
        within = omega arith;
        sized = sized;
        small = below_more (λ j. is_dropped list j ≡ false → get_or list j 0 < originals) k C.small (λ d. small);
        apart = below_more (λ j. is_dropped list j ≡ false → (i : ℕ) → i < j → get_or list i 0 ≢ get_or list j 0) k C.apart
            (λ d i l q. never_both (C.marked i l (same_drop list i k q ∙ kept)) (rw (← q) at fresh));
        marked = below_more (λ j. is_dropped list j ≡ false → is_marked after (get_or list j 0) ≡ true) k
            (λ j l d. more-marked (get_or list j 0) ∙ rw (C.marked j l d))
            (λ d. more-marked (get_or list k 0) ∙ rw (eq-eqb (get_or list k 0) (get_or list k 0) refl, or-true));
        only = λ x m. ⊎_elim
            (λ (o : is_marked marks x ≡ true). let r = C.only x o in (r.0, omega (arith, r.1), r.2, r.3))
            (λ (o : eqb x (get_or list k 0) ≡ true). (k, omega arith, kept, sym (eqb-true x (get_or list k 0) o)))
            (or_cases (is_marked marks x) (eqb x (get_or list k 0)) (sym (more-marked x) ∙ m));
      }
