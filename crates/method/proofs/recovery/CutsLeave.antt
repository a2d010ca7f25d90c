-- What a cut inside a step leaves: a moment of the same turn or, where an erase has taken a letter, of the next.
use Rattle.flash.proofs.Kit.{◌≡◌, refl, sym, ap, ◌∙◌, subst, ◌⊎◌, inl, inr, ◌≢◌, ⊎_elim, Bool, true, false, List, ℕ, suc, ◌/◌, ◌≤◌, ◌<◌, arith, leb}
use Rattle.flash.proofs.Kit.{leb-true, leb-false, eq-eqb, ne_eqb}
use Rattle.flash.specs.declared.sizes.Sizes.{Sizes}
use Rattle.flash.specs.Geometry.{slot}
use Rattle.flash.specs.Chip.{Chip, mark_at}
use Rattle.flash.proofs.Bounds.{slot-in-marks}
use Rattle.split.proofs.Pigeon.{seek}
use Rattle.method.specs.Place.{Pass, write, erase, last_place, operation_at, pass_at, filling, filled, held_at, held_mark, marks_of}
use Rattle.method.specs.Cut.{is_torn_mark, touches, Kept, Torn, CutInside}
use Rattle.method.proofs.basics.Indexes.{this-or-other, slot-div}
use Rattle.method.proofs.places.StepsAtPlaces.{next_block, filling-in, Turned, after-erase}
use Rattle.method.proofs.places.PagesHeld.{MarksAt, marks_of-at, Writes, Erases, Change, by-write, by-erase, change}
use Rattle.method.proofs.places.Turns.{resumes_at}
use Rattle.method.proofs.recovery.Moments.{Moment, Block, unfinished, whole, filling-moment, place-moment}
use Rattle.method.proofs.recovery.MarksFade.{torn-mark}

-- What a cut inside the step of a place may leave: all that a caller has to tell apart. A write loses nothing that was there; an erase
-- has taken no letter yet, or has made the block that is filled next unfinished.
pub data AfterCut (Z : Sizes) (place : ℕ) (marks : List ℕ) : Type 0 where
  in-write : filled Z place < Z.m → Moment Z marks (resumes_at Z place) → AfterCut Z place marks
  in-erase : filled Z place ≡ Z.m → Moment Z marks (resumes_at Z place) → AfterCut Z place marks
  torn-erase : Moment Z marks (suc place) → AfterCut Z place marks

module _ (Z : Sizes) where
  open Z use {n, m}

  -- ---- a cut inside an erase
  module _ (block : ℕ) (before left : Chip) (C : CutInside Z (erase block) before left) where
    cut-other : (b q : ℕ) → b ≢ block → b ≤ n → q < m → mark_at left.marks (slot m b q) ≡ mark_at before.marks (slot m b q)
    unfolding touches
    cut-other b q apart h k =
        (C.outside (slot m b q) (slot-in-marks Z b q h k) (ne_eqb _ block (λ e. apart (sym (slot-div m b q k) ∙ e)))).mark

    cut-own : (q : ℕ) → block ≤ n → q < m
        → (mark_at left.marks (slot m block q) ≡ mark_at before.marks (slot m block q)) ⊎ (3 ≤ mark_at left.marks (slot m block q))
    unfolding touches
    cut-own q h k =
        ⊎_elim
        (λ (K : Kept Z before left (slot m block q)). inl K.mark)
        (λ (T : Torn is_torn_mark Z left (slot m block q)). inr (torn-mark Z left (slot m block q) T))
        (C.inside (slot m block q) (slot-in-marks Z block q h k) (eq-eqb _ block (slot-div m block q k)))

  -- mend's erase is of the unfinished block, which stays unfinished
  pub mend-cut : (chip left : Chip) (place : ℕ) → Moment Z chip.marks place → filled Z place ≡ 0 → CutInside Z (erase (filling Z place)) chip left → Moment Z left.marks place
  mend-cut chip left place M z C = record {
    in-move = M.in-move;
    marks-length = C.marks-length;
    others = λ b q apart h k. cut-other (filling Z place) chip left C b q apart h k ∙ M.others b q apart h k;
    own = go M.own;
  }
    where
      go : Block Z chip.marks place → Block Z left.marks place
      go (unfinished y q k hole) = unfinished y q k (⊎_elim (λ e. rw e hole) (λ e. e) (cut-own (filling Z place) chip left C q (filling-in Z place M.in-move) k))
      go (whole y f) = whole y (λ q k. absurd (omega arith))

  -- ---- a cut inside the step of a place
  module _ (place : ℕ) (early : place < last_place Z) (before left : Chip) (at : before.marks ≡ marks_of Z place) where
    A : MarksAt Z place before.marks
    A = subst (MarksAt Z place) (sym at) (marks_of-at Z place)

    -- the page had no letter, and has none
    write-cut : filled Z place < m → (pass : Pass) → Writes Z place pass (filling Z place) (filled Z place) → CutInside Z (write pass (filling Z place) (filled Z place)) before left → Moment Z left.marks (resumes_at Z place)
    unfolding touches
    write-cut k pass W C =
        let t : ℕ = slot m (filling Z place) (filled Z place) in
        filling-moment Z place (omega arith) k left.marks C.marks-length
        (λ b q apart h l.
        (C.outside (slot m b q) (slot-in-marks Z b q h l)
        (ne_eqb (slot m b q) t (λ e. apart (sym (slot-div m b q l) ∙ ap (λ (x : ℕ). x / m) e ∙ slot-div m (filling Z place) (filled Z place) k)))).mark
        ∙ A.mark-is b q h l)
        (torn-mark Z left t (C.inside t (slot-in-marks Z (filling Z place) (filled Z place) W.block_in k) (eq-eqb t t refl)))

    abbrev next : ℕ
    next = next_block (pass_at Z place) (filling Z place)

    module _ (k : filled Z place ≡ m) (E : Erases Z place next) (C : CutInside Z (erase next) before left) where
      T : Turned Z (suc place) (pass_at Z place) (filling Z place)
      T = after-erase Z place early k

      -- no letter was lost
      unharmed : ((q : ℕ) → q < m → leb 3 (mark_at left.marks (slot m next q)) ≡ false) → MarksAt Z place left.marks
      unharmed f = record {
        length-is = C.marks-length;
        mark-is = λ b q h l.
            this-or-other (λ x. mark_at left.marks (slot m x q) ≡ held_mark Z (held_at Z place x q)) next b
            (⊎_elim
            (λ x. x ∙ A.mark-is next q E.block_in l)
            (λ (x : 3 ≤ mark_at left.marks (slot m next q)). absurd (omega (arith, leb-false 3 (mark_at left.marks (slot m next q)) (f q l))))
            (cut-own next before left C q E.block_in l))
            (λ apart. cut-other next before left C b q apart h l ∙ A.mark-is b q h l);
      }

      -- some was: the block is torn, and filled next
      harmed : (q : ℕ) → q < m → 3 ≤ mark_at left.marks (slot m next q) → Moment Z left.marks (suc place)
      harmed q l hole = record {
        in-move = early;
        marks-length = C.marks-length;
        others = λ b p apart h r.
            let other : b ≢ next = λ e. apart (e ∙ sym T.block-is) in
            cut-other next before left C b p other h r ∙ A.mark-is b p h r ∙ ap (held_mark Z) (sym (E.others b p other h r));
        own = unfinished T.pages-is q l (rw T.block-is hole);
      }

    pub after-cut : CutInside Z (operation_at Z place) before left → AfterCut Z place left.marks
    after-cut C = go (change Z place early)
      where
        torn? : (q : ℕ) → Bool
        torn? q = leb 3 (mark_at left.marks (slot m next q))

        moment : MarksAt Z place left.marks → Moment Z left.marks (resumes_at Z place)
        moment = place-moment Z place (omega arith) left.marks

        go : Change Z place → AfterCut Z place left.marks
        go (by-write k e W) = in-write k (write-cut k (pass_at Z place) W (rw e at C))
        go (by-erase k e E) =
            let D : CutInside Z (erase next) before left = rw e at C in
            ⊎_elim
            (λ (r : (q : ℕ) × (q < m) × (torn? q ≡ true)). torn-erase (harmed k E D r.0 r.1 (leb-true 3 _ r.2)))
            (λ (f : (q : ℕ) → q < m → torn? q ≡ false). in-erase k (moment (unharmed k E D f)))
            (seek torn? m)
