-- From the slots of a walk to the terms of a sum: what a read adds, and that 255s are added at most once.
use Rattle.flash.proofs.Kit.{◌≡◌, refl, sym, ap, ◌∙◌, ◌⊎◌, inl, inr, ⊎_elim, true, false, ◌&&◌, List, [], ◌∷◌, map, ℕ, suc, ◌-◌, ◌≤◌, ◌<◌, arith}
use Rattle.flash.proofs.Kit.{length, get_or, eqb}
use Rattle.flash.specs.Geometry.{letter}
use Rattle.flash.specs.PageSum.{◌⊕◌, sum}
use Rattle.flash.specs.Chip.{Chip, page_at, mark_at}
use Rattle.flash.proofs.Bools.{bool_cases}
use Rattle.flash.proofs.Sums.{⊕-nil, ⊕-assoc, sum_one, sum-map}
use Rattle.method.specs.Move.{Plan}
use Rattle.method.specs.Read.{stored, filler, filler_page, term_page, stored_slots, term_at, read_slots, read_terms, read_page}
use Rattle.method.proofs.basics.EachNumber.{Each, each-cons}
use Rattle.method.proofs.basics.MoveShape.{counted, term-other}

module _ (X : Plan) (marks : List ℕ) where
  open X.move.sizes use {m}

  pub terms-kept : (k : ℕ) → X.is_dropped k ≡ false → read_terms X marks k ≡ map (term_at X marks) (read_slots X.move marks k)
  unfolding read_terms
  terms-kept k e = rw e

  pub terms-dropped : (k : ℕ) → X.is_dropped k ≡ true → read_terms X marks k ≡ filler ∷ []
  unfolding read_terms
  terms-dropped k e = rw e

  pub term-cases : (t : ℕ) → (term_at X marks t ≡ stored t) ⊎ (term_at X marks t ≡ filler)
  unfolding term_at
  term-cases t = ⊎_elim
      (λ (e : (eqb (mark_at marks t) (letter X.move.sizes 0) && X.is_dropped (t - m)) ≡ true). inr (rw e))
      (λ (e : (eqb (mark_at marks t) (letter X.move.sizes 0) && X.is_dropped (t - m)) ≡ false). inl (rw e))
      (bool_cases (eqb (mark_at marks t) (letter X.move.sizes 0) && X.is_dropped (t - m)))

  -- the stored ones are among the slots
  pub stored-few : (ts : List ℕ) → length (stored_slots (map (term_at X marks) ts)) ≤ length ts
  unfolding stored_slots
  stored-few [] = omega arith
  stored-few (t ∷ ts) = ⊎_elim
      (λ (e : term_at X marks t ≡ stored t). rw e (omega (arith, stored-few ts)))
      (λ (e : term_at X marks t ≡ filler). rw e (omega (arith, stored-few ts)))
      (term-cases t)

  pub stored-each : (Q : ℕ → Type 0) (ts : List ℕ) → Each Q ts → Each Q (stored_slots (map (term_at X marks) ts))
  unfolding stored_slots
  stored-each Q [] each = each
  stored-each Q (t ∷ ts) each =
      let rest = stored-each Q ts (λ i h. each (suc i) (omega arith)) in
      ⊎_elim
      (λ (e : term_at X marks t ≡ stored t). rw e (each-cons Q t (stored_slots (map (term_at X marks) ts)) (each 0 (omega arith)) rest))
      (λ (e : term_at X marks t ≡ filler). rw e rest)
      (term-cases t)

module _ (X : Plan) (chip : Chip) where
  open X.move.sizes use {p as P}

  pub sum-terms : (ts : List ℕ) → sum (term_page P chip) (map (term_at X chip.marks) ts) ≡ sum (counted X chip) ts
  sum-terms ts = sum-map (term_page P chip) (term_at X chip.marks) ts

  pub page-dropped : (k : ℕ) → X.is_dropped k ≡ true → read_page X chip k ≡ filler_page P
  unfolding read_page term_page
  page-dropped k e = ap (sum (term_page P chip)) (terms-dropped X chip.marks k e) ∙ sum_one (term_page P chip) filler

  pub page-kept : (k : ℕ) → X.is_dropped k ≡ false → read_page X chip k ≡ sum (counted X chip) (read_slots X.move chip.marks k)
  unfolding read_page
  page-kept k e = ap (sum (term_page P chip)) (terms-kept X chip.marks k e) ∙ sum-terms (read_slots X.move chip.marks k)

  -- where all slots but the last hold coded pages, 255s are added once at most
  pub added-once : (ts : List ℕ) → ((i : ℕ) → suc i < length ts → mark_at chip.marks (get_or ts i 0) ≡ letter X.move.sizes 1)
      → (sum (page_at P chip) (stored_slots (map (term_at X chip.marks) ts)) ≡ sum (term_page P chip) (map (term_at X chip.marks) ts))
      ⊎ (sum (page_at P chip) (stored_slots (map (term_at X chip.marks) ts)) ⊕ filler_page P ≡ sum (term_page P chip) (map (term_at X chip.marks) ts))
  unfolding stored_slots sum term_page letter ◌⊕◌
  added-once [] coded = inl refl
  added-once (t ∷ []) coded = ⊎_elim
      (λ (e : term_at X chip.marks t ≡ stored t). rw e (inl refl))
      (λ (e : term_at X chip.marks t ≡ filler). rw e (inr (sym (⊕-nil (filler_page P)))))
      (term-cases X chip.marks t)
  added-once (t ∷ u ∷ ts) coded =
      let first : term_at X chip.marks t ≡ stored t = term-other X chip.marks t (λ f. absurd (omega (arith, coded 0 (omega arith), f))) in
      rw first (⊎_elim
      (λ e. inl (ap (λ (s : List ℕ). page_at P chip t ⊕ s) e))
      (λ e. inr (⊕-assoc (page_at P chip t) (sum (page_at P chip) (stored_slots (map (term_at X chip.marks) (u ∷ ts)))) (filler_page P)
      ∙ ap (λ (s : List ℕ). page_at P chip t ⊕ s) e))
      (added-once (u ∷ ts) (λ i h. coded (suc i) (omega arith))))
