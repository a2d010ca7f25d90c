-- What whole pages hold, which the proofs about a move start from, and what they count as in sums.
use Rattle.flash.proofs.Kit.{◌≡◌, sym, ap, ◌∙◌, ◌≢◌, ⊎_elim, true, false, and-false, List, ℕ, ◌-◌, ◌*◌, ◌/◌, ◌≤◌, ◌<◌}
use Rattle.flash.proofs.Kit.{arith, div-add-mod', suc-mul, length, get_or, length-replicate, eq-eqb, ne_eqb}
use Rattle.flash.specs.Lists.{part}
use Rattle.flash.specs.Geometry.{slot, slot_of, original_count, letter}
use Rattle.flash.specs.PageSum.{sum}
use Rattle.flash.specs.Chip.{Chip, page_at, mark_at}
use Rattle.flash.proofs.Bools.{bool_cases}
use Rattle.flash.proofs.Parts.{part-fits, length_part}
use Rattle.method.specs.Move.{Move, Plan}
use Rattle.method.specs.Cycle.{coded}
use Rattle.method.specs.Read.{stored, filler, filler_page, term_page, term_at}
use Rattle.method.specs.State.{counts_as}

-- it goes by the page's slot and its letter
pub record Holding (X : Plan) (originals : List ℕ) (chip : Chip) : Type 0 where
  pub plain : (k : ℕ) → k < original_count X.move.sizes → mark_at chip.marks (slot_of X.move.sizes.m k) ≡ letter X.move.sizes 0
      → page_at X.move.sizes.p chip (slot_of X.move.sizes.m k) ≡ part X.move.sizes.p k originals
  pub code : (set v : ℕ) → set < X.move.sizes.m → 1 ≤ v → v ≤ X.move.sizes.n
      → mark_at chip.marks (slot X.move.sizes.m (v - 1) set) ≡ letter X.move.sizes 1
      → page_at X.move.sizes.p chip (slot X.move.sizes.m (v - 1) set) ≡ sum (counts_as X originals) (coded X.move set v)
  pub final : (k : ℕ) → k < original_count X.move.sizes
      → mark_at chip.marks (slot_of X.move.sizes.m (get_or X.move.list k 0)) ≡ letter X.move.sizes 2
      → page_at X.move.sizes.p chip (slot_of X.move.sizes.m (get_or X.move.list k 0)) ≡ counts_as X originals k

-- what pages count as: `page` that of a slot, `value` an original
pub record Shows (M : Move) (marks : List ℕ) (value page : ℕ → List ℕ) : Type 0 where
  pub whole : (k : ℕ) → k < original_count M.sizes → length (value k) ≡ M.sizes.p
  pub plain : (k : ℕ) → k < original_count M.sizes → mark_at marks (slot_of M.sizes.m k) ≡ letter M.sizes 0
      → page (slot_of M.sizes.m k) ≡ value k
  pub code : (set v : ℕ) → set < M.sizes.m → 1 ≤ v → v ≤ M.sizes.n → mark_at marks (slot M.sizes.m (v - 1) set) ≡ letter M.sizes 1
      → page (slot M.sizes.m (v - 1) set) ≡ sum value (coded M set v)
  pub final : (k : ℕ) → k < original_count M.sizes → mark_at marks (slot_of M.sizes.m (get_or M.list k 0)) ≡ letter M.sizes 2
      → page (slot_of M.sizes.m (get_or M.list k 0)) ≡ value k

-- what the page of a slot counts as
abbrev pub counted : Plan → Chip → (t : ℕ) → List ℕ
counted X chip t = term_page X.move.sizes.p chip (term_at X chip.marks t)

pub filler-length : (P : ℕ) → length (filler_page P) ≡ P
unfolding filler_page
filler-length P = length-replicate P _

module _ (X : Plan) (originals : List ℕ) where
  open X.move.sizes use {n, m, p as P}

  pub counts-kept : (k : ℕ) → X.is_dropped k ≡ false → counts_as X originals k ≡ part P k originals
  unfolding counts_as
  counts-kept k e = rw e

  pub counts-dropped : (k : ℕ) → X.is_dropped k ≡ true → counts_as X originals k ≡ filler_page P
  unfolding counts_as
  counts-dropped k e = rw e

  pub counts-length : length originals ≡ original_count X.move.sizes * P → (k : ℕ) → k < original_count X.move.sizes → length (counts_as X originals k) ≡ P
  counts-length size k h = ⊎_elim
      (λ (e : X.is_dropped k ≡ true). ap length (counts-dropped k e) ∙ filler-length P)
      (λ (e : X.is_dropped k ≡ false). ap length (counts-kept k e) ∙ length_part P k originals (rw size (part-fits k (n * m) P h)))
      (bool_cases (X.is_dropped k))

module _ (X : Plan) (marks : List ℕ) where
  open X.move.sizes use {m}

  -- a slot with another mark than s adds its page
  pub term-other : (t : ℕ) → mark_at marks t ≢ letter X.move.sizes 0 → term_at X marks t ≡ stored t
  unfolding term_at
  term-other t ne = rw (ne_eqb (mark_at marks t) (letter X.move.sizes 0) ne)

  -- one that holds its original adds it, or 255s
  pub term-plain : (t : ℕ) → X.is_dropped (t - m) ≡ true → mark_at marks t ≡ letter X.move.sizes 0 → term_at X marks t ≡ filler
  unfolding term_at
  term-plain t d e = rw (eq-eqb (mark_at marks t) (letter X.move.sizes 0) e, d)

  pub term-kept : (t : ℕ) → X.is_dropped (t - m) ≡ false → term_at X marks t ≡ stored t
  unfolding term_at
  term-kept t d = rw (d, and-false)

-- the slot of an original, and the original of a slot
pub slot-back : (m k : ℕ) → slot_of m k - m ≡ k
slot-back m k = omega (arith, div-add-mod' k m, suc-mul (k / m) m)

module _ (X : Plan) (originals : List ℕ) (chip : Chip) (size : length originals ≡ original_count X.move.sizes * X.move.sizes.p) (H : Holding X originals chip) where
  open X.move.sizes use {m, p as P}

  stored-page : (t i : ℕ) → letter X.move.sizes i ≢ letter X.move.sizes 0 → mark_at chip.marks t ≡ letter X.move.sizes i → counted X chip t ≡ page_at P chip t
  unfolding term_page
  stored-page t i ne e = ap (term_page P chip) (term-other X chip.marks t (λ f. ne (sym e ∙ f)))

  shown-plain : (k : ℕ) → k < original_count X.move.sizes → mark_at chip.marks (slot_of m k) ≡ letter X.move.sizes 0 → counted X chip (slot_of m k) ≡ counts_as X originals k
  unfolding term_page
  shown-plain k h e = ⊎_elim
      (λ (d : X.is_dropped k ≡ true).
      ap (term_page P chip) (term-plain X chip.marks (slot_of m k) (ap X.is_dropped (slot-back m k) ∙ d) e) ∙ sym (counts-dropped X originals k d))
      (λ (d : X.is_dropped k ≡ false).
      ap (term_page P chip) (term-kept X chip.marks (slot_of m k) (ap X.is_dropped (slot-back m k) ∙ d)) ∙ H.plain k h e ∙ sym (counts-kept X originals k d))
      (bool_cases (X.is_dropped k))

  pub holding-shows : Shows X.move chip.marks (counts_as X originals) (counted X chip)
  unfolding letter
  holding-shows = record {
    whole = counts-length X originals size;
    plain = shown-plain;
    code = λ set v s l u e. stored-page (slot m (v - 1) set) 1 (λ f. absurd (omega arith)) e ∙ H.code set v s l u e;
    final = λ k h e. stored-page (slot_of m (get_or X.move.list k 0)) 2 (λ f. absurd (omega arith)) e ∙ H.final k h e;
  }
