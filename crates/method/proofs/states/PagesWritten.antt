-- What a write stores: a page of P bytes, and the sum of its originals where whole pages hold what they should.
use Rattle.flash.proofs.Kit.{◌≡◌, refl, ap, ◌∙◌, ◌⊎◌, ⊎_elim, true, false, List, [], ◌∷◌, ℕ, zero, suc, ◌-◌, ◌*◌, ◌≤◌, ◌<◌, mul-le-mul_right, suc-mul}
use Rattle.flash.proofs.Kit.{arith, length, get_or}
use Rattle.flash.specs.Lists.{concat_map}
use Rattle.flash.specs.declared.sizes.Sizes.{Sizes}
use Rattle.flash.specs.Geometry.{number_at, original_count, slot_count, store_len}
use Rattle.flash.specs.PageSum.{◌⊕◌, sum}
use Rattle.flash.specs.Chip.{Chip}
use Rattle.flash.proofs.Bools.{bool_cases}
use Rattle.flash.proofs.Bounds.{slot-in-store}
use Rattle.flash.proofs.Parts.{length_part}
use Rattle.flash.proofs.Sums.{sum-append, sum_same, length-sum}
use Rattle.flash.proofs.Chips.{page-is}
use Rattle.method.specs.Move.{Move, Plan, AcceptedMove}
use Rattle.method.specs.Cycle.{D, pred, is_top, coded}
use Rattle.method.specs.Place.{Pass}
use Rattle.method.specs.Read.{Term, stored, filler, term_page, term_at, read_slots, read_terms, read_page}
use Rattle.method.specs.State.{counts_as}
use Rattle.method.specs.Step.{originals_of, write_terms, written_page}
use Rattle.method.specs.inner.Shape.{Shape}
use Rattle.method.proofs.basics.MoveShape.{Holding, counted, filler-length}
use Rattle.method.proofs.cycles.Orbits.{DataBlock}
use Rattle.method.proofs.cycles.SetCycles.{D-page, pred_in}
use Rattle.method.proofs.walks.Terms.{term-cases, page-dropped, page-kept}
use Rattle.method.proofs.walks.ReadsOriginals.{reads, reads-original}

-- each of a list of originals is one
abbrev pub Originals : Move → List ℕ → Type 0
Originals M ks = (i : ℕ) → i < length ks → get_or ks i 0 < original_count M.sizes

pub originals-one : (M : Move) (x : ℕ) → x < original_count M.sizes → Originals M (x ∷ [])
originals-one M x h zero l = h
originals-one M x h (suc i) l = absurd (omega arith)

module _ (M : Move) (A : AcceptedMove M) where
  open M.sizes use {n, m, p as P}

  abbrev Z : Sizes
  Z = M.sizes

  -- a page of a data block is an original
  pub number_in : (b q : ℕ) → 1 ≤ b → b ≤ n → q < m → number_at m b q < original_count Z
  number_in b q l h k = omega (arith, mul-le-mul_right m h, suc-mul (b - 1) m, ap (λ (x : ℕ). x * m) (whole b l))
    where
      whole : (b : ℕ) → 1 ≤ b → suc (b - 1) ≡ b
      whole b l = omega arith

  pub coded_in : (set i : ℕ) → set < m → DataBlock n i → Originals M (coded M set i)
  unfolding coded
  coded_in set i s b = ⊎_elim
      (λ (e : is_top M set i ≡ true). rw e (originals-one M (D M set i) (D-page M A set s i b).inside))
      (λ (e : is_top M set i ≡ false).
      rw e (two (D M set i) (D M set (pred M set i)) (D-page M A set s i b).inside (D-page M A set s (pred M set i) (pred_in M A set s i b)).inside))
      (bool_cases (is_top M set i))
    where
      two : (x y : ℕ) → x < original_count Z → y < original_count Z → Originals M (x ∷ y ∷ [])
      two x y h k zero l = h
      two x y h k (suc zero) l = k
      two x y h k (suc (suc i)) l = absurd (omega arith)

  pub coded-some : (set i : ℕ) → 0 < length (coded M set i)
  unfolding coded
  coded-some set i = ⊎_elim
      (λ (e : is_top M set i ≡ true). rw e (omega arith))
      (λ (e : is_top M set i ≡ false). rw e (omega arith))
      (bool_cases (is_top M set i))

-- the sum over the terms of several originals is the sum of their reads
pub sum-concat : {A : Type 0} (page : A → List ℕ) (f : ℕ → List A) (ks : List ℕ) → sum page (concat_map f ks) ≡ sum (λ k. sum page (f k)) ks
unfolding sum concat_map
sum-concat page f [] = refl
sum-concat page f (k ∷ ks) = sum-append page (f k) (concat_map f ks) ∙ ap (λ (x : List ℕ). sum page (f k) ⊕ x) (sum-concat page f ks)

module _ (X : Plan) (A : AcceptedMove X.move) (chip : Chip) (low high i : ℕ) (which : (i ≡ 0) ⊎ (i ≡ 2)) (S : Shape X.move.sizes chip.marks low high i)
    (size : length chip.store ≡ store_len X.move.sizes) where
  open X use {move as M}
  open M.sizes use {p as P}

  length-counted : (t : ℕ) → t < slot_count M.sizes → length (counted X chip t) ≡ P
  unfolding term_page
  length-counted t h = ⊎_elim
      (λ (e : term_at X chip.marks t ≡ stored t).
      ap (λ (x : Term). length (term_page P chip x)) e ∙ ap length (page-is P chip t) ∙ length_part P t chip.store (rw size (slot-in-store M.sizes t h)))
      (λ (e : term_at X chip.marks t ≡ filler). ap (λ (x : Term). length (term_page P chip x)) e ∙ filler-length P)
      (term-cases X chip.marks t)

  pub length-read : (k : ℕ) → k < original_count M.sizes → length (read_page X chip k) ≡ P
  length-read k h = ⊎_elim
      (λ (e : X.is_dropped k ≡ true). ap length (page-dropped X chip k e) ∙ filler-length P)
      (λ (e : X.is_dropped k ≡ false).
      let R = reads M A chip.marks low high k h i which S in
      ap length (page-kept X chip k e)
      ∙ length-sum (counted X chip) P (read_slots M chip.marks k) (λ j l. length-counted (get_or (read_slots M chip.marks k) j 0) (R.sited j l).inside) R.some)
      (bool_cases (X.is_dropped k))

  read-sum : (ks : List ℕ) → sum (term_page P chip) (concat_map (read_terms X chip.marks) ks) ≡ sum (read_page X chip) ks
  unfolding read_page
  read-sum ks = sum-concat (term_page P chip) (read_terms X chip.marks) ks

  module _ (pass : Pass) (block page : ℕ) (known : Originals M (originals_of M pass block page)) (some : 0 < length (originals_of M pass block page)) where
    pub length-written : length (written_page X pass block page chip) ≡ P
    unfolding written_page write_terms
    length-written =
        ap length (read-sum (originals_of M pass block page))
        ∙ length-sum (read_page X chip) P (originals_of M pass block page) (λ j l. length-read (get_or (originals_of M pass block page) j 0) (known j l)) some

    pub written-sum : (originals : List ℕ) → length originals ≡ original_count M.sizes * P → Holding X originals chip
        → written_page X pass block page chip ≡ sum (counts_as X originals) (originals_of M pass block page)
    unfolding written_page write_terms
    written-sum originals full H =
        read-sum (originals_of M pass block page)
        ∙ sum_same (read_page X chip) (counts_as X originals) (originals_of M pass block page)
        (λ j l. reads-original X A low high i (get_or (originals_of M pass block page) j 0) originals chip which S full H (known j l))
