-- The pages of the block that was filled last: the set of each, and that its slot is in no sum of the others.
use Rattle.flash.proofs.Kit.{◌≡◌, refl, sym, ap, ◌∙◌, subst, ⊎_elim, ◌≢◌, Bool, true, false, or-false, List, [], ◌∷◌, ℕ, suc, ◌+◌, ◌-◌, ◌/◌, ◌≤◌, ◌<◌, arith, eqb}
use Rattle.flash.proofs.Kit.{eqb-true, eq-eqb, get_or}
use Rattle.flash.specs.Lists.{any}
use Rattle.flash.specs.Geometry.{block_of, page_of, number_at, letter}
use Rattle.flash.specs.Chip.{is_full}
use Rattle.flash.proofs.Bools.{bool_cases, never_both, fails}
use Rattle.split.specs.Split.{dest_block, set_of}
use Rattle.method.specs.Move.{Move, AcceptedMove}
use Rattle.method.specs.Cycle.{D, dest, pred, sent_to}
use Rattle.method.specs.Place.{Pass, forward, backward, code, written}
use Rattle.method.specs.Read.{read_slots}
use Rattle.method.specs.State.{held_originals}
use Rattle.method.specs.Step.{originals_of}
use Rattle.method.specs.Rebuild.{set_page}
use Rattle.method.proofs.basics.EachNumber.{Each, each-one}
use Rattle.method.proofs.basics.Indexes.{slot-div, slot-mod}
use Rattle.method.proofs.cycles.SetCycles.{set-in, block_in, D-is, dest-is, pred-dest, sent-in, entry-sent}
use Rattle.method.proofs.places.PagesHeld.{edge}
use Rattle.method.proofs.states.PagesWritten.{number_in}
use Rattle.method.proofs.rebuild.Lists.{has, either, has-apart}
use Rattle.method.proofs.rebuild.BlockFilled.{JustFilled, marks_begun}
use Rattle.method.proofs.rebuild.PageSets.{set_at, held-set}
use Rattle.method.proofs.rebuild.OtherSum.{EachHas, each-has, each-added}
use Rattle.method.proofs.rebuild.ZeroSum.{L, last_slot, last_originals, rest, zero as zero_sum, zero_is, reads-begun}

-- ---- the set of a page
module _ (M : Move) (A : AcceptedMove M) where
  open M.sizes use {n, m}

  pub record PageSet (pass : Pass) (block q : ℕ) : Type 0 where
    pub set : ℕ
    pub set-ok : set < m
    pub page-is : set_page M pass block set ≡ q
    pub of-set : Each (λ j. set_of M.sets j ≡ set) (originals_of M pass block q)

  forth : (block q : ℕ) → suc block ≤ n → q < m → PageSet forward block q
  unfolding set_page originals_of held_originals written set_at
  forth block q h k = record {
    set = q;
    set-ok = k;
    page-is = refl;
    of-set = held-set M A code block q k h;
  }

  back : (block q : ℕ) → 1 ≤ block → block ≤ n → q < m → PageSet backward block q
  unfolding set_page originals_of held_originals written dest_block
  back block q l h k =
      let number : ℕ = number_at m block q in
      let inside = number_in M A block q l h k in
      let j : ℕ = sent_to M number in
      let j-in = sent-in M A number inside in
      let to = entry-sent M A number inside in
      let set : ℕ = set_of M.sets j in
      let set-ok = set-in M A j j-in in
      let up : block - 1 + 1 ≡ block = omega arith in
      let goes : dest M set (block_of m j) ≡ block = dest-is M A j j-in ∙ ap (block_of m) to ∙ ap (λ (x : ℕ). x + 1) (slot-div m (block - 1) q k) ∙ up in
      let from : pred M set block ≡ block_of m j = ap (pred M set) (sym goes) ∙ pred-dest M A set set-ok (block_of m j) (block_in M A j j-in) in
      let same : D M set (pred M set block) ≡ j = ap (D M set) from ∙ D-is M A j j-in in
      record {
        set = set;
        set-ok = set-ok;
        page-is = ap (λ (i : ℕ). page_of m (get_or M.list i 0)) same ∙ ap (page_of m) to ∙ slot-mod m (block - 1) q k;
        of-set = each-one (λ i. set_of M.sets i ≡ set) j refl;
      }

  pub page-set : (pass : Pass) (block q : ℕ) → 1 ≤ edge pass block → edge pass block ≤ n → q < m → PageSet pass block q
  page-set forward block q l h k = forth block q h k
  page-set backward block q l h k = back block q l h k

-- ---- the slot of the page is not among those of the sum that it was written from
module _ (M : Move) (A : AcceptedMove M) (marks : List ℕ) (place : ℕ) (J : JustFilled M.sizes marks place) (set : ℕ) (set-ok : set < M.sizes.m) where
  open M.sizes use {n, m}

  pub rest-apart : EachHas (λ t. t / m ≢ J.block) (rest M A marks place J set set-ok)
  rest-apart =
      each-added (λ t. t / m ≢ J.block) (read_slots M (marks_begun M A marks place J)) (last_originals M A marks place J set set-ok)
      (λ j h. each-has (λ t. t / m ≢ J.block) _ (λ i l e.
      let s = (reads-begun M A marks place J set set-ok _ ((L M A marks place J set set-ok).known j h)).sited i l in
      never_both (subst (λ (b : ℕ). is_full m (marks_begun M A marks place J) b (letter M.sizes s.index) ≡ true) e s.full)
      (J.begun.shape.between J.block (omega arith) (omega arith) s.index)))

  rest-off : has (last_slot M A marks place J set set-ok) (rest M A marks place J set set-ok) ≡ false
  rest-off = fails (λ e.
      rest-apart (last_slot M A marks place J set set-ok) e (slot-div m J.block (set_page M J.pass J.block set) (L M A marks place J set set-ok).page-in))

  pub zero_has : (u : ℕ) → has u (zero_sum M A marks place J set set-ok) ≡ either (eqb u (last_slot M A marks place J set set-ok)) (has u (rest M A marks place J set set-ok))
  unfolding any
  zero_has u =
      ap (has u) (zero_is M A marks place J set set-ok) ∙ has-apart u (last_slot M A marks place J set set-ok ∷ []) (rest M A marks place J set set-ok)
      ∙ ap (λ (b : Bool). either b (has u (rest M A marks place J set set-ok))) (or-false (eqb u (last_slot M A marks place J set set-ok)))

  pub last-in-zero : has (last_slot M A marks place J set set-ok) (zero_sum M A marks place J set set-ok) ≡ true
  unfolding either
  last-in-zero = zero_has (last_slot M A marks place J set set-ok) ∙ rw (eq-eqb (last_slot M A marks place J set set-ok) _ refl, rest-off)

  -- a slot that the zero sum lacks is neither
  pub not_last : (u : ℕ) → has u (zero_sum M A marks place J set set-ok) ≡ false → (u ≢ last_slot M A marks place J set set-ok) × (has u (rest M A marks place J set set-ok) ≡ false)
  unfolding either
  not_last u e = ⊎_elim
      (λ (q : eqb u (last_slot M A marks place J set set-ok) ≡ true).
      let off : has u (rest M A marks place J set set-ok) ≡ false = ap (λ (t : ℕ). has t (rest M A marks place J set set-ok)) (eqb-true u _ q) ∙ rest-off in
      let yes : either true false ≡ false = sym (rw (q, off) at (zero_has u)) ∙ e in
      absurd (never_both refl yes))
      (λ (q : eqb u (last_slot M A marks place J set set-ok) ≡ false).
      (λ s. never_both (eq-eqb u _ s) q, sym (rw q at (zero_has u)) ∙ e))
      (bool_cases (eqb u (last_slot M A marks place J set set-ok)))
