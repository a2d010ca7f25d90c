-- What a page that is written costs: the stored pages that are summed for it, at most n.
use Rattle.flash.proofs.Kit.{◌≡◌, refl, sym, ap, ap₂, ◌∙◌, inr, ⊎_elim, true, false, cond, or-true, List, [], ◌∷◌, ◌++◌, map, ℕ, suc, ◌+◌, ◌≤◌, ◌<◌}
use Rattle.flash.proofs.Kit.{add-zero, add-one, arith, length}
use Rattle.flash.specs.Lists.{range, any, concat_map}
use Rattle.flash.specs.Geometry.{number_at, slot_of, letter}
use Rattle.flash.proofs.Blocks.{full-same}
use Rattle.flash.proofs.Bools.{bool_cases, fails}
use Rattle.flash.proofs.Ranges.{any-is}
use Rattle.split.specs.Split.{source_block}
use Rattle.method.specs.Move.{Plan, AcceptedMove}
use Rattle.method.specs.Cycle.{D, pred, is_top, coded, sent_to}
use Rattle.method.specs.Place.{forward, backward, written}
use Rattle.method.specs.Read.{Term, stored, filler, full_of, coded_slot, plain_slot, go_back, read_slots, stored_slots, term_at, read_terms}
use Rattle.method.specs.State.{held_originals}
use Rattle.method.specs.Step.{originals_of, write_terms, pages_read}
use Rattle.method.specs.inner.Shape.{Shape}
use Rattle.method.proofs.basics.MoveShape.{term-kept, slot-back}
use Rattle.method.proofs.cycles.Orbits.{DataBlock}
use Rattle.method.proofs.cycles.SetCycles.{D-page, pred_in, dest-pred, sent-in}
use Rattle.method.proofs.states.PagesWritten.{number_in}
use Rattle.method.proofs.walks.WalkBounds.{back-bound, back-few}
use Rattle.method.proofs.walks.Terms.{terms-kept, terms-dropped, stored-few}
use Rattle.method.proofs.walks.ReadsOriginals.{reads}

stored-append : (xs ys : List Term) → length (stored_slots (xs ++ ys)) ≡ length (stored_slots xs) + length (stored_slots ys)
unfolding stored_slots
stored-append [] ys = omega arith
stored-append (stored t ∷ xs) ys = omega (arith, stored-append xs ys)
stored-append (filler ∷ xs) ys = stored-append xs ys

-- what read counts for an original
module _ (X : Plan) (marks : List ℕ) where
  abbrev pub cost : (k : ℕ) → ℕ
  cost k = length (stored_slots (read_terms X marks k))

  pub cost-dropped : (k : ℕ) → X.is_dropped k ≡ true → cost k ≡ 0
  unfolding stored_slots
  cost-dropped k e = ap (λ (ts : List Term). length (stored_slots ts)) (terms-dropped X marks k e)

  pub cost-few : (k : ℕ) → cost k ≤ length (read_slots X.move marks k)
  cost-few k = ⊎_elim
      (λ (e : X.is_dropped k ≡ true). omega (arith, cost-dropped k e))
      (λ (e : X.is_dropped k ≡ false). rw (terms-kept X marks k e) (stored-few X marks (read_slots X.move marks k)))
      (bool_cases (X.is_dropped k))

-- ---- a coded page, written where block i above is still full of s
module _ (X : Plan) (A : AcceptedMove X.move) (marks : List ℕ) (block : ℕ) (S : Shape X.move.sizes marks block (suc block) 0)
    (block_in : block < X.move.sizes.n) (set : ℕ) (set-ok : set < X.move.sizes.m) where
  open X use {move as M}
  open M.sizes use {n, m}

  abbrev i : ℕ
  i = block + 1

  abbrev u : ℕ
  u = pred M set i

  i-in : DataBlock n i
  i-in = record { low = omega arith; high = omega arith }

  full : full_of M marks 0 i ≡ true
  unfolding full_of
  full = S.above i (omega arith) (omega arith)

  not-final : full_of M marks 2 i ≡ false
  unfolding full_of letter
  not-final = fails (λ e. absurd (omega (arith, full-same m marks i (letter M.sizes 0) (letter M.sizes 2) A.ranges.m-low (S.above i (omega arith) (omega arith)) e)))

  -- D(i) is still in its slot
  own-slots : read_slots M marks (D M set i) ≡ plain_slot M marks (D M set i) ∷ []
  unfolding read_slots source_block
  own-slots = rw ((D-page M A set set-ok i i-in).at_block, full)

  own-cost : cost X marks (D M set i) ≡ cond (X.is_dropped (D M set i)) 0 1
  unfolding stored_slots plain_slot
  own-cost = ⊎_elim
      (λ (e : X.is_dropped (D M set i) ≡ true). rw e (cost-dropped X marks (D M set i) e))
      (λ (e : X.is_dropped (D M set i) ≡ false).
      let kept = term-kept X marks (slot_of m (D M set i)) (ap X.is_dropped (slot-back m (D M set i)) ∙ e) in
      ap (λ (ts : List Term). length (stored_slots ts)) (terms-kept X marks (D M set i) e ∙ ap (map (term_at X marks)) own-slots) ∙ rw (e, kept))
      (bool_cases (X.is_dropped (D M set i)))

  -- the slots of D(pred(i)) are those of the way back from i behind c(i)
  behind : is_top M set i ≡ false → coded_slot M marks set i ∷ read_slots M marks (D M set u) ≡ go_back M marks set (suc n) i
  unfolding read_slots go_back source_block
  behind not_top =
      let page = D-page M A set set-ok u (pred_in M A set set-ok i i-in) in
      let plain : any (full_of M marks 0) (range 0 (n + 1)) ≡ true = any-is (full_of M marks 0) 0 (n + 1) i (omega arith) (omega arith) full in
      rw (page.at_block, page.in-set, dest-pred M A set set-ok i i-in, not-final, plain, or-true, not_top)

  few-behind : is_top M set i ≡ false → suc (length (read_slots M marks (D M set u))) ≤ n
  few-behind not_top =
      let all : coded_slot M marks set i ∷ read_slots M marks (D M set u) ≡ go_back M marks set n i =
      behind not_top ∙ ap (λ (bound : ℕ). go_back M marks set bound i) (sym (add-one n)) ∙ back-bound M A marks set set-ok i 1 i-in in
      omega (arith, ap length all, back-few M A marks set set-ok i i-in)

  pub coded-cost : pages_read X forward block set marks ≡ cond (X.is_dropped (D M set i)) 0 1 + cond (is_top M set i) 0 (cost X marks (D M set u))
  unfolding pages_read write_terms originals_of held_originals written coded concat_map stored_slots
  coded-cost = ⊎_elim
      (λ (e : is_top M set i ≡ true). rw e (stored-append (read_terms X marks (D M set i)) [] ∙ ap (λ (x : ℕ). x + 0) own-cost))
      (λ (e : is_top M set i ≡ false).
      rw e (stored-append (read_terms X marks (D M set i)) (read_terms X marks (D M set u) ++ [])
      ∙ ap₂ ◌+◌ own-cost (stored-append (read_terms X marks (D M set u)) [] ∙ add-zero (cost X marks (D M set u)))))
      (bool_cases (is_top M set i))

  one-most : cond (X.is_dropped (D M set i)) 0 1 ≤ 1
  one-most = ⊎_elim
      (λ (e : X.is_dropped (D M set i) ≡ true). rw e (omega arith))
      (λ (e : X.is_dropped (D M set i) ≡ false). rw e (omega arith))
      (bool_cases (X.is_dropped (D M set i)))

  pub coded-few : pages_read X forward block set marks ≤ n
  coded-few = ⊎_elim
      (λ (e : is_top M set i ≡ true). (let c = rw e at coded-cost in omega (arith, c, one-most)))
      (λ (e : is_top M set i ≡ false).
      let c = rw e at coded-cost in
      omega (arith, c, one-most, cost-few X marks (D M set u), few-behind e))
      (bool_cases (is_top M set i))

-- ---- a final page
module _ (X : Plan) (A : AcceptedMove X.move) (marks : List ℕ) (block : ℕ) (S : Shape X.move.sizes marks block (suc block) 2)
    (low : 1 ≤ block) (high : block ≤ X.move.sizes.n) (page : ℕ) (page-in : page < X.move.sizes.m) where
  open X use {move as M}

  abbrev k : ℕ
  k = sent_to M (number_at M.sizes.m block page)

  pub final-cost : pages_read X backward block page marks ≡ cost X marks k
  unfolding pages_read write_terms originals_of held_originals written concat_map stored_slots
  final-cost = stored-append (read_terms X marks k) [] ∙ add-zero (cost X marks k)

  pub final-few : pages_read X backward block page marks ≤ M.sizes.n
  final-few =
      let k-in = sent-in M A (number_at M.sizes.m block page) (number_in M A block page low high page-in) in
      omega (arith, final-cost, cost-few X marks k, (reads M A marks block (suc block) k k-in 2 (inr refl) S).few)
