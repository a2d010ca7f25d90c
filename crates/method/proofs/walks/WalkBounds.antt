-- The bounds of read's walks are never what ends them.
use Rattle.flash.proofs.Kit.{◌≡◌, sym, ap, ◌∙◌, ⊎_elim, true, false, List, ℕ, zero, suc, ◌+◌, ◌≤◌, ◌<◌, arith, length}
use Rattle.flash.proofs.Bools.{bool_cases, never_both}
use Rattle.method.specs.Move.{Move, AcceptedMove}
use Rattle.method.specs.Cycle.{dest, pred, top, is_top}
use Rattle.method.specs.Read.{full_of, coded_slot, go_back, go_on}
use Rattle.method.proofs.cycles.Orbits.{DataBlock, iterate}
use Rattle.method.proofs.cycles.Tops.{top-top, top-behind, top-ahead, top-is_top}
use Rattle.method.proofs.walks.WalkSlots.{Ends, ends_by, way, length-way, walk_is, walk_more, back_ends, back_last, back-walk, on_ends, on_last, on-walk}

module _ (M : Move) (A : AcceptedMove M) (marks : List ℕ) (set : ℕ) (set-ok : set < M.sizes.m) where
  open M.sizes use {n}

  -- going back: within n blocks, the top being the last of them
  pub back-ends : (v : ℕ) → DataBlock n v → (d : ℕ) × (d < n) × Ends (pred M set) (back_ends M marks set) d v × (is_top M set (iterate (pred M set) d v) ≡ false → suc d < n)
  unfolding back_ends
  back-ends v v-in =
      let t = top-behind M A set set-ok v v-in in
      let at_top : is_top M set (iterate (pred M set) t.0 v) ≡ true = rw t.2 (top-is_top M set (top M set v) (top-top M A set set-ok v v-in)) in
      let e = ends_by (pred M set) (back_ends M marks set) t.0 v (rw at_top) in
      let d : ℕ = e.0 in
      let before-top : is_top M set (iterate (pred M set) d v) ≡ false → suc d < n = λ no.
      let apart : d ≡ t.0 → ⊥ = λ q. never_both at_top (ap (λ (j : ℕ). is_top M set (iterate (pred M set) j v)) (sym q) ∙ no) in
      omega (arith, e.1, t.1) in
      (d, omega (arith, e.1, t.1), e.2, before-top)

  pub back-bound : (v extra : ℕ) → DataBlock n v → go_back M marks set (n + extra) v ≡ go_back M marks set n v
  back-bound v extra v-in =
      let e = back-ends v v-in in
      back-walk M marks set (n + extra) v
      ∙ walk_more (pred M set) (coded_slot M marks set) (back_last M marks set) (back_ends M marks set) n extra e.0 v e.2 e.1
      ∙ sym (back-walk M marks set n v)

  -- it takes at most n slots
  pub back-few : (v : ℕ) → DataBlock n v → length (go_back M marks set n v) ≤ n
  unfolding back_last
  back-few v v-in =
      let e = back-ends v v-in in
      let c : ℕ = iterate (pred M set) e.0 v in
      let is : go_back M marks set n v ≡ way (pred M set) (coded_slot M marks set) (back_last M marks set) e.0 v =
      back-walk M marks set n v ∙ walk_is (pred M set) (coded_slot M marks set) (back_last M marks set) (back_ends M marks set) n e.0 v e.2 e.1 in
      let size = length-way (pred M set) (coded_slot M marks set) (back_last M marks set) e.0 v in
      ⊎_elim
      (λ (t : is_top M set c ≡ true). rw is (omega (arith, rw t at size, e.1)))
      (λ (t : is_top M set c ≡ false). rw is (omega (arith, rw t at size, e.3 t)))
      (bool_cases (is_top M set c))

  -- going on: the final page of the block before the top is there
  module _ (v : ℕ) (v-in : DataBlock n v) (top-full : full_of M marks 2 (top M set v) ≡ true) (not_there : full_of M marks 2 (dest M set v) ≡ false) where
    on-from : (j : ℕ) → j < n → dest M set (iterate (dest M set) j v) ≡ top M set v → (d : ℕ) × (suc d < n) × Ends (dest M set) (on_ends M marks set) d (dest M set v)
    unfolding on_ends iterate
    on-from zero h e = absurd (never_both (rw e top-full) not_there)
    on-from (suc j) h e =
        let r = ends_by (dest M set) (on_ends M marks set) j (dest M set v) (rw e top-full) in
        (r.0, omega (arith, r.1), r.2)

    pub on-ends : (d : ℕ) × (suc d < n) × Ends (dest M set) (on_ends M marks set) d (dest M set v)
    on-ends = let t = top-ahead M A set set-ok v v-in in on-from t.0 t.1 t.2

    pub on-bound : (extra : ℕ) → go_on M marks set (n + extra) v ≡ go_on M marks set n v
    on-bound extra =
        let e = on-ends in
        on-walk M marks set (n + extra) v
        ∙ walk_more (dest M set) (coded_slot M marks set) (on_last M marks set) (on_ends M marks set) n extra e.0 (dest M set v) e.2 (omega (arith, e.1))
        ∙ sym (on-walk M marks set n v)
