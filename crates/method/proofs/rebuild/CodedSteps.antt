-- While a block is unfinished: read's slots of the two originals of a coded page differ by the slot of that page.
use Rattle.flash.proofs.Kit.{◌≡◌, sym, ap, ap₂, ◌∙◌, ⊎_elim, Bool, true, false, cond, ◌||◌, or-true, or-false, List, [], ◌∷◌, ℕ, zero, suc, ◌+◌, ◌-◌, ◌≤◌, ◌<◌, arith}
use Rattle.flash.specs.Lists.{range, any}
use Rattle.flash.specs.Geometry.{letter}
use Rattle.flash.proofs.Bools.{bool_cases, never_both, fails}
use Rattle.flash.proofs.Comparisons.{lt-cases}
use Rattle.flash.proofs.Ranges.{any-is, none_is}
use Rattle.split.specs.Split.{source_block}
use Rattle.method.specs.Move.{Move, AcceptedMove}
use Rattle.method.specs.Cycle.{D, dest, pred, top, is_top}
use Rattle.method.specs.Place.{Pass, forward, backward}
use Rattle.method.specs.Read.{full_of, coded_slot, plain_slot, final_slot, go_back, go_on, read_slots}
use Rattle.method.specs.inner.Shape.{Shape}
use Rattle.method.proofs.cycles.Orbits.{DataBlock, iterate}
use Rattle.method.proofs.cycles.SetCycles.{D-page, dest-in, pred_in, dest-pred}
use Rattle.method.proofs.cycles.Tops.{top_in, top-ge-self, top-dest, top-pred, is_top-true}
use Rattle.method.proofs.places.PlaceShape.{letter_above}
use Rattle.method.proofs.walks.ReadsOriginals.{not_full}
use Rattle.method.proofs.walks.StoredPages.{full-clear}
use Rattle.method.proofs.walks.WalkBounds.{back-ends, on-ends}
use Rattle.method.proofs.walks.WalkSlots.{Ends, ends_next, walk_is, back_ends, back_last, back-walk, on_ends, on_last, on-walk}

module _ (M : Move) (A : AcceptedMove M) (marks : List ℕ) (set : ℕ) (set-ok : set < M.sizes.m) where
  open M.sizes use {n, m}

  abbrev slots_of : (v : ℕ) → List ℕ
  slots_of v = read_slots M marks (D M set v)

  -- the slots of c(v), or of the original from v with it, or of the one from pred(v) with it
  pub data Coded (v : ℕ) : Type 0 where
    alone : is_top M set v ≡ true → slots_of v ≡ coded_slot M marks set v ∷ [] → Coded v
    from-pred : is_top M set v ≡ false → slots_of v ≡ coded_slot M marks set v ∷ slots_of (pred M set v) → Coded v
    to-pred : is_top M set v ≡ false → slots_of (pred M set v) ≡ coded_slot M marks set v ∷ slots_of v → Coded v

  abbrev is_back : (v : ℕ) → Bool
  is_back v = full_of M marks 1 (top M set v - 1) || any (full_of M marks 0) (range 0 (n + 1))

  -- the rules for the original from v
  read-from : (v : ℕ) → DataBlock n v
      → slots_of v ≡ cond (full_of M marks 0 v) (plain_slot M marks (D M set v) ∷ [])
      (cond (full_of M marks 2 (dest M set v)) (final_slot M marks (D M set v) ∷ []) (cond (is_back v) (go_back M marks set n v) (go_on M marks set n v)))
  unfolding read_slots source_block
  read-from v v-in =
      let p = D-page M A set set-ok v v-in in
      ap₂ (λ (b q : ℕ). cond (full_of M marks 0 b) (plain_slot M marks (D M set v) ∷ [])
      (cond (full_of M marks 2 (dest M q b)) (final_slot M marks (D M set v) ∷ [])
      (cond (full_of M marks 1 (top M q b - 1) || any (full_of M marks 0) (range 0 (n + 1))) (go_back M marks q n b) (go_on M marks q n b))))
      p.at_block p.in-set

  -- ---- one turn of a walk
  back-turn : (v : ℕ) → 1 ≤ n
      → go_back M marks set n v ≡ coded_slot M marks set v ∷ cond (is_top M set v) [] (cond (full_of M marks 0 (pred M set v)) (plain_slot M marks (D M set (pred M set v)) ∷ []) (go_back M marks set (n - 1) (pred M set v)))
  unfolding go_back
  back-turn v h = (let e : n ≡ suc (n - 1) = omega arith in ap (λ (b : ℕ). go_back M marks set b v) e)

  on-turn : (v : ℕ) → 1 ≤ n
      → go_on M marks set n v ≡ coded_slot M marks set (dest M set v) ∷ cond (full_of M marks 2 (dest M set (dest M set v))) (final_slot M marks (D M set (dest M set v)) ∷ []) (go_on M marks set (n - 1) (dest M set v))
  unfolding go_on
  on-turn v h = (let e : n ≡ suc (n - 1) = omega arith in ap (λ (b : ℕ). go_on M marks set b v) e)

  -- the bound is not what ends it, one turn later as well
  back-later : (v : ℕ) → DataBlock n v → back_ends M marks set v ≡ false → go_back M marks set (n - 1) (pred M set v) ≡ go_back M marks set n (pred M set v)
  unfolding iterate
  back-later v v-in goes = (let e = back-ends M A marks set set-ok v v-in in go e.0 e.1 e.2)
    where
      go : (d : ℕ) → d < n → Ends (pred M set) (back_ends M marks set) d v → go_back M marks set (n - 1) (pred M set v) ≡ go_back M marks set n (pred M set v)
      go zero h E = absurd (never_both E.here goes)
      go (suc d) h E =
          let u : ℕ = pred M set v in
          let F = ends_next (pred M set) (back_ends M marks set) d v E in
          back-walk M marks set (n - 1) u
          ∙ walk_is (pred M set) (coded_slot M marks set) (back_last M marks set) (back_ends M marks set) (n - 1) d u F (omega arith)
          ∙ sym (walk_is (pred M set) (coded_slot M marks set) (back_last M marks set) (back_ends M marks set) n d u F (omega arith))
          ∙ sym (back-walk M marks set n u)

  on-later : (v : ℕ) → DataBlock n v → full_of M marks 2 (top M set v) ≡ true → full_of M marks 2 (dest M set v) ≡ false → go_on M marks set (n - 1) v ≡ go_on M marks set n v
  on-later v v-in top-full not_there =
      let e = on-ends M A marks set set-ok v v-in top-full not_there in
      on-walk M marks set (n - 1) v
      ∙ walk_is (dest M set) (coded_slot M marks set) (on_last M marks set) (on_ends M marks set) (n - 1) e.0 (dest M set v) e.2 (omega (arith, e.1))
      ∙ sym (walk_is (dest M set) (coded_slot M marks set) (on_last M marks set) (on_ends M marks set) n e.0 (dest M set v) e.2 (omega (arith, e.1)))
      ∙ sym (on-walk M marks set n v)

  -- going back from v, where the walk from pred(v) is what read sums for it
  by-back : (v : ℕ) → DataBlock n v → slots_of v ≡ go_back M marks set n v
      → (full_of M marks 0 (pred M set v) ≡ true → slots_of (pred M set v) ≡ plain_slot M marks (D M set (pred M set v)) ∷ [])
      → (is_top M set v ≡ false → full_of M marks 0 (pred M set v) ≡ false → slots_of (pred M set v) ≡ go_back M marks set n (pred M set v)) → Coded v
  unfolding back_ends
  by-back v v-in is plain walks = ⊎_elim
      (λ (t : is_top M set v ≡ true). alone t (is ∙ back-turn v A.ranges.n-low ∙ rw t))
      (λ (t : is_top M set v ≡ false). from-pred t (is ∙ back-turn v A.ranges.n-low ∙ ap (λ (ts : List ℕ). coded_slot M marks set v ∷ ts) (rest t)))
      (bool_cases (is_top M set v))
    where
      rest : is_top M set v ≡ false
          → cond (is_top M set v) [] (cond (full_of M marks 0 (pred M set v)) (plain_slot M marks (D M set (pred M set v)) ∷ []) (go_back M marks set (n - 1) (pred M set v))) ≡ slots_of (pred M set v)
      rest t = ⊎_elim
          (λ (f : full_of M marks 0 (pred M set v) ≡ true). rw (t, f) (sym (plain f)))
          (λ (f : full_of M marks 0 (pred M set v) ≡ false). rw (t, f) (back-later v v-in (rw (t, f)) ∙ sym (walks t f)))
          (bool_cases (full_of M marks 0 (pred M set v)))

  module _ (low : ℕ) where
    -- ---- the first pass
    module _ (S : Shape M.sizes marks low (suc low) 0) where
      not-final : (b : ℕ) → b ≤ n → full_of M marks 2 b ≡ false
      unfolding letter
      not-final b h = not_full M A marks low (suc low) 0 S 2 b h (λ l. omega arith) (λ l. omega arith)

      is-back : (v : ℕ) → DataBlock n v → is_back v ≡ true
      unfolding full_of
      is-back v v-in = ⊎_elim
          (λ (l : n < suc low).
          let t-in = top_in M A set set-ok v v-in in
          rw (S.below (top M set v - 1) (omega arith)))
          (λ (l : suc low ≤ n). rw (any-is (full_of M marks 0) 0 (n + 1) n (omega arith) (omega arith) (S.above n l (omega arith)), or-true))
          (lt-cases n (suc low))

      read-forth : (v : ℕ) → DataBlock n v → slots_of v ≡ cond (full_of M marks 0 v) (plain_slot M marks (D M set v) ∷ []) (go_back M marks set n v)
      read-forth v v-in = read-from v v-in ∙ rw (not-final (dest M set v) (dest-in M A set set-ok v v-in).high, is-back v v-in)

      forth : (v : ℕ) → DataBlock n v → v ≤ low → Coded v
      unfolding letter
      forth v v-in under =
          let gone : full_of M marks 0 v ≡ false = not_full M A marks low (suc low) 0 S 0 v v-in.high (λ l. omega arith) (λ l. absurd (omega arith)) in
          let u-in = pred_in M A set set-ok v v-in in
          by-back v v-in (read-forth v v-in ∙ rw gone)
          (λ f. read-forth (pred M set v) u-in ∙ rw f)
          (λ t f. read-forth (pred M set v) u-in ∙ rw f)

    -- ---- the second pass
    module _ (S : Shape M.sizes marks low (suc low) 2) where
      no_plain : (b : ℕ) → b ≤ n → full_of M marks 0 b ≡ false
      unfolding letter
      no_plain b h = not_full M A marks low (suc low) 2 S 0 b h (λ l. omega arith) (λ l. omega arith)

      not_there : (b : ℕ) → b ≤ n → b ≤ low → full_of M marks 2 b ≡ false
      unfolding letter
      not_there b h under = not_full M A marks low (suc low) 2 S 2 b h (λ l. omega arith) (λ l. absurd (omega arith))

      read_back : (v : ℕ) → DataBlock n v
          → slots_of v ≡ cond (full_of M marks 2 (dest M set v)) (final_slot M marks (D M set v) ∷ []) (cond (full_of M marks 1 (top M set v - 1)) (go_back M marks set n v) (go_on M marks set n v))
      read_back v v-in =
          read-from v v-in
          ∙ rw (no_plain v v-in.high, none_is (full_of M marks 0) 0 (n + 1) (λ b a h. no_plain b (omega arith)), or-false)

      -- the whole cycle is coded
      module _ (v : ℕ) (v-in : DataBlock n v) (under : v ≤ low) where
        coded-cycle : full_of M marks 1 (top M set v - 1) ≡ true → Coded v
        unfolding letter full_of
        coded-cycle full =
            let t-in = top_in M A set set-ok v v-in in
            let u-in = pred_in M A set set-ok v v-in in
            let w-in = dest-in M A set set-ok v v-in in
            let top-low : top M set v ≤ low = ⊎_elim
            (λ (l : top M set v - 1 < low). omega arith)
            (λ (l : suc low ≤ top M set v - 1).
            absurd (never_both full (not_full M A marks low (suc low) 2 S 1 (top M set v - 1) (omega arith) (λ h. absurd (omega arith)) (λ h. omega arith))))
            (full-clear M marks low (suc low) A 2 S 1 (top M set v - 1) full) in
            let w-low : dest M set v ≤ low = omega (arith, top-ge-self M A set set-ok (dest M set v) w-in, top-dest M A set set-ok v v-in) in
            by-back v v-in (read_back v v-in ∙ rw (not_there (dest M set v) w-in.high w-low, full))
            (λ f. absurd (never_both f (no_plain (pred M set v) u-in.high)))
            (λ t f. read_back (pred M set v) u-in ∙ rw (dest-pred M A set set-ok v v-in, not_there v v-in.high under, top-pred M A set set-ok v v-in, full))

        -- its top is final
        final-top : full_of M marks 1 (top M set v - 1) ≡ false → Coded v
        unfolding full_of
        final-top gone =
            let t-in = top_in M A set set-ok v v-in in
            let u-in = pred_in M A set set-ok v v-in in
            let not-under : top M set v ≤ low → ⊥ = λ l. never_both (S.below (top M set v - 1) (omega arith)) gone in
            let over : low < top M set v = omega arith in
            let top-full : full_of M marks 2 (top M set v) ≡ true = S.above (top M set v) over t-in.high in
            let not_top : is_top M set v ≡ false = fails (λ t. absurd (omega (arith, is_top-true M set v t))) in
            let turn = rw (dest-pred M A set set-ok v v-in) at (on-turn (pred M set v) A.ranges.n-low) in
            let walks : slots_of (pred M set v) ≡ go_on M marks set n (pred M set v) =
            read_back (pred M set v) u-in ∙ rw (dest-pred M A set set-ok v v-in, not_there v v-in.high under, top-pred M A set set-ok v v-in, gone) in
            to-pred not_top
            (walks ∙ turn
            ∙ ap (λ (ts : List ℕ). coded_slot M marks set v ∷ ts) (rest top-full))
          where
            rest : full_of M marks 2 (top M set v) ≡ true
                → cond (full_of M marks 2 (dest M set v)) (final_slot M marks (D M set v) ∷ []) (go_on M marks set (n - 1) v) ≡ slots_of v
            rest top-full = ⊎_elim
                (λ (f : full_of M marks 2 (dest M set v) ≡ true). rw f (sym (read_back v v-in ∙ rw f)))
                (λ (f : full_of M marks 2 (dest M set v) ≡ false). rw f (on-later v v-in top-full f ∙ sym (read_back v v-in ∙ rw (f, gone))))
                (bool_cases (full_of M marks 2 (dest M set v)))

      back : (v : ℕ) → DataBlock n v → v ≤ low → Coded v
      back v v-in under = ⊎_elim (coded-cycle v v-in under) (final-top v v-in under) (bool_cases (full_of M marks 1 (top M set v - 1)))

    pub coded-steps : (pass : Pass) → Shape M.sizes marks low (suc low) (letter_above pass) → (v : ℕ) → DataBlock n v → v ≤ low → Coded v
    coded-steps forward S = forth S
    coded-steps backward S = back S
