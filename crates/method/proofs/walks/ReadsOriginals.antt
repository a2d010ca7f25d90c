-- Read's rules on marks that fit: every original is the sum of at most n pages of full blocks.
use Rattle.flash.proofs.Kit.{◌≡◌, refl, sym, ◌∙◌, ◌⊎◌, ⊎_elim, ◌≢◌, true, false, ◌||◌, or-true, List, [], ◌∷◌, ℕ, ◌+◌, ◌-◌, ◌*◌, ◌≤◌, ◌<◌, arith, length}
use Rattle.flash.specs.Lists.{range, any}
use Rattle.flash.specs.Geometry.{block_of, original_count, letter}
use Rattle.flash.specs.Chip.{Chip}
use Rattle.flash.proofs.Bools.{bool_cases, never_both, or-false-left, or-false-right, fails}
use Rattle.flash.proofs.Ranges.{any-is, none_is}
use Rattle.flash.proofs.Blocks.{full-same}
use Rattle.flash.proofs.Comparisons.{lt-cases}
use Rattle.split.specs.Split.{set_of}
use Rattle.method.specs.Move.{Move, Plan, AcceptedMove}
use Rattle.method.specs.Cycle.{dest, pred, top, is_top}
use Rattle.method.specs.Read.{full_of, plain_slot, final_slot, go_back, go_on, read_slots, read_page}
use Rattle.method.specs.State.{counts_as}
use Rattle.method.specs.inner.Shape.{Shape}
use Rattle.method.proofs.basics.MoveShape.{Holding, counted, counts-dropped, holding-shows}
use Rattle.method.proofs.cycles.Orbits.{DataBlock}
use Rattle.method.proofs.cycles.SetCycles.{set-in, block_in, D-is, dest-in, dest-is, pred_in}
use Rattle.method.proofs.cycles.Tops.{top_in, top-ge-self, top-pred}
use Rattle.method.proofs.walks.WalkSlots.{back_ends}
use Rattle.method.proofs.walks.WalkBounds.{on-bound}
use Rattle.method.proofs.walks.StoredPages.{Stored, Reads, reads-one, reads-within, full-clear, plain-stored, final-stored}
use Rattle.method.proofs.walks.Terms.{page-dropped, page-kept}
use Rattle.method.proofs.walks.CodedWalks.{Met, reads-back, reads_on}

module _ (M : Move) (A : AcceptedMove M) (marks : List ℕ) (low high i : ℕ) (S : Shape M.sizes marks low high i) where
  open M.sizes use {n, m}

  -- a block that is not full of s + i lies below `high`
  pub below-high : (b : ℕ) → b ≤ n → full_of M marks i b ≡ false → b < high
  unfolding full_of
  below-high b h e = (let not-above : high ≤ b → ⊥ = λ l. never_both (S.above b l h) e in omega arith)

  -- no block is full of another letter than the shape says
  pub not_full : (j b : ℕ) → b ≤ n → (b < low → letter M.sizes 1 ≢ letter M.sizes j) → (high ≤ b → letter M.sizes i ≢ letter M.sizes j) → full_of M marks j b ≡ false
  unfolding full_of
  not_full j b h f g = fails (λ e. ⊎_elim
      (λ (l : b < low). f l (full-same m marks b (letter M.sizes 1) (letter M.sizes j) A.ranges.m-low (S.below b l) e))
      (λ (l : high ≤ b). g l (full-same m marks b (letter M.sizes i) (letter M.sizes j) A.ranges.m-low (S.above b l h) e))
      (full-clear M marks low high A i S j b e))

-- where the rules of reading start: v is the block that k came from
module _ (M : Move) (A : AcceptedMove M) (marks : List ℕ) (low high : ℕ) (k : ℕ) (k-in : k < original_count M.sizes) where
  open M.sizes use {n, m}

  abbrev v : ℕ
  v = block_of m k

  abbrev set : ℕ
  set = set_of M.sets k

  v-in : DataBlock n v
  v-in = block_in M A k k-in

  set-ok : set < m
  set-ok = set-in M A k k-in

  -- rule 1
  one-page : (j t : ℕ) → Stored M marks j t (k ∷ []) → Reads M marks n (t ∷ []) k
  one-page j t s = reads-within M marks 1 n k (t ∷ []) A.ranges.n-low (reads-one M marks j t k s)

  -- ---- the first pass
  module _ (S : Shape M.sizes marks low high 0) where
    under : (b : ℕ) → DataBlock n b → full_of M marks 0 b ≡ false → b ≤ low
    under b b-in e = omega (arith, below-high M A marks low high 0 S b b-in.high e, S.near)

    near : (b : ℕ) → Met M low set (top M set v) b → back_ends M marks set b ≡ false → pred M set b ≤ low
    unfolding back_ends
    near b o goes =
        under (pred M set b) (pred_in M A set set-ok b o.inside) (or-false-right (is_top M set b) (full_of M marks 0 (pred M set b)) goes)

    -- block n is full of s, or all blocks but that one are full of s + 1
    plain-left : (full_of M marks 1 (top M set v - 1) || any (full_of M marks 0) (range 0 (n + 1))) ≡ true
    unfolding full_of
    plain-left = ⊎_elim
        (λ (l : n < high).
        let t-in = top_in M A set set-ok v v-in in
        rw (S.below (top M set v - 1) (omega (arith, S.near))))
        (λ (l : high ≤ n). rw (any-is (full_of M marks 0) 0 (n + 1) n (omega arith) (omega arith) (S.above n l (omega arith)), or-true))
        (lt-cases n high)

    reads-forward : Reads M marks n (read_slots M marks k) k
    unfolding read_slots letter
    reads-forward = ⊎_elim
        (λ (plain : full_of M marks 0 v ≡ true).
        rw plain (one-page 0 (plain_slot M marks k) (plain-stored M marks low high A 0 S k k-in plain)))
        (λ (gone : full_of M marks 0 v ≡ false).
        let not_there = not_full M A marks low high 0 S 2 (dest M set v) (dest-in M A set set-ok v v-in).high (λ l. omega arith) (λ l. omega arith) in
        let v-met : Met M low set (top M set v) v = record { inside = v-in; under = under v v-in gone; of-cycle = refl } in
        rw (gone, not_there, plain-left) (rw (D-is M A k k-in) at (reads-back M A marks low high 0 S set set-ok (top M set v) v v-met near)))
        (bool_cases (full_of M marks 0 v))

  -- ---- the second pass
  module _ (S : Shape M.sizes marks low high 2) where
    no_plain : (b : ℕ) → b ≤ n → full_of M marks 0 b ≡ false
    unfolding letter
    no_plain b h = not_full M A marks low high 2 S 0 b h (λ l. omega arith) (λ l. omega arith)

    -- the whole cycle is still coded
    reads-coded : full_of M marks 1 (top M set v - 1) ≡ true → Reads M marks n (go_back M marks set n v) k
    unfolding letter full_of
    reads-coded full = rw (D-is M A k k-in) at (reads-back M A marks low high 2 S set set-ok (top M set v) v v-met near-top)
      where
        top-under : top M set v ≤ low
        top-under = ⊎_elim
            (λ (l : top M set v - 1 < low). omega arith)
            (λ (l : high ≤ top M set v - 1).
            let t-in = top_in M A set set-ok v v-in in
            absurd (never_both full (not_full M A marks low high 2 S 1 (top M set v - 1) (omega arith) (λ h. absurd (omega (arith, S.order))) (λ h. omega arith))))
            (full-clear M marks low high A 2 S 1 (top M set v - 1) full)

        v-met : Met M low set (top M set v) v
        v-met = record { inside = v-in; under = omega (arith, top-ge-self M A set set-ok v v-in, top-under); of-cycle = refl }

        near-top : (b : ℕ) → Met M low set (top M set v) b → back_ends M marks set b ≡ false → pred M set b ≤ low
        near-top b o goes =
            let u-in = pred_in M A set set-ok b o.inside in
            omega (arith, top-ge-self M A set set-ok (pred M set b) u-in, top-pred M A set set-ok b o.inside, o.of-cycle, top-under)

    -- its top is final already
    module _ (gone : full_of M marks 1 (top M set v - 1) ≡ false) where
      over : low < top M set v
      unfolding full_of
      over =
          let t-in = top_in M A set set-ok v v-in in
          let not-under : top M set v ≤ low → ⊥ = λ l. never_both (S.below (top M set v - 1) (omega arith)) gone in
          omega arith

      top-final : full_of M marks 2 (top M set v) ≡ true
      unfolding full_of
      top-final = S.above (top M set v) (omega (arith, S.near, over)) (top_in M A set set-ok v v-in).high

      reads-final : full_of M marks 2 (dest M set v) ≡ false → Reads M marks n (go_on M marks set n v) k
      reads-final not_there =
          rw (D-is M A k k-in) at (reads_on M A marks low high 2 S set set-ok (top M set v) v v-in refl over top-final not_there
          (λ b b-in e. omega (arith, below-high M A marks low high 2 S (dest M set b) (dest-in M A set set-ok b b-in).high e, S.near)))

    reads-backward : Reads M marks n (read_slots M marks k) k
    unfolding read_slots
    reads-backward = ⊎_elim
        (λ (there : full_of M marks 2 (dest M set v) ≡ true).
        rw (no_plain v v-in.high, there) (one-page 2 (final_slot M marks k) (final-stored M marks low high A 2 S k k-in (rw (dest-is M A k k-in) at there))))
        (λ (not_there : full_of M marks 2 (dest M set v) ≡ false).
        ⊎_elim
        (λ (full : full_of M marks 1 (top M set v - 1) ≡ true). rw (no_plain v v-in.high, not_there, full) (reads-coded full))
        (λ (gone : full_of M marks 1 (top M set v - 1) ≡ false).
        rw (no_plain v v-in.high, not_there, gone, none_is (full_of M marks 0) 0 (n + 1) (λ b a h. no_plain b (omega arith))) (reads-final gone not_there))
        (bool_cases (full_of M marks 1 (top M set v - 1))))
        (bool_cases (full_of M marks 2 (dest M set v)))

  pub reads : (i : ℕ) → (i ≡ 0) ⊎ (i ≡ 2) → Shape M.sizes marks low high i → Reads M marks n (read_slots M marks k) k
  reads i which S = ⊎_elim
      (λ (e : i ≡ 0). reads-forward (rw e at S))
      (λ (e : i ≡ 2). reads-backward (rw e at S))
      which

  -- rule 3's walk has an end
  pub reads-on-bound : (i : ℕ) → (i ≡ 0) ⊎ (i ≡ 2) → Shape M.sizes marks low high i → full_of M marks 2 (dest M set v) ≡ false
      → (full_of M marks 1 (top M set v - 1) || any (full_of M marks 0) (range 0 (n + 1))) ≡ false
      → (extra : ℕ) → go_on M marks set (n + extra) v ≡ go_on M marks set n v
  reads-on-bound i which S not_there not_back extra = ⊎_elim
      (λ (e : i ≡ 0). absurd (never_both (plain-left (rw e at S)) not_back))
      (λ (e : i ≡ 2).
      let gone = or-false-left (full_of M marks 1 (top M set v - 1)) (any (full_of M marks 0) (range 0 (n + 1))) not_back in
      on-bound M A marks set set-ok v v-in (top-final (rw e at S) gone) not_there extra)
      which

-- what is summed is what original k counts as
pub reads-original : (X : Plan) (A : AcceptedMove X.move) (low high i k : ℕ) (originals : List ℕ) (chip : Chip) → (i ≡ 0) ⊎ (i ≡ 2)
    → Shape X.move.sizes chip.marks low high i → length originals ≡ original_count X.move.sizes * X.move.sizes.p → Holding X originals chip
    → k < original_count X.move.sizes → read_page X chip k ≡ counts_as X originals k
reads-original X A low high i k originals chip which S size H h = ⊎_elim
    (λ (e : X.is_dropped k ≡ true). page-dropped X chip k e ∙ sym (counts-dropped X originals k e))
    (λ (e : X.is_dropped k ≡ false).
    page-kept X chip k e ∙ (reads X.move A chip.marks low high k h i which S).original (counts_as X originals) (counted X chip) (holding-shows X originals chip size H))
    (bool_cases (X.is_dropped k))
