-- The method's own listing: each step leads from what one place holds to what the next holds, and the last place is as the list asks.
use Rattle.flash.proofs.Kit.{◌≡◌, refl, sym, ap, ◌∙◌, subst, ◌≢◌, ⊎_elim, true, false, List, [], ◌∷◌, ℕ, zero, suc, ◌+◌, ◌-◌, ◌*◌, ◌%◌, ◌^◌, ◌≤◌, ◌<◌, suc-mul, mod-lt, arith}
use Rattle.flash.proofs.Kit.{eqb, length, get_or, set, replicate, length-set, length-replicate, get_or-replicate, get_or-set_same, get_or-set_other, ext_get_or, lt-ltb, le-ltb, le-leb, eq-eqb}
use Rattle.flash.specs.Lists.{all, set_part}
use Rattle.flash.specs.declared.sizes.Sizes.{Sizes}
use Rattle.flash.specs.Geometry.{slot, slot_of, block_of, number_at}
use Rattle.flash.proofs.Bools.{bool_cases, and_both, never_both}
use Rattle.flash.proofs.Comparisons.{lt-cases}
use Rattle.flash.proofs.Parts.{part-fits, length-set_part, set_part-at, part-set_part-other, part_at}
use Rattle.flash.proofs.Ranges.{all-is}
use Rattle.split.specs.Split.{source_block}
use Rattle.method.specs.Move.{Move, AcceptedMove}
use Rattle.method.specs.Cycle.{D, pred, dest, is_top, coded, sent_to}
use Rattle.method.specs.Place.{Pass, forward, backward, Held, plain, written, above, last_place, pass_at, filling, filled}
use Rattle.method.specs.State.{held_originals}
use Rattle.method.specs.Step.{originals_of}
use Rattle.method.proofs.basics.Indexes.{this-or-other, each-slot, slot_lt}
use Rattle.method.proofs.cycles.Orbits.{DataBlock, iterate}
use Rattle.method.proofs.cycles.SetCycles.{D-page, pred_in, dest-pred, block_in, entry_in, sent-in, sent-entry}
use Rattle.method.proofs.cycles.Tops.{top-is, top-is_top}
use Rattle.method.proofs.places.PagesHeld.{held-above, held-blank, Writes, Erases}
use Rattle.method.proofs.places.StepsAtPlaces.{Stands, stands_at, filling-in, forward-high, backward-low, last-stands}
use Rattle.method.proofs.states.NextPlace.{slots_apart_lem}
use Rattle.method.proofs.states.PagesWritten.{number_in}
use Rattle.checker.specs.Lines.{is_rising, are_originals}
use Rattle.checker.specs.Pages.{mask_of, resting_pages, is_blank, page_written, block_erased, is_requested}
use Rattle.checker.specs.Method.{inserted, ascending, move_by}
use Rattle.checker.proofs.PageLaws.{length-resting, resting-at}
use Rattle.checker.proofs.HeldLaws.{mask-ascending, held, length-held, held-at, held_plain, held-final, held-blank-page, number_is}

-- one original, or two that differ, in rising order
one-original : (most x : ℕ) → x < most → are_originals most (ascending (x ∷ [])) ≡ true
unfolding are_originals ascending inserted is_rising all
one-original most x h = rw (le-leb 0 x (omega arith), lt-ltb x most h)

two-originals : (most x y : ℕ) → x < most → y < most → x ≢ y → are_originals most (ascending (x ∷ y ∷ [])) ≡ true
unfolding are_originals ascending inserted is_rising all
two-originals most x y h k apart = ⊎_elim
    (λ (l : x < y). rw (lt-ltb x y l, le-leb 0 x (omega arith), lt-ltb x most h, lt-ltb y most k, le-leb (suc x) y l))
    (λ (l : y ≤ x). rw (le-ltb x y l, le-leb 0 y (omega arith), lt-ltb x most h, lt-ltb y most k, le-leb (suc y) x (omega arith)))
    (lt-cases x y)

above-forward : above forward ≡ plain
unfolding above
above-forward = refl

module _ (n m : ℕ) (list sets : List ℕ) (A : AcceptedMove (move_by n m list sets)) where
  abbrev M : Move
  M = move_by n m list sets

  abbrev Z : Sizes
  Z = M.sizes

  -- ---- the originals of a write
  -- two that are coded together come from two blocks
  coded-apart : (set i : ℕ) → set < m → DataBlock n i → is_top M set i ≡ false → D M set i ≢ D M set (pred M set i)
  unfolding iterate
  coded-apart set i s b top-no e =
      let here = D-page M A set s i b in
      let there = D-page M A set s (pred M set i) (pred_in M A set s i b) in
      let same : i ≡ pred M set i = sym here.at_block ∙ ap (source_block m) e ∙ there.at_block in
      never_both (alone set i s b same) top-no
    where
      stays : (f : ℕ → ℕ) (i : ℕ) → f i ≡ i → (steps : ℕ) → iterate f steps i ≡ i
      stays f i e zero = refl
      stays f i e (suc steps) = ap (iterate f steps) e ∙ stays f i e steps

      alone : (set i : ℕ) → set < m → DataBlock n i → i ≡ pred M set i → is_top M set i ≡ true
      alone set i s b same =
          let back : dest M set i ≡ i = ap (dest M set) same ∙ dest-pred M A set s i b in
          let t = top-is M A set s i b in
          top-is_top M set i (t.2 ∙ stays (dest M set) i back t.0)

  pub originals-good : (place : ℕ) → place < last_place Z → filled Z place < m → (pass : Pass) → pass_at Z place ≡ pass
      → are_originals (n * m) (ascending (originals_of M pass (filling Z place) (filled Z place))) ≡ true
  unfolding originals_of written held_originals coded
  originals-good place on room forward e =
      let q = filled Z place in
      let i = filling Z place + 1 in
      let high = forward-high Z place (omega arith) e in
      let b : DataBlock n i = record { low = omega arith; high = omega arith } in
      let here = D-page M A q room i b in
      let there = D-page M A q room (pred M q i) (pred_in M A q room i b) in
      ⊎_elim
      (λ (t : is_top M q i ≡ true). rw t (one-original (n * m) (D M q i) here.inside))
      (λ (t : is_top M q i ≡ false). rw t (two-originals (n * m) (D M q i) (D M q (pred M q i)) here.inside there.inside (coded-apart q i room b t)))
      (bool_cases (is_top M q i))
  originals-good place on room backward e =
      let number = number_at m (filling Z place) (filled Z place) in
      one-original (n * m) (sent_to M number)
      (sent-in M A number (number_in M A (filling Z place) (filled Z place) (backward-low Z place on e) (filling-in Z place (omega arith)) room))

  -- ---- what a step leaves
  module _ (place : ℕ) (pass : Pass) (b q : ℕ) (W : Writes Z place pass b q) where
    abbrev ks : List ℕ
    ks = ascending (originals_of M pass b q)

    pub write-next : page_written m (held n m list sets place) b q (mask_of ks) ≡ held n m list sets (suc place)
    unfolding page_written originals_of
    write-next =
        let before = held n m list sets place in
        let after = held n m list sets (suc place) in
        ext_get_or 0 (set before (slot m b q) (mask_of ks)) after (length-set before (slot m b q) (mask_of ks) ∙ length-held n m list sets place ∙ sym (length-held n m list sets (suc place)))
        (λ t h. each-slot m (n + 1) (λ t. get_or (set before (slot m b q) (mask_of ks)) t 0 ≡ get_or after t 0) at t
        (omega (arith, length-set before (slot m b q) (mask_of ks), length-held n m list sets place)))
      where
        stays : (c p : ℕ) → c ≤ n → p < m → (c ≡ b → p ≡ q → ⊥)
            → get_or (set (held n m list sets place) (slot m b q) (mask_of ks)) (slot m c p) 0 ≡ get_or (held n m list sets (suc place)) (slot m c p) 0
        stays c p h k apart =
            get_or-set_other (held n m list sets place) (slot m b q) (slot m c p) (mask_of ks) 0 (slots_apart_lem m b q c p W.page-in k apart)
            ∙ held-at n m list sets place c p h k
            ∙ ap (λ (x : Held). mask_of (held_originals M x c p)) (sym (W.others c p apart))
            ∙ sym (held-at n m list sets (suc place) c p h k)

        here : get_or (set (held n m list sets place) (slot m b q) (mask_of ks)) (slot m b q) 0 ≡ get_or (held n m list sets (suc place)) (slot m b q) 0
        here =
            get_or-set_same (held n m list sets place) (slot m b q) (mask_of ks) 0 (rw (length-held n m list sets place) (slot_lt m b q (n + 1) (omega (arith, W.block_in)) W.page-in))
            ∙ mask-ascending (originals_of M pass b q)
            ∙ ap (λ (x : Held). mask_of (held_originals M x b q)) (sym W.after)
            ∙ sym (held-at n m list sets (suc place) b q W.block_in W.page-in)

        at : (c p : ℕ) → c < n + 1 → p < m → get_or (set (held n m list sets place) (slot m b q) (mask_of ks)) (slot m c p) 0 ≡ get_or (held n m list sets (suc place)) (slot m c p) 0
        at c p h k =
            this-or-other (λ x. get_or (set (held n m list sets place) (slot m b q) (mask_of ks)) (slot m x p) 0 ≡ get_or (held n m list sets (suc place)) (slot m x p) 0) b c
            (this-or-other (λ y. get_or (set (held n m list sets place) (slot m b q) (mask_of ks)) (slot m b y) 0 ≡ get_or (held n m list sets (suc place)) (slot m b y) 0) q p here
            (λ apart. stays b p W.block_in k (λ e f. apart f)))
            (λ apart. stays c p (omega arith) k (λ e f. apart e))

  module _ (place b : ℕ) (E : Erases Z place b) where
    pub fits : b * m + m ≤ length (held n m list sets place)
    fits = rw (length-held n m list sets place) (part-fits b (n + 1) m (omega (arith, E.block_in)))

    pub erase-next : block_erased m (held n m list sets place) b ≡ held n m list sets (suc place)
    unfolding block_erased
    erase-next =
        let before = held n m list sets place in
        let after = held n m list sets (suc place) in
        let size = length-set_part m b before (replicate m 0) fits (length-replicate m 0) in
        ext_get_or 0 (set_part m b before (replicate m 0)) after (size ∙ length-held n m list sets place ∙ sym (length-held n m list sets (suc place)))
        (λ t h. each-slot m (n + 1) (λ t. get_or (set_part m b before (replicate m 0)) t 0 ≡ get_or after t 0) at t (omega (arith, size, length-held n m list sets place)))
      where
        at : (c p : ℕ) → c < n + 1 → p < m → get_or (set_part m b (held n m list sets place) (replicate m 0)) (slot m c p) 0 ≡ get_or (held n m list sets (suc place)) (slot m c p) 0
        at c p h k =
            this-or-other (λ x. get_or (set_part m b (held n m list sets place) (replicate m 0)) (slot m x p) 0 ≡ get_or (held n m list sets (suc place)) (slot m x p) 0) b c
            (set_part-at m b (held n m list sets place) (replicate m 0) fits (length-replicate m 0) p 0 k
            ∙ get_or-replicate m p 0 0 k
            ∙ sym (held-blank-page n m list sets (suc place) b p E.block_in k (E.after p)))
            (λ apart.
            sym (part_at m c (set_part m b (held n m list sets place) (replicate m 0)) p 0 k)
            ∙ ap (λ (l : List ℕ). get_or l p 0) (part-set_part-other m b (held n m list sets place) (replicate m 0) fits (length-replicate m 0) c apart)
            ∙ part_at m c (held n m list sets place) p 0 k
            ∙ held-at n m list sets place c p (omega arith) k
            ∙ ap (λ (x : Held). mask_of (held_originals M x c p)) (sym (E.others c p apart (omega arith) k))
            ∙ sym (held-at n m list sets (suc place) c p (omega arith) k))

  -- ---- the first state and the last
  first-stands : Stands Z 0 forward 0 0
  first-stands =
      let at : 0 * (m + 1) + 0 ≡ 0 = omega arith in
      subst (λ (p : ℕ). Stands Z p forward 0 0) at (stands_at Z forward 0 0 A.ranges.n-low (omega arith))

  plain-above : above (pass_at Z 0) ≡ plain
  plain-above = ap above first-stands.pass-is ∙ above-forward

  pub held_first : held n m list sets 0 ≡ resting_pages n m
  held_first =
      ext_get_or 0 (held n m list sets 0) (resting_pages n m) (length-held n m list sets 0 ∙ sym (length-resting n m))
      (λ t h. each-slot m (n + 1) (λ t. get_or (held n m list sets 0) t 0 ≡ get_or (resting_pages n m) t 0) at t (omega (arith, length-held n m list sets 0)))
    where
      at : (b q : ℕ) → b < n + 1 → q < m → get_or (held n m list sets 0) (slot m b q) 0 ≡ get_or (resting_pages n m) (slot m b q) 0
      at zero q h k =
          let inside = slot_lt m 0 q (n + 1) h k in
          held-blank-page n m list sets 0 0 q (omega arith) k (held-blank Z 0 0 q (sym first-stands.block-is) (omega (arith, first-stands.pages-is)))
          ∙ sym (resting-at n m (slot m 0 q) inside ∙ rw (lt-ltb (slot m 0 q) m (omega arith)))
      at (suc b) q h k =
          let inside = slot_lt m (suc b) q (n + 1) h k in
          let past : m ≤ slot m (suc b) q = omega (arith, suc-mul b m) in
          let down : suc b - 1 ≡ b = omega arith in
          let below : slot m (suc b) q - m ≡ b * m + q = omega (arith, suc-mul b m) in
          let number : slot m (suc b) q - m ≡ number_at m (suc b) q = below ∙ ap (λ (x : ℕ). x * m + q) (sym down) in
          held_plain n m list sets 0 (suc b) q (omega arith) k (held-above Z 0 (suc b) q (omega (arith, first-stands.block-is)) ∙ plain-above)
          ∙ sym (resting-at n m (slot m (suc b) q) inside ∙ rw (le-ltb (slot m (suc b) q) m past, number))

  pub held-last : is_requested m list (held n m list sets (last_place Z)) ≡ true
  unfolding is_requested above
  held-last =
      and_both _ _
      (all-is (λ k. eqb (get_or (held n m list sets (last_place Z)) (slot_of m (get_or list k 0)) 0) (2 ^ k)) 0 (length list) (λ k a h.
      let t = get_or list k 0 in
      let k-in : k < n * m = omega (arith, A.list_length) in
      let b = block_in M A t (entry_in M A k k-in) in
      eq-eqb (get_or (held n m list sets (last_place Z)) (slot_of m t) 0) (2 ^ k)
      (held-final n m list sets (last_place Z) (block_of m t) (t % m) b.high (mod-lt t A.ranges.m-low)
      (held-above Z (last_place Z) (block_of m t) (t % m) (omega (arith, (last-stands Z).block-is, b.low)) ∙ ap above (last-stands Z).pass-is)
      ∙ ap (λ (x : ℕ). 2 ^ sent_to M x) (number_is n m list sets A t) ∙ ap (λ (x : ℕ). 2 ^ x) (sent-entry M A k k-in))))
      (all-is (is_blank (held n m list sets (last_place Z))) 0 m (λ q a h.
      let here : slot m 0 q ≡ q = omega arith in
      eq-eqb (get_or (held n m list sets (last_place Z)) q 0) 0
      (ap (λ (t : ℕ). get_or (held n m list sets (last_place Z)) t 0) (sym here)
      ∙ held-blank-page n m list sets (last_place Z) 0 q (omega arith) (omega arith)
      (held-blank Z (last_place Z) 0 q (sym (last-stands Z).block-is) (omega (arith, (last-stands Z).pages-is))))))
