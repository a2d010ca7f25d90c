-- Places: the pass, the block that is being filled and its pages; the step at each place, and the place that it leads to.
use Rattle.flash.proofs.Kit.{◌≡◌, refl, sym, ap, ap₂, ◌∙◌, subst, ◌⊎◌, inl, inr, ⊎_elim, List, [], ◌∷◌, ◌++◌, ℕ, suc, ◌+◌, ◌-◌, ◌*◌, ◌/◌, ◌%◌, ◌≤◌}
use Rattle.flash.proofs.Kit.{◌<◌, suc-mul, div-add-mod', mod-lt, div-lt_iff_lt-mul, add-mul, arith, length, get_or, List·getD-append}
use Rattle.flash.proofs.Kit.{List·getD-eq-default, get_or-append-add, get_or_at, lt-ltb, le-ltb}
use Rattle.flash.specs.Lists.{range, down_from, concat_map}
use Rattle.flash.specs.declared.sizes.Sizes.{Sizes}
use Rattle.flash.proofs.Comparisons.{lt-cases}
use Rattle.flash.proofs.Ranges.{length-range, range_at}
use Rattle.method.specs.Place.{Pass, forward, backward, Operation, write, erase, done, writes, forward_turn, backward_turn, operations, last_place, operation_at, pass_at, filling, filled}
use Rattle.method.specs.Claims.{StepsCounted}
use Rattle.method.proofs.basics.Indexes.{slot-div, slot-mod, slot_lt, map-range-at, down_from-at, concat_map-at}
use Rattle.method.proofs.places.StepsCounted.{length-down_from, length-writes, length-forward_turn, length-backward_turn, length-there, steps-counted}

-- the block that a pass fills after block b; the erase between the two makes it blank
abbrev pub next_block : Pass → (b : ℕ) → ℕ
next_block forward b = suc b
next_block backward b = b - 1

module _ (Z : Sizes) where
  open Z use {n, m}

  -- a pass fills block b in this turn, each turn being m writes and an erase
  abbrev pub turn_of : Pass → (b : ℕ) → ℕ
  turn_of forward b = b
  turn_of backward b = 2 * n - b

  -- the blocks that a pass fills; at the last place it is block 0, with nothing left to do
  abbrev pub Fills : Pass → (b : ℕ) → Type 0
  Fills forward b = b < n
  Fills backward b = b ≤ n

  pub record Stands (place : ℕ) (pass : Pass) (b q : ℕ) : Type 0 where
    pub pass-is : pass_at Z place ≡ pass
    pub block-is : filling Z place ≡ b
    pub pages-is : filled Z place ≡ q

  pub stands_at : (pass : Pass) (b q : ℕ) → Fills pass b → q ≤ m → Stands (turn_of pass b * (m + 1) + q) pass b q
  unfolding pass_at filling filled
  stands_at forward b q h k =
      let early = lt-ltb (b * (m + 1) + q) (n * (m + 1)) (slot_lt (m + 1) b q n h (omega arith)) in
      record {
        pass-is = rw early;
        block-is = rw early (slot-div (m + 1) b q (omega arith));
        pages-is = slot-mod (m + 1) b q (omega arith);
      }
  stands_at backward b q h k =
      let turn : 2 * n - b ≡ n + (n - b) = omega arith in
      let start = add-mul n (n - b) (m + 1) in
      let since : (n + (n - b)) * (m + 1) + q - n * (m + 1) ≡ (n - b) * (m + 1) + q = omega arith in
      let late = le-ltb ((n + (n - b)) * (m + 1) + q) (n * (m + 1)) (omega arith) in
      rw turn
      (record {
        pass-is = rw late;
        block-is = rw (late, since, slot-div (m + 1) (n - b) q (omega arith)) (omega arith);
        pages-is = slot-mod (m + 1) (n + (n - b)) q (omega arith);
      })

  within : (pass : Pass) (b : ℕ) → Fills pass b → b ≤ n
  within forward b h = omega arith
  within backward b h = h

  -- every place is one of these
  pub record Located (place : ℕ) : Type 0 where
    pub fills : Fills (pass_at Z place) (filling Z place)
    pub pages : filled Z place ≤ m
    pub number : place ≡ turn_of (pass_at Z place) (filling Z place) * (m + 1) + filled Z place

  pub located : (place : ℕ) → place ≤ last_place Z → Located place
  unfolding last_place
  located place h = ⊎_elim
      (λ (l : turn < n). of forward turn l refl)
      (λ (l : n ≤ turn). of backward (2 * n - turn) (omega arith) (omega (arith, in-time)))
      (lt-cases turn n)
    where
      turn : ℕ
      turn = place / (m + 1)

      q : ℕ
      q = place % (m + 1)

      in-time : turn < suc (2 * n)
      in-time = (div-lt_iff_lt-mul {k = m + 1} (omega arith)).1 (omega arith)

      of : (pass : Pass) (b : ℕ) → Fills pass b → turn_of pass b ≡ turn → Located place
      of pass b f e =
          let q-in : q < m + 1 = mod-lt place (omega arith) in
          let at : turn_of pass b * (m + 1) + q ≡ place = ap (λ (t : ℕ). t * (m + 1) + q) e ∙ div-add-mod' place (m + 1) in
          let S : Stands place pass b q = subst (λ (p : ℕ). Stands p pass b q) at (stands_at pass b q f (omega arith)) in
          record {
            fills = rw (S.pass-is, S.block-is) f;
            pages = rw S.pages-is (omega arith);
            number = rw (S.pass-is, S.block-is, S.pages-is) (sym at);
          }

  pub pages-in : (place : ℕ) → filled Z place ≤ m
  unfolding filled
  pages-in place = omega (arith, mod-lt place {m = m + 1} (omega arith))

  -- in a block's turn, some page is still to be written, or all are and the erase is due
  pub page-cases : (place : ℕ) → (filled Z place < m) ⊎ (filled Z place ≡ m)
  page-cases place = ⊎_elim inl (λ (l : m ≤ filled Z place). inr (omega (arith, pages-in place))) (lt-cases (filled Z place) m)

  -- the pass, told by the number
  pub backward-from : (place : ℕ) → n * (m + 1) ≤ place → pass_at Z place ≡ backward
  unfolding pass_at
  backward-from place h = rw (le-ltb place (n * (m + 1)) h)

  pub forward-high : (place : ℕ) → place ≤ last_place Z → pass_at Z place ≡ forward → filling Z place < n
  forward-high place h e = rw e at (located place h).fills

  pub filling-in : (place : ℕ) → place ≤ last_place Z → filling Z place ≤ n
  filling-in place h = within (pass_at Z place) (filling Z place) (located place h).fills

  -- at the end block 0 is blank, and all is done
  pub last-stands : Stands (last_place Z) backward 0 0
  unfolding last_place
  last-stands =
      let all : 2 * n - 0 ≡ 2 * n = omega arith in
      let at : 2 * n * (m + 1) + 0 ≡ 2 * n * (m + 1) = omega arith in
      rw (all, at) at (stands_at backward 0 0 (omega arith) (omega arith))

  -- so with a page written in its block the move is not over
  pub filled-early : (place : ℕ) → place ≤ last_place Z → 0 < filled Z place → place < last_place Z
  filled-early place h k =
      let not_last : place ≡ last_place Z → ⊥ = λ e. omega (arith, ap (filled Z) e ∙ last-stands.pages-is) in
      omega arith

  -- before it, a turn is not over
  pub turn_in : (place : ℕ) → place < last_place Z → turn_of (pass_at Z place) (filling Z place) < 2 * n
  unfolding last_place
  turn_in place h =
      let P = located place (omega arith) in
      let t : ℕ = turn_of (pass_at Z place) (filling Z place) in
      let in-time = (div-lt_iff_lt-mul {k = m + 1} {x = place} {y = 2 * n} (omega arith)).1 h in
      rw (← slot-div (m + 1) t (filled Z place) (omega arith), ← P.number) in-time

  -- so a block that the backward pass fills is a data block
  pub backward-low : (place : ℕ) → place < last_place Z → pass_at Z place ≡ backward → 1 ≤ filling Z place
  backward-low place h e = omega (arith, rw e at (turn_in place h))

  -- Inside a block the next place is in the same block, one page on.
  pub after_write : (place : ℕ) → place ≤ last_place Z → filled Z place < m → Stands (suc place) (pass_at Z place) (filling Z place) (suc (filled Z place))
  after_write place h k =
      let P = located place h in
      let at : turn_of (pass_at Z place) (filling Z place) * (m + 1) + suc (filled Z place) ≡ suc place = omega arith in
      rw at at (stands_at (pass_at Z place) (filling Z place) (suc (filled Z place)) P.fills k)

  -- After the erase, the block that was erased is filled, in the same pass unless block n has become free.
  pub record Turned (place : ℕ) (pass : Pass) (b : ℕ) : Type 0 where
    pub pass-is : filling Z place < n → pass_at Z place ≡ pass
    pub block-is : filling Z place ≡ next_block pass b
    pub pages-is : filled Z place ≡ 0

  turned : (place : ℕ) (pass : Pass) (b : ℕ) → Fills pass b → turn_of pass b < 2 * n → place ≡ suc (turn_of pass b) * (m + 1) → Turned place pass b
  turned place forward b f l e =
      let at : suc b * (m + 1) + 0 ≡ place = omega arith in
      ⊎_elim
      (λ (h : suc b < n).
      let S : Stands place forward (suc b) 0 = rw at at (stands_at forward (suc b) 0 h (omega arith)) in
      record { pass-is = λ _. S.pass-is; block-is = S.block-is; pages-is = S.pages-is })
      (λ (h : n ≤ suc b).
      let last : 2 * n - suc b ≡ suc b = omega arith in
      let S : Stands place backward (suc b) 0 = rw (last, at) at (stands_at backward (suc b) 0 f (omega arith)) in
      record { pass-is = λ k. absurd (omega (arith, S.block-is)); block-is = S.block-is; pages-is = S.pages-is })
      (lt-cases (suc b) n)
  turned place backward b f l e =
      let turn : 2 * n - (b - 1) ≡ suc (2 * n - b) = omega arith in
      let at : suc (2 * n - b) * (m + 1) + 0 ≡ place = omega arith in
      let S : Stands place backward (b - 1) 0 = rw (turn, at) at (stands_at backward (b - 1) 0 (omega arith) (omega arith)) in
      record { pass-is = λ _. S.pass-is; block-is = S.block-is; pages-is = S.pages-is }

  pub after-erase : (place : ℕ) → place < last_place Z → filled Z place ≡ m → Turned (suc place) (pass_at Z place) (filling Z place)
  after-erase place h full =
      let P = located place (omega arith) in
      turned (suc place) (pass_at Z place) (filling Z place) P.fills (turn_in place h)
      (omega (arith, suc-mul (turn_of (pass_at Z place) (filling Z place)) (m + 1)))

  -- The step at a place: a turn is the m writes of a block, and then the erase of the next.
  abbrev steps : Pass → (b : ℕ) → List Operation
  steps pass b = writes Z pass b ++ (erase (next_block pass b) ∷ [])

  abbrev there : List Operation
  there = concat_map (forward_turn Z) (range 1 n)

  abbrev back : List Operation
  back = concat_map (backward_turn Z) (down_from n)

  step-in-turn : (pass : Pass) (b q : ℕ) → Fills pass b → turn_of pass b < 2 * n → q ≤ m
      → operation_at Z (turn_of pass b * (m + 1) + q) ≡ get_or (steps pass b) q done
  unfolding operation_at operations forward_turn backward_turn
  step-in-turn forward b q f l k =
      List·getD-append there back done (b * (m + 1) + q) (rw (length-there Z) (slot_lt (m + 1) b q n f (omega arith)))
      ∙ concat_map-at (forward_turn Z) (m + 1) (length-forward_turn Z) (range 1 n) b q done 0 (rw length-range f) (omega arith)
      ∙ ap (λ (i : ℕ). get_or (forward_turn Z i) q done) (range_at 1 n b 0 f)
      ∙ ap₂ (λ (x y : ℕ). get_or (writes Z forward x ++ (erase y ∷ [])) q done) (omega arith) (omega arith)
  step-in-turn backward b q f l k =
      let turn : 2 * n - b ≡ n + (n - b) = omega arith in
      let at : (n + (n - b)) * (m + 1) + q ≡ length there + ((n - b) * (m + 1) + q) = omega (arith, length-there Z, add-mul n (n - b) (m + 1)) in
      let from : n - (n - b) ≡ b = omega arith in
      ap (λ (p : ℕ). get_or (there ++ back) p done) (ap (λ (t : ℕ). t * (m + 1) + q) turn ∙ at)
      ∙ get_or-append-add there back ((n - b) * (m + 1) + q) done
      ∙ concat_map-at (backward_turn Z) (m + 1) (length-backward_turn Z) (down_from n) (n - b) q done 0 (rw length-down_from (omega arith)) (omega arith)
      ∙ ap (λ (i : ℕ). get_or (backward_turn Z i) q done) (down_from-at n (n - b) 0 (omega arith) ∙ from)

  at_place : (place : ℕ) → place < last_place Z → operation_at Z place ≡ get_or (steps (pass_at Z place) (filling Z place)) (filled Z place) done
  at_place place h =
      let P = located place (omega arith) in
      ap (operation_at Z) P.number ∙ step-in-turn (pass_at Z place) (filling Z place) (filled Z place) P.fills (turn_in place h) P.pages

  writes-first : (pass : Pass) (b q : ℕ) → q < m → get_or (steps pass b) q done ≡ write pass b q
  unfolding writes
  writes-first pass b q h =
      List·getD-append (writes Z pass b) (erase (next_block pass b) ∷ []) done q (omega (arith, length-writes Z pass b))
      ∙ map-range-at (write pass b) 0 m q done h ∙ ap (write pass b) (omega arith)

  erase-last : (pass : Pass) (b : ℕ) → get_or (steps pass b) m done ≡ erase (next_block pass b)
  erase-last pass b = get_or_at (writes Z pass b) (erase (next_block pass b)) [] done m (length-writes Z pass b)

  -- the step at each place, in closed form
  pub operation-writes : (place : ℕ) → place < last_place Z → filled Z place < m → operation_at Z place ≡ write (pass_at Z place) (filling Z place) (filled Z place)
  operation-writes place h k = at_place place h ∙ writes-first (pass_at Z place) (filling Z place) (filled Z place) k

  pub operation-erases : (place : ℕ) → place < last_place Z → filled Z place ≡ m → operation_at Z place ≡ erase (next_block (pass_at Z place) (filling Z place))
  operation-erases place h k =
      at_place place h
      ∙ ap (λ (q : ℕ). get_or (steps (pass_at Z place) (filling Z place)) q done) k
      ∙ erase-last (pass_at Z place) (filling Z place)

  pub operation-done : (place : ℕ) → last_place Z ≤ place → operation_at Z place ≡ done
  unfolding operation_at StepsCounted
  operation-done place h = List·getD-eq-default (operations Z) done (rw (steps-counted Z) h)
