-- What each page holds at a place, what the step there changes of it, and the marks that say so.
use Rattle.flash.proofs.Kit.{◌≡◌, refl, sym, ap, ap₂, ◌∙◌, subst, ◌≢◌, ◌⊎◌, inl, inr, ⊎_elim, List, ℕ, suc, ◌+◌, ◌/◌, ◌%◌, ◌≤◌, ◌<◌, arith, length}
use Rattle.flash.proofs.Kit.{get_or, length-map, ext_get_or, lt-ltb, le-ltb}
use Rattle.flash.specs.Lists.{range}
use Rattle.flash.specs.declared.sizes.Sizes.{Sizes}
use Rattle.flash.specs.Geometry.{slot, slot_count, marks_len, letter}
use Rattle.flash.specs.Chip.{Chip, erased, mark_at}
use Rattle.flash.proofs.Comparisons.{lt-cases}
use Rattle.flash.proofs.Ranges.{length-range}
use Rattle.method.specs.Place.{Pass, forward, backward, write, erase, mark_of, last_place, operation_at, pass_at, filling, filled, Held, blank, plain, code, final, written, above, held_at, held_mark, marks_of}
use Rattle.method.proofs.basics.AcceptedCalls.{StandsAt}
use Rattle.method.proofs.basics.Indexes.{Order, less, same, more, order, slot-div, slot-mod, slot_lt, each-slot, map-range-at}
use Rattle.method.proofs.places.StepsAtPlaces.{next_block, Fills, Stands, Turned, located, page-cases, forward-high, filling-in, filled-early, backward-low, after_write, after-erase, operation-writes, operation-erases}

-- How many blocks are full of code when block b has been filled. The block erased next lies at the edge.
abbrev pub edge : Pass → (b : ℕ) → ℕ
edge forward b = suc b
edge backward b = b

next-below : (pass : Pass) (b c : ℕ) → c < next_block pass b → c < edge pass b
next-below forward b c h = h
next-below backward b c h = omega arith

next-above : (pass : Pass) (b c : ℕ) → next_block pass b < c → edge pass b ≤ c
next-above forward b c h = omega arith
next-above backward b c h = omega arith

module _ (Z : Sizes) where
  open Z use {n, m}

  -- the four parts of a place
  module _ (place b q : ℕ) where
    pub held_below : b < filling Z place → held_at Z place b q ≡ code
    unfolding held_at
    held_below h = rw (lt-ltb b (filling Z place) h)

    pub held-above : filling Z place < b → held_at Z place b q ≡ above (pass_at Z place)
    unfolding held_at
    held-above h = rw (le-ltb b (filling Z place) (omega arith), lt-ltb (filling Z place) b h)

    pub held-written : b ≡ filling Z place → q < filled Z place → held_at Z place b q ≡ written (pass_at Z place)
    unfolding held_at
    held-written e h = rw (le-ltb b (filling Z place) (omega arith), le-ltb (filling Z place) b (omega arith), lt-ltb q (filled Z place) h)

    pub held-blank : b ≡ filling Z place → filled Z place ≤ q → held_at Z place b q ≡ blank
    unfolding held_at
    held-blank e h = rw (le-ltb b (filling Z place) (omega arith), le-ltb (filling Z place) b (omega arith), le-ltb q (filled Z place) h)

  -- What a page holds, and where that leaves its block: all that a caller has to tell apart.
  pub data HeldCases (place b q : ℕ) : Type 0 where
    coded : b < n → held_at Z place b q ≡ code → HeldCases place b q
    ended : 1 ≤ b → held_at Z place b q ≡ final → HeldCases place b q
    resting : pass_at Z place ≡ forward → 1 ≤ b → held_at Z place b q ≡ plain → HeldCases place b q
    empty : filling Z place ≡ b → filled Z place ≤ q → held_at Z place b q ≡ blank → HeldCases place b q

  pub held-cases : (place b q : ℕ) → place ≤ last_place Z → b ≤ n → HeldCases place b q
  unfolding above written
  held-cases place b q h b-in = go (order b (filling Z place)) (lt-cases q (filled Z place)) (pass_at Z place) refl
    where
      go : Order b (filling Z place) → (q < filled Z place) ⊎ (filled Z place ≤ q) → (pass : Pass) → pass_at Z place ≡ pass → HeldCases place b q
      go (less l) _ _ _ = coded (omega (arith, filling-in Z place h)) (held_below place b q l)
      go (more l) _ forward e = resting e (omega arith) (held-above place b q l ∙ ap above e)
      go (more l) _ backward e = ended (omega arith) (held-above place b q l ∙ ap above e)
      go (same f) (inl l) forward e = coded (omega (arith, forward-high Z place h e)) (held-written place b q f l ∙ ap written e)
      go (same f) (inl l) backward e = ended (omega (arith, backward-low Z place (filled-early Z place h (omega arith)) e)) (held-written place b q f l ∙ ap written e)
      go (same f) (inr l) _ _ = empty (sym f) l (held-blank place b q f l)

  -- a write changes one page, from blank to what the pass writes
  pub record Writes (place : ℕ) (pass : Pass) (b q : ℕ) : Type 0 where
    pub block_in : b ≤ n
    pub page-in : q < m
    pub before : held_at Z place b q ≡ blank
    pub after : held_at Z (suc place) b q ≡ written pass
    pub others : (c p : ℕ) → (c ≡ b → p ≡ q → ⊥) → held_at Z (suc place) c p ≡ held_at Z place c p

  pub write-changes : (place : ℕ) → place ≤ last_place Z → filled Z place < m → Writes place (pass_at Z place) (filling Z place) (filled Z place)
  write-changes place h k = record {
    block_in = filling-in Z place h;
    page-in = k;
    before = held-blank place (filling Z place) (filled Z place) refl (omega arith);
    after = held-written (suc place) (filling Z place) (filled Z place) (sym S.block-is) (omega (arith, S.pages-is)) ∙ ap written S.pass-is;
    others = λ c p apart. stays c p apart (order c (filling Z place)) (order p (filled Z place));
  }
    where
      S : Stands Z (suc place) (pass_at Z place) (filling Z place) (suc (filled Z place))
      S = after_write Z place h k

      stays : (c p : ℕ) → (c ≡ filling Z place → p ≡ filled Z place → ⊥) → Order c (filling Z place) → Order p (filled Z place) → held_at Z (suc place) c p ≡ held_at Z place c p
      stays c p apart (less l) _ = held_below (suc place) c p (omega (arith, S.block-is)) ∙ sym (held_below place c p l)
      stays c p apart (more l) _ = held-above (suc place) c p (omega (arith, S.block-is)) ∙ ap above S.pass-is ∙ sym (held-above place c p l)
      stays c p apart (same e) (less l) = held-written (suc place) c p (omega (arith, S.block-is)) (omega (arith, S.pages-is)) ∙ ap written S.pass-is ∙ sym (held-written place c p e l)
      stays c p apart (same e) (same f) = absurd (apart e f)
      stays c p apart (same e) (more l) = held-blank (suc place) c p (omega (arith, S.block-is)) (omega (arith, S.pages-is)) ∙ sym (held-blank place c p e (omega arith))

  pub edge_in : (place : ℕ) → place ≤ last_place Z → edge (pass_at Z place) (filling Z place) ≤ n
  edge_in place h = within (pass_at Z place) (filling Z place) (located Z place h).fills
    where
      within : (pass : Pass) (b : ℕ) → Fills Z pass b → edge pass b ≤ n
      within forward b f = f
      within backward b f = f

  -- Before an erase every block is full: of code below an edge, and from there on of what lies above in this pass.
  module _ (place : ℕ) (k : filled Z place ≡ m) (c p : ℕ) (inside : p < m) where
    full-below : (pass : Pass) → pass_at Z place ≡ pass → c < edge pass (filling Z place) → held_at Z place c p ≡ code
    unfolding written
    full-below forward e l = ⊎_elim
        (held_below place c p)
        (λ (f : filling Z place ≤ c). held-written place c p (omega arith) (omega arith) ∙ ap written e)
        (lt-cases c (filling Z place))
    full-below backward e l = held_below place c p l

    full-above : (pass : Pass) → pass_at Z place ≡ pass → edge pass (filling Z place) ≤ c → held_at Z place c p ≡ above pass
    unfolding written above
    full-above forward e l = held-above place c p l ∙ ap above e
    full-above backward e l = ⊎_elim
        (λ (f : filling Z place < c). held-above place c p f ∙ ap above e)
        (λ (f : c ≤ filling Z place). held-written place c p (omega arith) (omega arith) ∙ ap written e)
        (lt-cases (filling Z place) c)

    pub held-full-below : c < edge (pass_at Z place) (filling Z place) → held_at Z place c p ≡ code
    held-full-below = full-below (pass_at Z place) refl

    pub held-full-above : edge (pass_at Z place) (filling Z place) ≤ c → held_at Z place c p ≡ above (pass_at Z place)
    held-full-above = full-above (pass_at Z place) refl

  -- an erase makes one block blank
  pub record Erases (place b : ℕ) : Type 0 where
    pub block_in : b ≤ n
    pub after : (q : ℕ) → held_at Z (suc place) b q ≡ blank
    pub others : (c p : ℕ) → c ≢ b → c ≤ n → p < m → held_at Z (suc place) c p ≡ held_at Z place c p

  pub erase-changes : (place : ℕ) → place < last_place Z → filled Z place ≡ m → Erases place (next_block (pass_at Z place) (filling Z place))
  erase-changes place h k = record {
    block_in = rw (← T.block-is) (filling-in Z (suc place) h);
    after = λ q. held-blank (suc place) next q (sym T.block-is) (omega (arith, T.pages-is));
    others = λ c p apart l r. stays c p apart l r (order c next);
  }
    where
      next : ℕ
      next = next_block (pass_at Z place) (filling Z place)

      T : Turned Z (suc place) (pass_at Z place) (filling Z place)
      T = after-erase Z place h k

      stays : (c p : ℕ) → c ≢ next → c ≤ n → p < m → Order c next → held_at Z (suc place) c p ≡ held_at Z place c p
      stays c p apart l r (less x) = held_below (suc place) c p (omega (arith, T.block-is)) ∙ sym (held-full-below place k c p r (next-below (pass_at Z place) (filling Z place) c x))
      stays c p apart l r (same x) = absurd (apart x)
      stays c p apart l r (more x) =
          held-above (suc place) c p (omega (arith, T.block-is))
          ∙ ap above (T.pass-is (omega (arith, T.block-is)))
          ∙ sym (held-full-above place k c p r (next-above (pass_at Z place) (filling Z place) c x))

  -- The step at a place with what it changes: all that a caller has to tell apart.
  pub data Change (place : ℕ) : Type 0 where
    by-write : filled Z place < m → operation_at Z place ≡ write (pass_at Z place) (filling Z place) (filled Z place)
        → Writes place (pass_at Z place) (filling Z place) (filled Z place) → Change place
    by-erase : filled Z place ≡ m → operation_at Z place ≡ erase (next_block (pass_at Z place) (filling Z place))
        → Erases place (next_block (pass_at Z place) (filling Z place)) → Change place

  pub change : (place : ℕ) → place < last_place Z → Change place
  change place h =
      ⊎_elim
      (λ k. by-write k (operation-writes Z place h k) (write-changes place (omega arith) k))
      (λ k. by-erase k (operation-erases Z place h k) (erase-changes place h k))
      (page-cases Z place)

  -- What a page holds can be told by its mark.
  pub held-told : (x y : Held) → held_mark Z x ≡ held_mark Z y → x ≡ y
  unfolding held_mark letter
  held-told blank blank e = refl
  held-told blank plain e = absurd (omega arith)
  held-told blank code e = absurd (omega arith)
  held-told blank final e = absurd (omega arith)
  held-told plain blank e = absurd (omega arith)
  held-told plain plain e = refl
  held-told plain code e = absurd (omega arith)
  held-told plain final e = absurd (omega arith)
  held-told code blank e = absurd (omega arith)
  held-told code plain e = absurd (omega arith)
  held-told code code e = refl
  held-told code final e = absurd (omega arith)
  held-told final blank e = absurd (omega arith)
  held-told final plain e = absurd (omega arith)
  held-told final code e = absurd (omega arith)
  held-told final final e = refl

  pub mark-written : (pass : Pass) → held_mark Z (written pass) ≡ mark_of Z pass
  unfolding held_mark written mark_of
  mark-written forward = refl
  mark-written backward = refl

  -- marks that a place has
  pub record MarksAt (place : ℕ) (marks : List ℕ) : Type 0 where
    pub length-is : length marks ≡ marks_len Z
    pub mark-is : (b q : ℕ) → b ≤ n → q < m → mark_at marks (slot m b q) ≡ held_mark Z (held_at Z place b q)

  pub marks_of-at : (place : ℕ) → MarksAt place (marks_of Z place)
  unfolding marks_of mark_at
  marks_of-at place = record {
    length-is = length-map (range 0 (slot_count Z)) mark ∙ length-range 0 (slot_count Z);
    mark-is = λ b q h k.
        map-range-at mark 0 (slot_count Z) (slot m b q) erased (slot_lt m b q (n + 1) (omega arith) k)
        ∙ ap mark (omega arith)
        ∙ ap₂ (λ (x y : ℕ). held_mark Z (held_at Z place x y)) (slot-div m b q k) (slot-mod m b q k);
  }
    where
      mark : ℕ → ℕ
      mark t = held_mark Z (held_at Z place (t / m) (t % m))

  pub stands-marks : {chip : Chip} {place : ℕ} → StandsAt Z chip place → MarksAt place chip.marks
  stands-marks {chip} {place} S = subst (MarksAt place) (sym S.marks) (marks_of-at place)

  -- no others
  pub marks-eq : (place : ℕ) (marks : List ℕ) → 0 < m → MarksAt place marks → marks ≡ marks_of Z place
  unfolding mark_at
  marks-eq place marks pages A =
      let B = marks_of-at place in
      ext_get_or erased marks (marks_of Z place) (A.length-is ∙ sym B.length-is)
      (λ t h. each-slot m (n + 1) (λ u. get_or marks u erased ≡ get_or (marks_of Z place) u erased)
      (λ b q l k. A.mark-is b q (omega arith) k ∙ sym (B.mark-is b q (omega arith) k)) t (rw A.length-is at h))
