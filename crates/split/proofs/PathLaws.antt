-- The loop of the exchange: the tables lead along the path, and are exact again at its end.
use Rattle.flash.proofs.Kit.{◌≡◌, refl, sym, ap, ap₂, ◌∙◌, inl, ◌≢◌, ⊎_elim, true, false, true≢false, List, ℕ, suc, ◌+◌, ◌-◌, ◌*◌, ◌/◌, ◌%◌, ◌≤◌}
use Rattle.flash.proofs.Kit.{◌<◌, div-add-mod', arith, eqb, length, get_or, take, set as put, length-set, get_or-set_same, get_or-set_other, eq-eqb, ne_eqb}
use Rattle.flash.proofs.Kit.{lt-ltb}
use Rattle.split.specs.Split.{set_of}
use Rattle.split.specs.Rule.{End, source, destination, other_end, swapped, block_at, pages_met, exchange, sets_given}
use Rattle.split.specs.inner.Mask.{FlippedBoth}
use Rattle.split.specs.inner.Cells.{row_of, cell_of, Uses, by_masks, by_order, IsPage, Exact, Numbered, swapped_at}
use Rattle.flash.proofs.Bools.{bool_cases}
use Rattle.flash.proofs.Comparisons.{eq-cases, ne-lt}
use Rattle.flash.proofs.Parts.{part-fits}
use Rattle.split.proofs.RuleLaws.{at_place}
use Rattle.split.proofs.Walk.{Coloured, PageAt, met_as}
use Rattle.split.proofs.Exchange.{swapped-a}
use Rattle.split.proofs.Turns.{Found, Turn, page-now, page-as, next-turn, turns-done}
use Rattle.split.proofs.CellsLaws.{page-note, row-exchanged, uses-stay, bits-flip, pair-here, alone-here, length-swapped, swapped_here}
use Rattle.split.proofs.CellsLaws.{swapped-beside}
use Rattle.split.proofs.Numbers.{source_row, numbers-exchanged, unchanged, count_less}

-- blocks are counted from 1, rows from 0
block_row : (m : ℕ) (list : List ℕ) (end : End) (x : ℕ) → block_at m list end x ≡ row_of m list end x + 1
block_row m list end x = let e = at_place m list end x in omega arith

pub same_block : (m : ℕ) (list : List ℕ) (end : End) (x y : ℕ) → row_of m list end x ≡ row_of m list end y → block_at m list end x ≡ block_at m list end y
same_block m list end x y e = block_row m list end x ∙ ap (λ (r : ℕ). r + 1) e ∙ sym (block_row m list end y)

pub set_here : (sets : List ℕ) (p v : ℕ) → p < length sets → set_of (put sets p v) p ≡ v
unfolding set_of
set_here sets p v h = get_or-set_same sets p v 0 h

pub set_else : (sets : List ℕ) (p v x : ℕ) → x ≢ p → set_of (put sets p v) x ≡ set_of sets x
unfolding set_of
set_else sets p v x ne = get_or-set_other sets p x v 0 ne

module _ (m : ℕ) (list : List ℕ) (k a b : ℕ) where
  abbrev sofar : List ℕ
  sofar = sets_given m list k

  abbrev there : ℕ
  there = block_at m list destination k

  -- why there is a path
  pub record Ready : Type 0 where
    pub coloured : Coloured m list sofar
    pub counted : length sofar ≡ k
    pub fits : m ≤ 64
    pub rows : (end : End) (x : ℕ) → x < k + 1 → row_of m list end x < 64
    pub a_lt : a < m
    pub b_lt : b < m
    pub a_own : a ≡ k % m
    pub differ : a ≢ b
    pub unused : (x : ℕ) → PageAt m list sofar destination there b x → ⊥

  -- At a destination block `hand` has got set a, and its tables still tell of it under b. `page` is the other page of set a there, or k.
  pub record Walking (numbers targets homes destinations : List ℕ) (row : ℕ) : Type 0 where
    pub ready : Ready
    pub sets : List ℕ
    pub pages : ℕ
    pub page : ℕ
    pub turn : Turn m list sofar ready.coloured a b ready.differ there ready.unused pages sets destination page
    pub found : by_masks destinations row a ≡ true → (page < k) × (row_of m list destination page ≡ row)
    pub over : by_masks destinations row a ≡ false → page ≡ k
    pub hand : ℕ
    pub hand_in : hand < k + 1
    pub hand-row : row_of m list destination hand ≡ row
    pub hand-set : set_of sets hand ≡ a
    pub hand-was : hand < k → set_of sofar hand ≡ b
    pub held : List ℕ
    pub held-hand : set_of held hand ≡ b
    pub held-else : (x : ℕ) → x ≢ hand → set_of held x ≡ set_of sets x
    pub its-set : set_of sets k ≡ a
    pub room : k < length sets
    pub numbers-sized : length numbers ≡ length sets
    pub targets-sized : length targets ≡ 4096
    pub homes-sized : length homes ≡ 4096
    pub numbered : Numbered m (k + 1) sets numbers
    pub at-sources : Exact m list source (k + 1) sets (by_order m (k + 1)) targets
    pub at-destinations : Exact m list destination (k + 1) held (by_masks destinations) homes

  -- the page that an exact table finds, among those before k
  found-page : (end : End) (sets : List ℕ) (x set y : ℕ) → y ≢ k → IsPage m list end (k + 1) sets (row_of m list end x) set y
      → Found m list sets k end (block_at m list end x) set y
  found-page end sets x set y not-k p = record {
    within = omega (arith, p.inside);
    hit = λ _. (same_block m list end y x p.at_row, p.in-set);
    none = λ e. absurd (not-k e);
  }

  found_none : (end : End) (sets : List ℕ) (uses : Uses) (table : List ℕ) → Exact m list end (k + 1) sets uses table → (x set : ℕ)
      → row_of m list end x < 64 → set < m → uses (row_of m list end x) set ≡ false → Found m list sets k end (block_at m list end x) set k
  found_none end sets uses table X x set h small none = record {
    within = omega arith;
    hit = λ l. absurd (omega arith);
    none = λ _ y l v c. true≢false (sym ((X (row_of m list end x) set h small).marked y
        (record { inside = omega arith; at_row = ap (λ (z : ℕ). z - 1) v; in-set = c })) ∙ none);
  }

  -- all pages of the path are exchanged
  all_done : (R : Ready) (i : ℕ) (sets : List ℕ) (end : End) (page : ℕ)
      → Turn m list sofar R.coloured a b R.differ there R.unused i sets end page → page ≡ k → k < length sets
      → take k sets ≡ exchange m list sofar a b (pages_met m list sofar k destination there a b)
  all_done R i sets end page T e room =
      ap (λ (n : ℕ). take n sets) (sym R.counted)
      ∙ turns-done m list sofar R.coloured a b R.differ there R.unused i sets end page T
      (omega (arith, R.counted)) (omega (arith, R.counted))
      ∙ ap (λ (n : ℕ). exchange m list sofar a b (pages_met m list sofar n destination there a b)) R.counted

  module _ (numbers targets homes destinations : List ℕ) (row : ℕ) (W : Walking numbers targets homes destinations row) where
    abbrev R : Ready
    R = W.ready

    abbrev sets : List ℕ
    sets = W.sets

    pub row_lt : row < 64
    row_lt = rw (← W.hand-row) (R.rows destination W.hand W.hand_in)

    hand-there : IsPage m list destination (k + 1) W.held row b W.hand
    hand-there = record { inside = W.hand_in; at_row = W.hand-row; in-set = W.held-hand }

    -- the path ends at this destination block
    pub path-over : (destinations' : List ℕ) → by_masks destinations row a ≡ false → FlippedBoth destinations row b a destinations'
        → (take k sets ≡ exchange m list sofar a b (pages_met m list sofar k destination there a b))
        × Exact m list destination (k + 1) sets (by_masks destinations') (swapped_at homes (cell_of b row) (cell_of a row))
    path-over destinations' none flip = (
      all_done R W.pages sets destination W.page W.turn (W.over none) W.room,
      row-exchanged m list destination (k + 1) W.held sets (by_masks destinations) (by_masks destinations') homes W.at-destinations row b a row_lt
          differ' R.b_lt R.a_lt
          (λ x h ne. sym (W.held-else x (λ e. ne (ap (row_of m list destination) e ∙ W.hand-row))))
          (alone-here m list destination (k + 1) W.held sets (by_masks destinations) homes W.at-destinations row b a row_lt
          differ' R.b_lt R.a_lt W.hand hand-there W.hand-set none (λ x h ne. sym (W.held-else x ne)))
          (omega (arith, W.homes-sized, R.fits))
          (bits-flip destinations destinations' row b a differ' flip ((W.at-destinations row b row_lt R.b_lt).marked W.hand hand-there) none)
          (λ at c ne. ap (λ (bit : ℕ). eqb bit 1) (flip.same at c (inl ne))),
    )
      where
        differ' : b ≢ a
        differ' e = R.differ (sym e)

    -- the path goes on with a page
    module _ (more : by_masks destinations row a ≡ true) where
      abbrev met : ℕ
      met = W.page

      inside : met < k
      inside = (W.found more).0

      met-in : met < length sofar
      met-in = rw R.counted inside

      was : set_of sofar met ≡ a
      unfolding met_as
      was = page-as m list sofar R.coloured a b R.differ there R.unused W.pages sets destination met W.turn met-in

      is : set_of sets met ≡ a
      unfolding met_as
      is = page-now m list sofar R.coloured a b R.differ there R.unused W.pages sets destination met W.turn met-in

      not-hand : met ≢ W.hand
      not-hand e = R.differ (sym was ∙ ap (set_of sofar) e ∙ W.hand-was (omega (arith, inside)))

      not-k : met ≢ k
      not-k e = absurd (omega (arith, inside))

      met-there : IsPage m list destination (k + 1) W.held row a met
      met-there = record { inside = omega (arith, inside); at_row = (W.found more).1; in-set = W.held-else met not-hand ∙ is }

      -- its source block, from 0
      abbrev home : ℕ
      home = row_of m list source met

      home-lt : home < 64
      home-lt = R.rows source met (omega (arith, inside))

      met-here : IsPage m list source (k + 1) sets home a met
      met-here = record { inside = omega (arith, inside); at_row = refl; in-set = is }

      home-is : get_or homes (cell_of a row) 0 ≡ home
      unfolding other_end
      home-is = page-note m list destination (k + 1) W.held (by_masks destinations) homes W.at-destinations met row a row_lt R.a_lt met-there

      -- It lies before the block of page k, which has set a itself.
      before : home * m + m ≤ k
      before =
          let here : home * m ≡ met / m * m = ap (λ (x : ℕ). x * m) (source_row m list met) in
          ⊎_elim
          (λ (l : home < k / m). omega (arith, part-fits home (k / m) m l, div-add-mod' k m))
          (λ (l : k / m < home).
          absurd (omega (arith, part-fits (k / m) home m l, div-add-mod' met m, div-add-mod' k m, inside, R.a_own, R.a_lt)))
          (ne-lt home (k / m) (λ e. not-k ((W.at-sources home a home-lt R.a_lt).one met k met-here
          (record { inside = omega arith; at_row = source_row m list k ∙ sym e; in-set = W.its-set }))))

      has_both : (by_order m (k + 1) home a ≡ true) × (by_order m (k + 1) home b ≡ true)
      has_both = (lt-ltb (home * m + a) (k + 1) (omega (arith, before, R.a_lt)), lt-ltb (home * m + b) (k + 1) (omega (arith, before, R.b_lt)))

      -- it gets set b
      abbrev sets-b : List ℕ
      sets-b = put sets met b

      b-now : set_of sets-b met ≡ b
      b-now = set_here sets met b (omega (arith, inside, W.room))

      b-k : set_of sets-b k ≡ a
      b-k = set_else sets met b k (λ e. not-k (sym e)) ∙ W.its-set

      abbrev homes' : List ℕ
      homes' = swapped_at homes (cell_of a row) (cell_of b row)

      b-destinations : Exact m list destination (k + 1) sets-b (by_masks destinations) homes'
      b-destinations =
          row-exchanged m list destination (k + 1) W.held sets-b (by_masks destinations) (by_masks destinations) homes
          W.at-destinations row a b row_lt R.differ R.a_lt R.b_lt
          (λ x h ne. same x (λ e. ne (ap (row_of m list destination) e ∙ (W.found more).1)) (λ e. ne (ap (row_of m list destination) e ∙ W.hand-row)))
          (pair-here m list destination (k + 1) W.held sets-b (by_masks destinations) homes W.at-destinations row a b row_lt
          R.differ R.a_lt R.b_lt met met-there b-now W.hand hand-there
          (set_else sets met b W.hand (λ e. not-hand (sym e)) ∙ W.hand-set) (λ x h. same x))
          (omega (arith, W.homes-sized, R.fits))
          (uses-stay (by_masks destinations) row a b R.differ more ((W.at-destinations row b row_lt R.b_lt).marked W.hand hand-there))
          (λ at c ne. refl)
        where
          same : (x : ℕ) → x ≢ met → x ≢ W.hand → set_of sets-b x ≡ set_of W.held x
          same x p q = set_else sets met b x p ∙ sym (W.held-else x q)

      -- the page of set b at the source block
      next-cell : (x : ℕ) × IsPage m list source (k + 1) sets home b x × (get_or targets (cell_of b home) 0 ≡ row_of m list (other_end source) x)
      next-cell = (W.at-sources home b home-lt R.b_lt).page has_both.1

      abbrev next : ℕ
      next = next-cell.0

      abbrev next_here : IsPage m list source (k + 1) sets home b next
      next_here = next-cell.1

      next-not-k : next ≢ k
      next-not-k e = R.differ (sym W.its-set ∙ ap (set_of sets) (sym e) ∙ next_here.in-set)

      next-inside : next < k
      next-inside = let ne = next-not-k in omega (arith, next_here.inside)

      next-not-met : next ≢ met
      next-not-met e = R.differ (sym is ∙ ap (set_of sets) (sym e) ∙ next_here.in-set)

      abbrev turn-b : Type 0
      turn-b = Turn m list sofar R.coloured a b R.differ there R.unused (suc W.pages) sets-b source next

      turned : turn-b
      unfolding met_as other_end
      turned =
          next-turn m list sofar R.coloured a b R.differ there R.unused W.pages sets destination met W.turn met-in next
          (rw R.counted (found-page source sets met b next next-not-k next_here)) (omega (arith, R.counted, W.room))

      next-in : next < length sofar
      next-in = rw R.counted next-inside

      next-was : set_of sofar next ≡ b
      unfolding met_as
      next-was = page-as m list sofar R.coloured a b R.differ there R.unused (suc W.pages) sets-b source next turned next-in

      next-set : set_of sets-b next ≡ b
      next-set = set_else sets met b next next-not-met ∙ next_here.in-set

      -- which gets set a
      abbrev sets-a : List ℕ
      sets-a = put sets-b next a

      a-now : set_of sets-a next ≡ a
      a-now = set_here sets-b next a (rw length-set (omega (arith, next-inside, W.room)))

      a-else : (x : ℕ) → x ≢ met → x ≢ next → set_of sets-a x ≡ set_of sets x
      a-else x p q = set_else sets-b next a x q ∙ set_else sets met b x p

      a-beside : (x : ℕ) → x < k + 1 → row_of m list source x ≢ home → set_of sets-a x ≡ set_of sets x
      a-beside x h ne = a-else x (λ e. ne (ap (row_of m list source) e)) (λ e. ne (ap (row_of m list source) e ∙ next_here.at_row))

      a-here : (x : ℕ) → x < k + 1 → row_of m list source x ≡ home → set_of sets-a x ≡ swapped a b (set_of sets x)
      a-here = pair-here m list source (k + 1) sets sets-a (by_order m (k + 1)) targets W.at-sources home a b home-lt R.differ
          R.a_lt R.b_lt met met-here (set_else sets-b next a met (λ e. next-not-met (sym e)) ∙ b-now) next next_here a-now (λ x h. a-else x)

      abbrev targets' : List ℕ
      targets' = swapped_at targets (cell_of a home) (cell_of b home)

      a-sources : Exact m list source (k + 1) sets-a (by_order m (k + 1)) targets'
      a-sources =
          row-exchanged m list source (k + 1) sets sets-a (by_order m (k + 1)) (by_order m (k + 1)) targets W.at-sources home a b home-lt
          R.differ R.a_lt R.b_lt a-beside a-here (omega (arith, W.targets-sized, R.fits))
          (uses-stay (by_order m (k + 1)) home a b R.differ has_both.0 has_both.1) (λ at c ne. refl)

      abbrev numbers' : List ℕ
      numbers' = swapped_at numbers (home * m + a) (home * m + b)

      a-numbered : Numbered m (k + 1) sets-a numbers'
      a-numbered = numbers-exchanged m (k + 1) sets sets-a numbers W.numbered home a b R.differ R.a_lt R.b_lt
          (λ x h ne. a-beside x h (λ e. ne (sym (source_row m list x) ∙ e))) (λ x h e. a-here x h (source_row m list x ∙ e))
          (omega (arith, before, W.room, W.numbers-sized))

      abbrev row_next : ℕ
      row_next = row_of m list destination next

      row-next-lt : row_next < 64
      row-next-lt = R.rows destination next next_here.inside

      -- b is unused where the path started
      other-there : (y : ℕ) → IsPage m list destination (k + 1) sets-b row_next a y → y ≢ k
      other-there y p e = R.unused next (record {
        inside = next-in;
        in-set = next-was;
        at_block = same_block m list destination next k (sym p.at_row ∙ ap (row_of m list destination) e);
      })

      walking : (page : ℕ) → Found m list sets-b k destination (block_at m list destination next) a page
          → (by_masks destinations row_next a ≡ true → (page < k) × (row_of m list destination page ≡ row_next))
          → (by_masks destinations row_next a ≡ false → page ≡ k)
          → Walking numbers' targets' homes' destinations row_next
      unfolding met_as other_end
      walking page f found over = record {
        ready = R;
        sets = sets-a;
        pages = suc (suc W.pages);
        page = page;
        turn = next-turn m list sofar R.coloured a b R.differ there R.unused (suc W.pages) sets-b source next turned next-in page
            (rw R.counted f) (rw length-set (omega (arith, R.counted, W.room)));
        found = found;
        over = over;
        hand = next;
        hand_in = next_here.inside;
        hand-row = refl;
        hand-set = a-now;
        hand-was = λ _. next-was;
        held = sets-b;
        held-hand = next-set;
        held-else = λ x ne. sym (set_else sets-b next a x ne);
        its-set = set_else sets-b next a k (λ e. next-not-k (sym e)) ∙ b-k;
        room = rw (length-set, length-set) W.room;
        numbers-sized = length-swapped numbers (home * m + a) (home * m + b) ∙ W.numbers-sized ∙ simp length-set;
        targets-sized = length-swapped targets (cell_of a home) (cell_of b home) ∙ W.targets-sized;
        homes-sized = length-swapped homes (cell_of a row) (cell_of b row) ∙ W.homes-sized;
        numbered = a-numbered;
        at-sources = a-sources;
        at-destinations = b-destinations;
      }

      path-goes : Walking numbers' targets' homes' destinations row_next
      path-goes = ⊎_elim
          (λ (e : by_masks destinations row_next a ≡ true).
          let c = (b-destinations row_next a row-next-lt R.a_lt).page e in
          let y = c.0 in
          let ne = other-there y c.1 in
          let l : y < k = omega (arith, c.1.inside) in
          walking y (found-page destination sets-b next a y ne c.1) (λ _. (l, c.1.at_row)) (λ n. absurd (true≢false (sym e ∙ n))))
          (λ (n : by_masks destinations row_next a ≡ false).
          walking k (found_none destination sets-b (by_masks destinations) homes' b-destinations next a row-next-lt R.a_lt n)
          (λ e. absurd (true≢false (sym e ∙ n))) (λ _. refl))
          (bool_cases (by_masks destinations row_next a))

      -- the two bytes of the block were as at the start, and differ
      module _ (start begun : List ℕ) (S : Numbered m (k + 1) begun start) (same : (x : ℕ) → x < k → set_of begun x ≡ set_of sofar x) where
        byte_of : (x c : ℕ) → x < k → row_of m list source x ≡ home → set_of sets x ≡ c → set_of sofar x ≡ c
            → (get_or numbers (home * m + c) 0 ≡ x % m) × (get_or start (home * m + c) 0 ≡ x % m)
        byte_of x c h r now then =
            let row : x / m ≡ home = sym (source_row m list x) ∙ r in (
              ap₂ (λ (i j : ℕ). get_or numbers (i * m + j) 0) (sym row) (sym now) ∙ (W.numbered x (omega arith)).1,
              ap₂ (λ (i j : ℕ). get_or start (i * m + j) 0) (sym row) (sym (same x h ∙ then)) ∙ (S x (omega arith)).1,
            )

        byte-a : (get_or numbers (home * m + a) 0 ≡ met % m) × (get_or start (home * m + a) 0 ≡ met % m)
        byte-a = byte_of met a inside refl is was

        byte-b : (get_or numbers (home * m + b) 0 ≡ next % m) × (get_or start (home * m + b) 0 ≡ next % m)
        byte-b = byte_of next b next-inside next_here.at_row next_here.in-set next-was

        room : (c : ℕ) → c < m → home * m + c < length numbers
        room c h = omega (arith, before, W.room, W.numbers-sized)

        now-a : get_or numbers' (home * m + a) 0 ≡ next % m
        now-a = swapped_here numbers (λ c. home * m + c) (λ c d ne e. ne (omega arith)) a b R.differ (room a R.a_lt) (room b R.b_lt) a
            ∙ ap (λ (c : ℕ). get_or numbers (home * m + c) 0) (swapped-a a b) ∙ byte-b.0

        path-less : unchanged start numbers' k < unchanged start numbers k
        path-less = count_less (λ at. eqb (get_or numbers at 0) (get_or start at 0)) (λ at. eqb (get_or numbers' at 0) (get_or start at 0))
            kept (home * m + a)
            (eq-eqb _ _ (byte-a.0 ∙ sym byte-a.1))
            (ne_eqb _ _ (λ e. next-not-met (sym (div-add-mod' next m)
            ∙ ap₂ (λ (i j : ℕ). i * m + j) (sym (source_row m list next) ∙ next_here.at_row ∙ source_row m list met) (sym now-a ∙ e ∙ byte-a.1)
            ∙ div-add-mod' met m))) 0 k (omega arith) (omega (arith, before, R.a_lt))
          where
            kept : (at : ℕ) → eqb (get_or numbers' at 0) (get_or start at 0) ≡ true → eqb (get_or numbers at 0) (get_or start at 0) ≡ true
            kept at e = ⊎_elim
                (λ (p : at ≡ home * m + a). rw p (eq-eqb _ _ (byte-a.0 ∙ sym byte-a.1)))
                (λ (p : at ≢ home * m + a). ⊎_elim
                (λ (q : at ≡ home * m + b). rw q (eq-eqb _ _ (byte-b.0 ∙ sym byte-b.1)))
                (λ (q : at ≢ home * m + b). rw (swapped-beside numbers (home * m + a) (home * m + b) at p q) at e)
                (eq-cases at (home * m + b)))
                (eq-cases at (home * m + a))

    -- ---- the same in what the code reads: a source block, and the block that it leads to
    module _ (more : by_masks destinations row a ≡ true) (h : ℕ) (h-is : h ≡ get_or homes (cell_of a row) 0) where
      h-home : h ≡ home more
      h-home = h-is ∙ home-is more

      pub h-lt : h < 64
      h-lt = rw h-home (home-lt more)

      pub h-before : h * m + m ≤ k
      h-before = rw h-home (before more)

      pub turn-less : (start begun : List ℕ) → Numbered m (k + 1) begun start → ((x : ℕ) → x < k → set_of begun x ≡ set_of sofar x)
          → unchanged start (swapped_at numbers (h * m + a) (h * m + b)) k < unchanged start numbers k
      turn-less start begun S same = rw h-home (path-less more start begun S same)

      pub turn-goes : (numbers' targets' homes' : List ℕ) (row' : ℕ) → numbers' ≡ swapped_at numbers (h * m + a) (h * m + b)
          → targets' ≡ swapped_at targets (cell_of a h) (cell_of b h) → homes' ≡ swapped_at homes (cell_of a row) (cell_of b row)
          → row' ≡ get_or targets (cell_of b h) 0 → Walking numbers' targets' homes' destinations row'
      unfolding other_end
      turn-goes numbers' targets' homes' row' n-is t-is o_is r-is =
          let r : row' ≡ row_next more = r-is ∙ ap (λ (z : ℕ). get_or targets (cell_of b z) 0) h-home ∙ (next-cell more).2 in
          rw (r, n-is, t-is, o_is, h-home) (path-goes more)
