-- The rule page by page: the tables give the sets that the definition gives.
use Rattle.flash.proofs.Kit.{◌≡◌, refl, sym, ap, ap₂, ◌∙◌, subst, ◌≢◌, ⊎_elim, Bool, true, false, cond, not, List, [], ◌∷◌, ◌++◌, ℕ, suc, ◌+◌}
use Rattle.flash.proofs.Kit.{◌-◌, ◌*◌, ◌/◌, ◌%◌, ◌≤◌, ◌<◌, div-add-mod', mod-lt, add-one, not-suc-le-zero, arith, eqb, length, get_or, take, replicate}
use Rattle.flash.proofs.Kit.{set as put, length-set, get_or-set_same, get_or-set_other, get_or-take, take-suc-set, take-set-le, eqb-true, eqb-false, eq-eqb}
use Rattle.flash.proofs.Kit.{ne_eqb, ltb-true, lt-ltb, le-ltb, not-true, not-false}
use Rattle.split.specs.Split.{set_of}
use Rattle.split.specs.Rule.{End, source, destination, other_end, block_at, is_used, lowest_unused, pages_met, exchange, give_next, sets_given}
use Rattle.split.specs.inner.Mask.{bit_at, lowest_zero, FlippedAt}
use Rattle.split.specs.inner.Rows.{Accepted}
use Rattle.split.specs.inner.Cells.{row_of, cell_of, Uses, by_masks, by_order, Cell, Exact, Numbered}
use Rattle.split.specs.inner.Work.{Working, Blocked}
use Rattle.flash.proofs.Bools.{bool_cases, fails}
use Rattle.flash.proofs.Comparisons.{eq-cases, lt-cases}
use Rattle.flash.proofs.Ranges.{First, first-is}
use Rattle.split.proofs.RuleLaws.{given, Given, blocks, used-page, unused-none, lowest}
use Rattle.split.proofs.MaskLaws.{bit-lt, no_bits, zeros-at}
use Rattle.split.proofs.CellsLaws.{no-pages, one-noted, bit-now}
use Rattle.split.proofs.PathLaws.{same_block, set_here, set_else}
use Rattle.split.proofs.Numbers.{source_row, source-page, digits}

module _ (n m : ℕ) (list : List ℕ) (A : Accepted n m list) where
  pub row_lt : (end : End) (k : ℕ) → k < n * m → row_of m list end k < 64
  row_lt end k h = let b = blocks n m list A.listed A.one-to-one end k h in let f = A.n-fits in omega arith

  module _ (k : ℕ) (more : k < n * m) where
    abbrev sofar : List ℕ
    sofar = sets_given m list k

    pub so_far : Given n m list A.listed A.one-to-one k
    so_far = given n m list A.listed A.one-to-one k (omega arith)

    abbrev low : End → ℕ
    low end = lowest_unused m list sofar end (block_at m list end k)

    pub lowest-hit : (end : End) → First (λ s. not (is_used m list sofar end (block_at m list end k) s)) 0 m (low end)
    lowest-hit end = subst (λ (x : ℕ). First (λ s. not (is_used m list sofar end (block_at m list end x) s)) 0 m
        (lowest_unused m list sofar end (block_at m list end x))) so_far.counted
        (lowest n m list A.listed A.one-to-one sofar so_far.coloured (omega (arith, so_far.counted)) end)

    pub low-lt : (end : End) → low end < m
    low-lt end = let h = (lowest-hit end).high in omega arith

    -- the next sets, by the two ways of the rule
    next-sets : (a b j : ℕ) → List ℕ
    next-sets a b j =
        cond (is_used m list sofar destination (block_at m list destination j) a)
        (exchange m list sofar a b (pages_met m list sofar j destination (block_at m list destination j) a b) ++ (a ∷ []))
        (sofar ++ (a ∷ []))

    next-is : (a b : ℕ) → a ≡ low source → b ≡ low destination → next-sets a b k ≡ sets_given m list (suc k)
    unfolding next-sets sets_given give_next
    next-is a b a-is b-is =
        ap₂ (λ (x y : ℕ). next-sets x y k) a-is b-is
        ∙ ap (λ (j : ℕ). next-sets (lowest_unused m list sofar source (block_at m list source j))
        (lowest_unused m list sofar destination (block_at m list destination j)) j) (sym so_far.counted)

    gives-plain : (a : ℕ) → a ≡ low source → is_used m list sofar destination (block_at m list destination k) a ≡ false
        → sofar ++ (a ∷ []) ≡ sets_given m list (suc k)
    unfolding next-sets
    gives-plain a a-is u =
        let e : next-sets a (low destination) k ≡ sofar ++ (a ∷ []) = rw u in
        sym e ∙ next-is a _ a-is refl

    pub gives-exchanged : (a b : ℕ) → a ≡ low source → b ≡ low destination
        → is_used m list sofar destination (block_at m list destination k) a ≡ true
        → exchange m list sofar a b (pages_met m list sofar k destination (block_at m list destination k) a b) ++ (a ∷ []) ≡ sets_given m list (suc k)
    unfolding next-sets
    gives-exchanged a b a-is b-is u =
        let e : next-sets a b k ≡ exchange m list sofar a b
        (pages_met m list sofar k destination (block_at m list destination k) a b) ++ (a ∷ []) = rw u in
        sym e ∙ next-is a b a-is b-is

    -- ---- the first k pages have their sets
    module _ (sets : List ℕ) (is : take k sets ≡ sofar) where
      pub same_set : (x : ℕ) → x < k → set_of sets x ≡ set_of sofar x
      unfolding set_of
      same_set x h = sym (get_or-take k sets x 0 h) ∙ ap (λ (xs : List ℕ). get_or xs x 0) is

      -- it is told which sets are used
      used-is : (end : End) (uses : Uses) (table : List ℕ) → Exact m list end k sets uses table → (set : ℕ) → set < m
          → uses (row_of m list end k) set ≡ is_used m list sofar end (block_at m list end k) set
      used-is end uses table X set small = ⊎_elim
          (λ (u : is_used m list sofar end (block_at m list end k) set ≡ true).
          let p = used-page m list sofar end (block_at m list end k) set u in
          let h : p.0 < k = rw so_far.counted at p.1.inside in
          let row = ap (λ (x : ℕ). x - 1) p.1.at_block in
          C.marked p.0 (record { inside = h; at_row = row; in-set = same_set p.0 h ∙ p.1.in-set }) ∙ sym u)
          (λ (u : is_used m list sofar end (block_at m list end k) set ≡ false).
          fails (λ e.
          let r = C.page e in
          let p = r.1 in
          unused-none m list sofar end (block_at m list end k) set u r.0 (record {
            inside = rw so_far.counted p.inside;
            in-set = sym (same_set r.0 p.inside) ∙ p.in-set;
            at_block = same_block m list end r.0 k p.at_row;
          })) ∙ sym u)
          (bool_cases (is_used m list sofar end (block_at m list end k) set))
        where
          C : Cell m list end k sets (row_of m list end k) set (uses (row_of m list end k) set) (get_or table (cell_of set (row_of m list end k)) 0)
          C = X (row_of m list end k) set (row_lt end k more) small

      -- the lowest set unused there is free
      low_free : (end : End) (uses : Uses) (table : List ℕ) → Exact m list end k sets uses table → uses (row_of m list end k) (low end) ≡ false
      low_free end uses table X = used-is end uses table X (low end) (low-lt end) ∙ not-true _ (lowest-hit end).passes

      -- it is the lowest zero of the mask
      lowest-free : (table masks : List ℕ) → Exact m list destination k sets (by_masks masks) table
          → lowest_zero (get_or masks (row_of m list destination k) 0) ≡ low destination
      unfolding lowest_zero
      lowest-free table masks X =
          let h = lowest-hit destination in
          let fits = A.m-fits in
          let high = h.high in
          let mask = get_or masks (row_of m list destination k) 0 in
          first-is (λ bit. eqb (bit_at mask bit) 0) 0 64 64 (low destination) (record {
            low = omega arith;
            high = omega arith;
            passes = eq-eqb _ 0 (zero_bit mask (low destination) (low_free destination (by_masks masks) table X));
            before = λ s a b. ne_eqb _ 0 (one_bit mask s
                (used-is destination (by_masks masks) table X s (omega arith) ∙ not-false _ (h.before s a b)));
          })
        where
          zero_bit : (mask s : ℕ) → eqb (bit_at mask s) 1 ≡ false → bit_at mask s ≡ 0
          zero_bit mask s q = let f : bit_at mask s ≢ 1 = eqb-false _ 1 q in let l = bit-lt mask s in omega arith

          one_bit : (mask s : ℕ) → eqb (bit_at mask s) 1 ≡ true → bit_at mask s ≢ 0
          one_bit mask s q z = let f : bit_at mask s ≡ 1 = eqb-true _ 1 q in omega arith

      -- at the source it is the number of the page within its block
      own-set : (table : List ℕ) → Exact m list source k sets (by_order m k) table → low source ≡ k % m
      unfolding lowest_unused
      own-set table X = first-is (λ s. not (is_used m list sofar source (block_at m list source k) s)) 0 m m (k % m) (record {
        low = omega arith;
        high = omega (arith, mod-lt k A.some-pages);
        passes = unless (k % m) (mod-lt k A.some-pages) (le-ltb _ k (omega (arith, source-page m list k)));
        before = λ s _ h. unless s (omega (arith, h, mod-lt k A.some-pages)) (lt-ltb _ k (omega (arith, source-page m list k)));
      })
        where
          unless : (s : ℕ) → s < m → {used : Bool} → by_order m k (row_of m list source k) s ≡ used
              → not (is_used m list sofar source (block_at m list source k) s) ≡ not used
          unless s h e = ap not (sym (used-is source (by_order m k) table X s h) ∙ e)

      module _ (sets' : List ℕ) (else : (x : ℕ) → x ≢ k → set_of sets' x ≡ set_of sets x) where
        below : (x : ℕ) → x < k → set_of sets' x ≡ set_of sets x
        below x h = else x (λ e. absurd (omega arith))

        -- page k is noted at its destination under a set that is free there
        noted-there : (homes masks masks' : List ℕ) (set : ℕ) → Exact m list destination k sets (by_masks masks) homes → length homes ≡ 4096 → set < m
            → by_masks masks (row_of m list destination k) set ≡ false → set_of sets' k ≡ set → FlippedAt masks (row_of m list destination k) set masks'
            → Exact m list destination (k + 1) sets' (by_masks masks') (put homes (cell_of set (row_of m list destination k)) (row_of m list source k))
        unfolding other_end
        noted-there homes masks masks' set X sized small free its flip =
            one-noted m list destination k sets sets' (by_masks masks) (by_masks masks') homes X set (row_lt destination k more) small free its below
            (omega (arith, row_lt destination k more, A.m-fits)) (bit-now masks masks' (row_of m list destination k) set flip free)
            (λ row c _ ne. ap (λ (bit : ℕ). eqb bit 1) (flip.same row c ne))

        -- and at its source under its own number
        module _ (targets numbers : List ℕ) (X : Exact m list source k sets (by_order m k) targets) (its : set_of sets' k ≡ k % m) where
          noted_here : length targets ≡ 4096
              → Exact m list source (k + 1) sets' (by_order m (k + 1))
              (put targets (cell_of (k % m) (row_of m list source k)) (row_of m list destination k))
          unfolding other_end
          noted_here sized =
              let small = mod-lt k A.some-pages in
              one-noted m list source k sets sets' (by_order m k) (by_order m (k + 1)) targets X (k % m) (row_lt source k more) small
              (le-ltb _ k (omega (arith, source-page m list k))) its below (omega (arith, row_lt source k more, A.m-fits, small))
              (lt-ltb _ (k + 1) (omega (arith, source-page m list k)))
              (λ row c h ne. ⊎_elim
              (λ (l : row * m + c < k). lt-ltb _ (k + 1) (omega arith) ∙ sym (lt-ltb _ k l))
              (λ (l : k ≤ row * m + c).
              let other : row * m + c ≢ k = λ e.
              let d = digits m row c (row_of m list source k) (k % m) h small (e ∙ sym (source-page m list k)) in
              ⊎_elim (λ (r : row ≢ row_of m list source k). r d.0) (λ (s : c ≢ k % m). s d.1) ne in
              le-ltb _ (k + 1) (omega arith) ∙ sym (le-ltb _ k l))
              (lt-cases (row * m + c) k))

          numbered_more : Numbered m k sets numbers → k < length numbers → Numbered m (k + 1) sets' (put numbers k (k % m))
          numbered_more N room x h = ⊎_elim
              (λ (e : x ≡ k).
              let small = mod-lt k A.some-pages in
              rw (e, its) (small, rw (div-add-mod' k m) (get_or-set_same numbers k (k % m) 0 room)))
              (λ (ne : x ≢ k).
              let l : x < k = omega arith in
              let s = else x ne in
              let old = N x l in
              let low = ltb-true _ k ((X (row_of m list source x) (set_of sets x) (row_lt source x (omega arith)) old.0).marked x
              (record { inside = l; at_row = refl; in-set = refl })) in
              let not-k : x / m * m + set_of sets x ≢ k = λ e. absurd (omega (arith, low, ap (λ (r : ℕ). r * m) (source_row m list x))) in
              rw s (old.0, get_or-set_other numbers k (x / m * m + set_of sets x) (k % m) 0 not-k ∙ old.1))
              (eq-cases x k)

-- ---- page k gets its set
module _ (m : ℕ) (list : List ℕ) (k : ℕ) (numbers targets homes destinations : List ℕ) (W : Working m list k numbers targets homes destinations)
    (more : k < W.blocks * m) where
  abbrev A : Accepted W.blocks m list
  A = W.accepted

  abbrev a : ℕ
  a = k % m

  abbrev sets' : List ℕ
  sets' = put W.sets k a

  inside : k < length W.sets
  inside = omega (arith, W.sized)

  its : set_of sets' k ≡ a
  its = set_here W.sets k a inside

  a-is : a ≡ lowest_unused m list (sets_given m list k) source (block_at m list source k)
  a-is = sym (own-set W.blocks m list A k more W.sets W.given targets W.at-sources)

  a_lt : a < m
  a_lt = mod-lt k A.some-pages

  abbrev numbers' : List ℕ
  numbers' = put numbers k a

  abbrev targets' : List ℕ
  targets' = put targets (cell_of a (row_of m list source k)) (row_of m list destination k)

  at-sources : Exact m list source (k + 1) sets' (by_order m (k + 1)) targets'
  at-sources = noted_here W.blocks m list A k more W.sets W.given sets' (set_else W.sets k a) targets numbers
      W.at-sources its W.targets-sized

  numbered : Numbered m (k + 1) sets' numbers'
  numbered = numbered_more W.blocks m list A k more W.sets W.given sets' (set_else W.sets k a) targets numbers
      W.at-sources its W.numbered (omega (arith, W.numbers-sized))

  abbrev homes' : (set : ℕ) → List ℕ
  homes' set = put homes (cell_of set (row_of m list destination k)) (row_of m list source k)

  -- whether a is used at the destination
  used-there : by_masks destinations (row_of m list destination k) a
      ≡ is_used m list (sets_given m list k) destination (block_at m list destination k) a
  used-there = used-is W.blocks m list A k more W.sets W.given destination (by_masks destinations) homes W.at-destinations a a_lt

  given-plain : (destinations' : List ℕ) → by_masks destinations (row_of m list destination k) a ≡ false
      → FlippedAt destinations (row_of m list destination k) a destinations' → Working m list (k + 1) numbers' targets' (homes' a) destinations'
  given-plain destinations' u flip = record {
    blocks = W.blocks;
    accepted = A;
    within = omega arith;
    sets = sets';
    sized = length-set W.sets k a ∙ W.sized;
    given = ap (λ (j : ℕ). take j sets') (add-one k) ∙ take-suc-set W.sets k a inside ∙ ap (λ (xs : List ℕ). xs ++ (a ∷ [])) W.given
        ∙ gives-plain W.blocks m list A k more a a-is (sym used-there ∙ u) ∙ ap (sets_given m list) (sym (add-one k));
    numbers-sized = length-set numbers k a ∙ W.numbers-sized;
    targets-sized = length-set targets _ _ ∙ W.targets-sized;
    homes-sized = length-set homes _ _ ∙ W.homes-sized;
    numbered = numbered;
    at-sources = at-sources;
    at-destinations = noted-there W.blocks m list A k more W.sets W.given sets' (set_else W.sets k a) homes destinations destinations' a
        W.at-destinations W.homes-sized a_lt u its flip;
  }

  module _ (b : ℕ) (b-is : b ≡ lowest_zero (get_or destinations (row_of m list destination k) 0)) where
    b-low : b ≡ lowest_unused m list (sets_given m list k) destination (block_at m list destination k)
    b-low = b-is ∙ lowest-free W.blocks m list A k more W.sets W.given homes destinations W.at-destinations

    b_lt : b < m
    b_lt = rw b-low (low-lt W.blocks m list A k more destination)

    given-blocked : (destinations' : List ℕ) → by_masks destinations (row_of m list destination k) a ≡ true
        → FlippedAt destinations (row_of m list destination k) b destinations' → Blocked m list k a b numbers' targets' (homes' b) destinations'
    given-blocked destinations' u flip = record {
      blocks = W.blocks;
      accepted = A;
      inside = more;
      sets = sets';
      sized = length-set W.sets k a ∙ W.sized;
      given = take-set-le k W.sets k a (omega arith) ∙ W.given;
      a-is = a-is;
      a_own = refl;
      b-is = b-low;
      used = sym used-there ∙ u;
      its-set = its;
      numbers-sized = length-set numbers k a ∙ W.numbers-sized;
      targets-sized = length-set targets _ _ ∙ W.targets-sized;
      homes-sized = length-set homes _ _ ∙ W.homes-sized;
      numbered = numbered;
      at-sources = at-sources;
      at-destinations = noted-there W.blocks m list A k more W.sets W.given (put sets' k b)
          (λ x ne. set_else sets' k b x ne ∙ set_else W.sets k a x ne) homes destinations destinations' b
          W.at-destinations W.homes-sized b_lt
          (rw b-low (low_free W.blocks m list A k more W.sets W.given destination (by_masks destinations) homes W.at-destinations))
          (set_here sets' k b (rw length-set inside)) flip;
    }

  -- ---- the same in what the code computes
  module _ (home block : ℕ) (home-is : home ≡ k / m) (block-is : block ≡ row_of m list destination k) where
    home-row : home ≡ row_of m list source k
    home-row = home-is ∙ sym (source_row m list k)

    own_is : k - home * m ≡ a
    own_is = let e : home * m + a ≡ k = ap (λ (x : ℕ). x * m + a) home-is ∙ div-add-mod' k m in omega arith

    pub rooms : (home < 64) × (block < 64) × (home * m ≤ k) × (k - home * m < 64)
    rooms = (
      rw home-row (row_lt W.blocks m list A source k more),
      rw block-is (row_lt W.blocks m list A destination k more),
      (let e : home * m + a ≡ k = ap (λ (x : ℕ). x * m + a) home-is ∙ div-add-mod' k m in omega arith),
      omega (arith, own_is, a_lt, A.m-fits),
    )

    pub other-lt : (b : ℕ) → b ≡ lowest_zero (get_or destinations block 0) → b < 64
    other-lt b b-is = omega (arith, b_lt b (rw block-is at b-is), A.m-fits)

    module _ (own : ℕ) (own_at : own ≡ k - home * m) (targets'' homes'' destinations' : List ℕ)
        (targets-are : targets'' ≡ put targets (cell_of own home) block) where
      own-a : own ≡ a
      own-a = own_at ∙ own_is

      pub plain : by_masks destinations block own ≡ false → homes'' ≡ put homes (cell_of own block) home → FlippedAt destinations block own destinations'
          → Working m list (k + 1) (put numbers k own) targets'' homes'' destinations'
      plain u homes-are flip = rw (targets-are, homes-are, own-a, block-is, home-row)
          (given-plain destinations' (rw (block-is, own-a) at u) (rw (block-is, own-a) at flip))

      pub blocked : (b : ℕ) → b ≡ lowest_zero (get_or destinations block 0) → by_masks destinations block own ≡ true
          → homes'' ≡ put homes (cell_of b block) home → FlippedAt destinations block b destinations'
          → Blocked m list k own b (put numbers k own) targets'' homes'' destinations'
      blocked b b-is u homes-are flip = rw (targets-are, homes-are, own-a, block-is, home-row)
          (given-blocked b (rw block-is at b-is) destinations' (rw (block-is, own-a) at u) (rw block-is at flip))

pub work-starts : (n m : ℕ) (list numbers : List ℕ) → Accepted n m list → length numbers ≡ n * m
    → Working m list 0 numbers (replicate 4096 0) (replicate 4096 0) (replicate 64 0)
unfolding sets_given
work-starts n m list numbers accepted len = record {
  blocks = n;
  accepted = accepted;
  within = omega arith;
  sets = numbers;
  sized = len;
  given = refl;
  numbers-sized = len;
  targets-sized = refl;
  homes-sized = refl;
  numbered = λ k h. absurd (not-suc-le-zero h);
  at-sources = no-pages m list source numbers (by_order m 0) (replicate 4096 0) (λ row set. le-ltb (row * m + set) 0 (omega arith));
  at-destinations = no-pages m list destination numbers (by_masks (replicate 64 0)) (replicate 4096 0)
      (λ row set. ap (λ (mask : ℕ). eqb (bit_at mask set) 1) (zeros-at 64 row) ∙ ap (λ (bit : ℕ). eqb bit 1) (no_bits set));
}
