-- The split rule ends in a split: each page in turn finds a set that is unused at its source, and at its destination after the exchange.
use Rattle.flash.proofs.Kit.{◌≡◌, refl, sym, ap, ◌∙◌, subst, ◌⊎◌, inl, inr, ◌≢◌, ⊎_elim, true, false, not, List, [], ◌∷◌, ◌++◌, ℕ, zero, suc}
use Rattle.flash.proofs.Kit.{◌+◌, ◌-◌, ◌*◌, ◌%◌, ◌≤◌, ◌<◌, not-suc-le-zero, mod-lt, arith, length, get_or, length-append}
use Rattle.flash.proofs.Kit.{List·getD-append, get_or_at, not-true, not-false}
use Rattle.flash.specs.Lists.{first}
use Rattle.flash.specs.Geometry.{block_of}
use Rattle.split.specs.OneToOne.{is_one_to_one}
use Rattle.split.specs.Split.{source_block, dest_block, set_of, is_split}
use Rattle.split.specs.Rule.{End, source, destination, block_at, is_page_of, is_used, lowest_unused, pages_met, exchange, give_next, sets_given, split_by_rule}
use Rattle.flash.proofs.Bools.{bool_cases, never_both}
use Rattle.flash.proofs.Ranges.{any-is, First, any-range-find, Missed, first-cases}
use Rattle.flash.proofs.Comparisons.{lt-cases}
use Rattle.split.proofs.Pigeon.{crowded}
use Rattle.split.proofs.OneToOneLaws.{entry_lt, entry-same}
use Rattle.split.proofs.SplitLaws.{some-page, block-range, split-of, same_place}
use Rattle.split.proofs.Walk.{Coloured, PageAt, page-test, test-page, page_at, page-found, walk_ends, path-bound, path-length}
use Rattle.split.proofs.Exchange.{exchange-length, after-coloured, free_source, free-destination}

module _ (m : ℕ) (list given : List ℕ) where
  pub used-page : (end : End) (block set : ℕ) → is_used m list given end block set ≡ true → (k : ℕ) × PageAt m list given end block set k
  unfolding is_used
  used-page end block set e =
      let r = any-range-find (is_page_of m list given end block set) 0 (length given) e in
      (r.0, test-page m list given end block set r.0 (omega (arith, r.2)) r.3)

  pub unused-none : (end : End) (block set : ℕ) → is_used m list given end block set ≡ false → (k : ℕ)
      → PageAt m list given end block set k → ⊥
  unfolding is_used
  unused-none end block set e k p =
      let h = p.inside in
      never_both (any-is (is_page_of m list given end block set) 0 (length given) k (omega arith) (omega arith)
      (page-test m list given end block set k p)) e

  -- one page more, with a set that neither of its blocks uses
  pub grown : (set k : ℕ) → length given ≡ k → Coloured m list given → set < m
      → ((end : End) (x : ℕ) → x < k → block_at m list end x ≡ block_at m list end k → set_of given x ≢ set)
      → Coloured m list (given ++ (set ∷ []))
  unfolding set_of
  grown set k len C small fresh = record {
    small = λ x h. ⊎_elim (λ (l : x < k). rw (old x l) (C.small x (omega arith))) (λ (l : k ≤ x). rw (new x h l).1 small)
        (lt-cases x k);
    proper = λ end x y h l v c. go end x y h l v c (lt-cases x k) (lt-cases y k);
  }
    where
      old : (x : ℕ) → x < k → set_of (given ++ (set ∷ [])) x ≡ set_of given x
      old x h = List·getD-append given (set ∷ []) 0 x (omega arith)

      new : (x : ℕ) → x < length (given ++ (set ∷ [])) → k ≤ x → (x ≡ k) × (set_of (given ++ (set ∷ [])) x ≡ set)
      new x h l =
          let e : x ≡ k = omega (arith, length-append given (set ∷ [])) in
          (e, ap (λ (i : ℕ). get_or (given ++ (set ∷ [])) i 0) e ∙ get_or_at given set [] 0 k len)

      go : (end : End) (x y : ℕ) → x < length (given ++ (set ∷ [])) → y < length (given ++ (set ∷ []))
          → block_at m list end x ≡ block_at m list end y
          → set_of (given ++ (set ∷ [])) x ≡ set_of (given ++ (set ∷ [])) y → (x < k) ⊎ (k ≤ x) → (y < k) ⊎ (k ≤ y) → x ≡ y
      go end x y h l v c (inl p) (inl q) = C.proper end x y (omega arith) (omega arith) v (sym (old x p) ∙ c ∙ old y q)
      go end x y h l v c (inl p) (inr q) =
          let n = new y l q in absurd (fresh end x p (v ∙ ap (block_at m list end) n.0) (sym (old x p) ∙ c ∙ n.1))
      go end x y h l v c (inr p) (inl q) =
          let n = new x h p in absurd (fresh end y q (sym v ∙ ap (block_at m list end) n.0) (sym (old y q) ∙ sym c ∙ n.1))
      go end x y h l v c (inr p) (inr q) = (new x h p).0 ∙ sym (new y l q).0

-- the page number at an end
unfoldable pub place_at : List ℕ → End → (k : ℕ) → ℕ
place_at list source k = k
place_at list destination k = get_or list k 0

pub at_place : (m : ℕ) (list : List ℕ) (end : End) (k : ℕ) → block_at m list end k ≡ block_of m (place_at list end k)
unfolding place_at block_at source_block dest_block
at_place m list source k = refl
at_place m list destination k = refl

module _ (n m : ℕ) (list : List ℕ) (listed : length list ≡ n * m) (accepted : is_one_to_one (n * m) list ≡ true) where
  place_same : (end : End) (x y : ℕ) → x < n * m → y < n * m → place_at list end x ≡ place_at list end y → x ≡ y
  unfolding place_at
  place_same source x y h l e = e
  place_same destination x y h l e = entry-same (n * m) list accepted x y (omega arith) (omega arith) e

  pub blocks : (end : End) (k : ℕ) → k < n * m → (1 ≤ block_at m list end k) × (block_at m list end k ≤ n)
  unfolding block_at source_block dest_block
  blocks source k h = block-range n m k h
  blocks destination k h = block-range n m (get_or list k 0) (entry_lt (n * m) list accepted k (omega arith))

  module _ (given : List ℕ) (C : Coloured m list given) (room : length given < n * m) where
    abbrev k : ℕ
    k = length given

    positive : 0 < m
    positive = some-page n m room

    -- A block has m places, and page k has one of them, so not all of the m sets are used there.
    not-all : (end : End) → ((set : ℕ) → set < m → is_used m list given end (block_at m list end k) set ≡ true) → ⊥
    not-all end f = crowded m (λ set. place_at list end (page set) % m) (place_at list end k % m) (mod-lt _ positive)
        (λ set h. mod-lt _ positive) differ apart
      where
        page : ℕ → ℕ
        page set = page_at m list given end (block_at m list end k) set

        is-page : (set : ℕ) → set < m → PageAt m list given end (block_at m list end k) set (page set)
        is-page set h = ⊎_elim
            (λ (p : PageAt m list given end (block_at m list end k) set (page set)). p)
            (λ (q : (page set ≡ length given) × ((x : ℕ) → PageAt m list given end (block_at m list end k) set x → ⊥)).
            let u = used-page m list given end (block_at m list end k) set (f set h) in absurd (q.1 u.0 u.1))
            (page-found m list given end (block_at m list end k) set)

        same : (x y : ℕ) → x < n * m → y < n * m → block_at m list end x ≡ block_at m list end y
            → place_at list end x % m ≡ place_at list end y % m → x ≡ y
        same x y h l v r =
            place_same end x y h l (same_place m (place_at list end x) (place_at list end y)
            (sym (at_place m list end x) ∙ v ∙ at_place m list end y) r)

        differ : (i j : ℕ) → i < m → j < m → place_at list end (page i) % m ≡ place_at list end (page j) % m → i ≡ j
        differ i j h l r =
            let p = is-page i h in
            let q = is-page j l in
            let e = same (page i) (page j) (omega (arith, p.inside)) (omega (arith, q.inside)) (p.at_block ∙ sym q.at_block) r in
            sym p.in-set ∙ ap (set_of given) e ∙ q.in-set

        apart : (i : ℕ) → i < m → place_at list end (page i) % m ≢ place_at list end k % m
        apart i h r =
            let p = is-page i h in
            let l = p.inside in
            let e : page i ≡ k = same (page i) k (omega arith) room p.at_block r in
            omega arith

    pub lowest : (end : End) → First (λ set. not (is_used m list given end (block_at m list end k) set)) 0 m
        (lowest_unused m list given end (block_at m list end k))
    unfolding lowest_unused
    lowest end = ⊎_elim
        (λ (h : First (λ set. not (is_used m list given end (block_at m list end k) set)) 0 m
        (lowest_unused m list given end (block_at m list end k))). h)
        (λ (h : Missed (λ set. not (is_used m list given end (block_at m list end k) set)) 0 m m
        (lowest_unused m list given end (block_at m list end k))).
        absurd (not-all end (λ set l. not-false _ (h.none set (omega arith) (omega arith)))))
        (first-cases (λ set. not (is_used m list given end (block_at m list end k) set)) 0 m m)

    pub lowest-lt : (end : End) → lowest_unused m list given end (block_at m list end k) < m
    lowest-lt end = let h = (lowest end).high in omega arith

    pub lowest-unused : (end : End) → is_used m list given end (block_at m list end k)
        (lowest_unused m list given end (block_at m list end k)) ≡ false
    lowest-unused end = not-true _ (lowest end).passes

    pub lowest-none : (end : End) (x : ℕ) → PageAt m list given end (block_at m list end k)
        (lowest_unused m list given end (block_at m list end k)) x → ⊥
    lowest-none end = unused-none m list given end (block_at m list end k) _ (lowest-unused end)

    abbrev pub a : ℕ
    a = lowest_unused m list given source (block_at m list source k)

    abbrev pub b : ℕ
    b = lowest_unused m list given destination (block_at m list destination k)

    -- a page holds a at the destination, so that a is not the set b
    differ : (first : ℕ) → PageAt m list given destination (block_at m list destination k) a first → a ≢ b
    differ first p e = lowest-none destination first
        (subst (λ (set : ℕ). PageAt m list given destination (block_at m list destination k) set first) e p)

    pub next-coloured : Coloured m list (give_next m list given)
    unfolding give_next
    next-coloured = ⊎_elim
        (λ (u : is_used m list given destination (block_at m list destination k) a ≡ true).
        let f = used-page m list given destination (block_at m list destination k) a u in
        let d = differ f.0 f.1 in
        rw u (grown m list _ a k (exchange-length m list given a b _)
        (after-coloured m list given C a b d (block_at m list destination k) (lowest-none destination) (lowest-lt source)
        (lowest-lt destination))
        (lowest-lt source)
        (exchanged f.0 f.1 d)))
        (λ (u : is_used m list given destination (block_at m list destination k) a ≡ false).
        rw u (grown m list given a k refl C (lowest-lt source) (plain u)))
        (bool_cases (is_used m list given destination (block_at m list destination k) a))
      where
        exchanged : (first : ℕ) → PageAt m list given destination (block_at m list destination k) a first → (d : a ≢ b)
            → (end : End) (x : ℕ) → x < k → block_at m list end x ≡ block_at m list end k
            → set_of (exchange m list given a b (pages_met m list given k destination (block_at m list destination k) a b)) x ≢ a
        exchanged first p d source = free_source m list given C a b d (block_at m list destination k) (lowest-none destination)
            (block_at m list source k) (lowest-none source)
        exchanged first p d destination = free-destination m list given C a b d (block_at m list destination k)
            (lowest-none destination) first p

        plain : is_used m list given destination (block_at m list destination k) a ≡ false
            → (end : End) (x : ℕ) → x < k → block_at m list end x ≡ block_at m list end k → set_of given x ≢ a
        plain u source x h v c = lowest-none source x (record { inside = h; in-set = c; at_block = v })
        plain u destination x h v c = unused-none m list given destination (block_at m list destination k) a u x
            (record { inside = h; in-set = c; at_block = v })

    pub next-length : length (give_next m list given) ≡ suc k
    unfolding give_next
    next-length = ⊎_elim
        (λ (u : is_used m list given destination (block_at m list destination k) a ≡ true).
        rw (u, length-append) (omega (
          arith,
          exchange-length m list given a b
              (pages_met m list given k destination (block_at m list destination k) a b),
        )))
        (λ (u : is_used m list given destination (block_at m list destination k) a ≡ false). rw (u, length-append) (omega arith))
        (bool_cases (is_used m list given destination (block_at m list destination k) a))

    -- The walk where it has no page to start with: a larger bound changes nothing.
    no_walk : is_used m list given destination (block_at m list destination k) a ≡ false → (bound : ℕ)
        → pages_met m list given bound destination (block_at m list destination k) a b ≡ []
    unfolding pages_met
    no_walk u zero = refl
    no_walk u (suc bound) = (walk_ends m list given bound destination (block_at m list destination k) a b
        (unused-none m list given destination (block_at m list destination k) a u)).1

    pub walk-bound : (more : ℕ) → pages_met m list given (k + more) destination (block_at m list destination k) a b
        ≡ pages_met m list given k destination (block_at m list destination k) a b
    walk-bound more = ⊎_elim
        (λ (u : is_used m list given destination (block_at m list destination k) a ≡ true).
        let f = used-page m list given destination (block_at m list destination k) a u in
        path-bound m list given C a b (differ f.0 f.1) (block_at m list destination k) (lowest-none destination) more)
        (λ (u : is_used m list given destination (block_at m list destination k) a ≡ false). no_walk u (k + more) ∙ sym (no_walk u k))
        (bool_cases (is_used m list given destination (block_at m list destination k) a))

    pub walk-length : length (pages_met m list given k destination (block_at m list destination k) a b) ≤ 2 * n - 2
    walk-length = ⊎_elim
        (λ (u : is_used m list given destination (block_at m list destination k) a ≡ true).
        let f = used-page m list given destination (block_at m list destination k) a u in
        let here = blocks source k room in
        path-length m list given C a b (differ f.0 f.1) (block_at m list destination k) (lowest-none destination)
        n (block_at m list source k) (λ x h. blocks source x (omega arith)) here.0 here.1 (lowest-none source) k)
        (λ (u : is_used m list given destination (block_at m list destination k) a ≡ false). rw (no_walk u k) (omega arith))
        (bool_cases (is_used m list given destination (block_at m list destination k) a))

  -- the sets given so far
  pub record Given (count : ℕ) : Type 0 where
    pub coloured : Coloured m list (sets_given m list count)
    pub counted : length (sets_given m list count) ≡ count

  pub given : (count : ℕ) → count ≤ n * m → Given count
  unfolding sets_given
  given zero h = record {
    coloured = record { small = λ k l. absurd (not-suc-le-zero l); proper = λ end x y l. absurd (not-suc-le-zero l) };
    counted = refl;
  }
  given (suc count) h =
      let before = given count (omega arith) in
      let room : length (sets_given m list count) < n * m = omega (arith, before.counted) in
      record {
        coloured = next-coloured (sets_given m list count) before.coloured room;
        counted = next-length (sets_given m list count) before.coloured room ∙ ap suc before.counted;
      }

  pub rule-length : length (split_by_rule n m list) ≡ n * m
  unfolding split_by_rule
  rule-length = (given (n * m) (omega arith)).counted

  pub rule-split : is_split n m list (split_by_rule n m list) ≡ true
  unfolding split_by_rule block_at
  rule-split =
      let all = given (n * m) (omega arith) in
      let len : length (sets_given m list (n * m)) ≡ n * m = all.counted in
      split-of n m list (sets_given m list (n * m)) listed accepted len
      (λ k h. all.coloured.small k (omega arith))
      (λ x y h l v c. all.coloured.proper source x y (omega arith) (omega arith) v c)
      (λ x y h l v c. all.coloured.proper destination x y (omega arith) (omega arith) v c)
