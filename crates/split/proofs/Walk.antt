-- The exchange walk: an alternating path in the colouring of the pages, whose edges are the moves and whose colours are the sets.
use Rattle.flash.proofs.Kit.{◌≡◌, refl, sym, ap, ◌∙◌, subst, ◌⊎◌, inl, inr, ◌≢◌, ⊎_elim, true, List, [], ◌∷◌, ℕ, zero, suc, ◌+◌, ◌-◌, ◌*◌, ◌≤◌, ◌<◌}
use Rattle.flash.proofs.Kit.{not-suc-le-zero, suc-add, arith, add-one, eqb, length, get_or, take, take_all, eqb-true, eq-eqb, lt-ltb, le-ltb}
use Rattle.flash.specs.Lists.{range, first}
use Rattle.split.specs.Split.{set_of}
use Rattle.split.specs.Rule.{End, source, destination, other_end, block_at, is_page_of, pages_met}
use Rattle.flash.proofs.Bools.{never_both, and_left, and_right, and_both}
use Rattle.flash.proofs.Ranges.{First, Missed, first-cases}
use Rattle.flash.proofs.Comparisons.{lt-cases, eq-cases, ne-lt}
use Rattle.split.proofs.Pigeon.{pigeon, crowded}
use Rattle.split.proofs.OneToOneLaws.{Distinct}
use Rattle.split.proofs.SplitLaws.{PageOf, Proper}

pub other-twice : (end : End) → other_end (other_end end) ≡ end
unfolding other_end
other-twice source = refl
other-twice destination = refl

-- No two pages of a block, at either end, share a set: an edge colouring.
pub record Coloured (m : ℕ) (list given : List ℕ) : Type 0 where
  pub small : (k : ℕ) → k < length given → set_of given k < m
  pub proper : (end : End) → Proper (length given) given (block_at m list end)

module _ (m : ℕ) (list given : List ℕ) where
  abbrev pub PageAt : End → (block set k : ℕ) → Type 0
  PageAt end block set k = PageOf (length given) given (block_at m list end) set block k

  pub page-test : (end : End) (block set k : ℕ) → PageAt end block set k → is_page_of m list given end block set k ≡ true
  unfolding is_page_of
  page-test end block set k p = and_both _ _ (eq-eqb _ block p.at_block) (eq-eqb _ set p.in-set)

  pub test-page : (end : End) (block set k : ℕ) → k < length given → is_page_of m list given end block set k ≡ true
      → PageAt end block set k
  unfolding is_page_of
  test-page end block set k h e = record {
    inside = h;
    in-set = eqb-true _ set (and_right (eqb (block_at m list end k) block) _ e);
    at_block = eqb-true _ block (and_left _ (eqb (set_of given k) set) e);
  }

  -- the search for the next page of the walk
  abbrev pub page_at : End → (block set : ℕ) → ℕ
  page_at end block set = first (is_page_of m list given end block set) (range 0 (length given)) (length given)

  pub page-found : (end : End) (block set : ℕ)
      → PageAt end block set (page_at end block set) ⊎ ((page_at end block set ≡ length given) × ((k : ℕ) → PageAt end block set k → ⊥))
  page-found end block set = ⊎_elim
      (λ (f : First _ 0 (length given) (page_at end block set)). inl (test-page end block set _ (omega (arith, f.high)) f.passes))
      (λ (f : Missed _ 0 (length given) (length given) (page_at end block set)). inr (
        f.is,
        λ k p.
            let h = p.inside in never_both (page-test end block set k p) (f.none k (omega arith) (omega arith)),
      ))
      (first-cases (is_page_of m list given end block set) 0 (length given) (length given))

  -- one step of the walk
  abbrev Goes : (bound : ℕ) → End → (block set other met : ℕ) → Type 0
  Goes bound end block set other met =
      PageAt end block set met
      × (pages_met m list given (suc bound) end block set other ≡ met ∷ pages_met m list given bound (other_end end)
      (block_at m list (other_end end) met) other set)

  abbrev Ends : (bound : ℕ) → End → (block set other : ℕ) → Type 0
  Ends bound end block set other = ((k : ℕ) → PageAt end block set k → ⊥) × (pages_met m list given (suc bound) end block set other ≡ [])

  pub walk-goes : (bound : ℕ) (end : End) (block set other : ℕ) → PageAt end block set (page_at end block set)
      → Goes bound end block set other (page_at end block set)
  unfolding pages_met
  walk-goes bound end block set other p = (p, rw (lt-ltb (page_at end block set) (length given) p.inside) refl)

  pub walk_ends : (bound : ℕ) (end : End) (block set other : ℕ) → ((k : ℕ) → PageAt end block set k → ⊥)
      → Ends bound end block set other
  unfolding pages_met
  walk_ends bound end block set other none = ⊎_elim
      (λ (p : PageAt end block set (page_at end block set)). absurd (none _ p))
      (λ (q : (page_at end block set ≡ length given) × ((k : ℕ) → PageAt end block set k → ⊥)).
      (none, rw (le-ltb (page_at end block set) (length given) (omega (arith, q.0))) refl))
      (page-found end block set)

  walk_step : (bound : ℕ) (end : End) (block set other : ℕ)
      → Goes bound end block set other (page_at end block set) ⊎ Ends bound end block set other
  walk_step bound end block set other = ⊎_elim
      (λ (p : PageAt end block set (page_at end block set)). inl (walk-goes bound end block set other p))
      (λ (q : (page_at end block set ≡ length given) × ((k : ℕ) → PageAt end block set k → ⊥)). inr
      (walk_ends bound end block set other q.1))
      (page-found end block set)

  -- a smaller bound gives the first pages
  pub walk-take : (bound more : ℕ) (end : End) (block set other : ℕ)
      → pages_met m list given bound end block set other ≡ take bound (pages_met m list given (bound + more) end block set other)
  unfolding pages_met
  walk-take zero more end block set other = refl
  walk-take (suc bound) more end block set other = rw (suc-add bound more) (⊎_elim
      (λ (g : Goes bound end block set other (page_at end block set)).
      let g' = walk-goes (bound + more) end block set other g.0 in
      g.1 ∙ ap (λ (xs : List ℕ). page_at end block set ∷ xs)
      (walk-take bound more (other_end end) (block_at m list (other_end end) (page_at end block set)) other set)
      ∙ ap (take (suc bound)) (sym g'.1))
      (λ (g : Ends bound end block set other).
      g.1 ∙ ap (take (suc bound)) (sym (walk_ends (bound + more) end block set other g.0).1))
      (walk_step bound end block set other))

-- a and b in turn: the pages met at a destination have set a, those met at a source set b
module _ (m : ℕ) (list given : List ℕ) (C : Coloured m list given) (a b : ℕ) (differ : a ≢ b) where
  unfoldable pub met_as : End → ℕ
  met_as destination = a
  met_as source = b

  pub met_as-same : (e f : End) → met_as e ≡ met_as f → e ≡ f
  unfolding met_as
  met_as-same source source q = refl
  met_as-same source destination q = absurd (differ (sym q))
  met_as-same destination source q = absurd (differ q)
  met_as-same destination destination q = refl

  pub met_as-two : (set : ℕ) (e : End) → (set ≡ a) ⊎ (set ≡ b) → (set ≡ met_as e) ⊎ (set ≡ met_as (other_end e))
  unfolding met_as other_end
  met_as-two set source (inl q) = inr q
  met_as-two set source (inr q) = inl q
  met_as-two set destination (inl q) = inl q
  met_as-two set destination (inr q) = inr q

  -- the walk goes on from x, at this end, to z
  pub record Leads (end : End) (x z : ℕ) : Type 0 where
    pub was : set_of given x ≡ met_as (other_end end)
    pub to : PageAt m list given end (block_at m list end x) (met_as end) z

  -- no two pages lead to the same page
  pub leads-same : (e f : End) (x y z : ℕ) → x < length given → y < length given → Leads e x z → Leads f y z → x ≡ y
  leads-same e f x y z h l p q =
      let same : e ≡ f = met_as-same e f (sym p.to.in-set ∙ q.to.in-set) in
      C.proper e x y h l
      (sym p.to.at_block ∙ ap (λ (g : End). block_at m list g z) same ∙ q.to.at_block
      ∙ ap (λ (g : End). block_at m list g y) (sym same))
      (p.was ∙ ap (λ (g : End). met_as (other_end g)) same ∙ sym q.was)

  -- a set comes back after two steps
  pub leads-twice : (e f : End) {x y z : ℕ} → Leads e x y → Leads f y z → set_of given z ≡ set_of given x
  leads-twice e f p q =
      let same : e ≡ other_end f = met_as-same e (other_end f) (sym p.to.in-set ∙ q.was) in
      q.to.in-set ∙ ap met_as (sym (other-twice f) ∙ ap other_end (sym same)) ∙ sym p.was

  abbrev walk : (bound : ℕ) → End → (block : ℕ) → List ℕ
  walk bound end block = pages_met m list given bound end block (met_as end) (met_as (other_end end))

  -- the next pages of the walk are a walk
  rest-is : (bound : ℕ) (end : End) (block : ℕ)
      → pages_met m list given bound (other_end end) block (met_as (other_end end)) (met_as end) ≡ walk bound (other_end end) block
  rest-is bound end block = ap (λ (e : End). pages_met m list given bound (other_end end) block (met_as (other_end end)) (met_as e))
      (sym (other-twice end))

  -- the walk has a page to go to, or is over
  record Onward (bound : ℕ) (end : End) (block : ℕ) : Type 0 where
    met : ℕ
    page : PageAt m list given end block (met_as end) met
    is : walk (suc bound) end block ≡ met ∷ walk bound (other_end end) (block_at m list (other_end end) met)

  record Over (bound : ℕ) (end : End) (block : ℕ) : Type 0 where
    none : (k : ℕ) → PageAt m list given end block (met_as end) k → ⊥
    is : walk (suc bound) end block ≡ []

  step : (bound : ℕ) (end : End) (block : ℕ) → Onward bound end block ⊎ Over bound end block
  step bound end block =
      let met : ℕ = page_at m list given end block (met_as end) in
      ⊎_elim
      (λ (g : Goes m list given bound end block (met_as end) (met_as (other_end end)) met).
      inl (record { met = met; page = g.0; is = g.1 ∙ ap (λ (xs : List ℕ). met ∷ xs) (rest-is bound end _) }))
      (λ (g : Ends m list given bound end block (met_as end) (met_as (other_end end))). inr (record { none = g.0; is = g.1 }))
      (walk_step m list given bound end block (met_as end) (met_as (other_end end)))

  -- from a page met at one end the walk leads on at the other
  on : (end : End) (block x z : ℕ) → PageAt m list given end block (met_as end) x
      → PageAt m list given (other_end end) (block_at m list (other_end end) x) (met_as (other_end end)) z → Leads (other_end end) x z
  on end block x z p q = record { was = p.in-set ∙ ap met_as (sym (other-twice end)); to = q }

  walk-head : (bound : ℕ) (end : End) (block : ℕ) → 0 < length (walk bound end block)
      → PageAt m list given end block (met_as end) (get_or (walk bound end block) 0 0)
  unfolding pages_met
  walk-head zero end block h = absurd (not-suc-le-zero h)
  walk-head (suc bound) end block h = ⊎_elim
      (λ (g : Onward bound end block). subst (λ (xs : List ℕ). PageAt m list given end block (met_as end) (get_or xs 0 0))
      (sym g.is) g.page)
      (λ (g : Over bound end block).
      let z : length (walk (suc bound) end block) ≡ 0 = ap length g.is in absurd (omega arith))
      (step bound end block)

  -- each page met leads to the next
  abbrev Chain : List ℕ → Type 0
  Chain xs = (i : ℕ) → suc i < length xs → (end : End) × Leads end (get_or xs i 0) (get_or xs (suc i) 0)

  walk-chain : (bound : ℕ) (end : End) (block : ℕ) → Chain (walk bound end block)
  unfolding pages_met
  walk-chain zero end block = λ i h. absurd (not-suc-le-zero h)
  walk-chain (suc bound) end block = ⊎_elim
      (λ (g : Onward bound end block).
      subst Chain (sym g.is) (linked g.met g.page (walk-chain bound (other_end end) (block_at m list (other_end end) g.met))))
      (λ (g : Over bound end block).
      subst Chain (sym g.is) (λ i h. absurd (not-suc-le-zero h)))
      (step bound end block)
    where
      linked : (met : ℕ) → PageAt m list given end block (met_as end) met
          → Chain (walk bound (other_end end) (block_at m list (other_end end) met))
          → Chain (met ∷ walk bound (other_end end) (block_at m list (other_end end) met))
      linked met p rest zero h = (
        other_end end,
        on end block met _ p
            (walk-head bound (other_end end) (block_at m list (other_end end) met) (omega arith)),
      )
      linked met p rest (suc i) h = rest i (omega arith)

  -- a walk that its bound did not stop goes on wherever it can
  abbrev Closed : List ℕ → Type 0
  Closed xs = (i : ℕ) (end : End) (z : ℕ) → i < length xs → Leads end (get_or xs i 0) z → (suc i < length xs) × (get_or xs (suc i) 0 ≡ z)

  head-is : (bound : ℕ) (end : End) (block z : ℕ) → length (walk bound end block) < bound → PageAt m list given end block (met_as end) z
      → (0 < length (walk bound end block)) × (get_or (walk bound end block) 0 0 ≡ z)
  head-is zero end block z h p = absurd (not-suc-le-zero h)
  head-is (suc bound) end block z h p = ⊎_elim
      (λ (g : Onward bound end block).
      subst (λ (xs : List ℕ). (0 < length xs) × (get_or xs 0 0 ≡ z)) (sym g.is) (
        omega arith,
        C.proper end g.met z g.page.inside p.inside (g.page.at_block ∙ sym p.at_block)
            (g.page.in-set ∙ sym p.in-set),
      ))
      (λ (g : Over bound end block). absurd (g.none z p))
      (step bound end block)

  walk-closed : (bound : ℕ) (end : End) (block : ℕ) → length (walk bound end block) < bound → Closed (walk bound end block)
  walk-closed zero end block h = absurd (not-suc-le-zero h)
  walk-closed (suc bound) end block h = ⊎_elim
      (λ (g : Onward bound end block).
      let l : length (walk (suc bound) end block) ≡ suc
      (length (walk bound (other_end end) (block_at m list (other_end end) g.met))) = ap length g.is in
      let s : length (walk bound (other_end end) (block_at m list (other_end end) g.met)) < bound = omega arith in
      subst Closed (sym g.is) (linked g.met g.page s
      (walk-closed bound (other_end end) (block_at m list (other_end end) g.met) s)))
      (λ (g : Over bound end block).
      subst Closed (sym g.is) (λ i e z l. absurd (not-suc-le-zero l)))
      (step bound end block)
    where
      linked : (met : ℕ) → PageAt m list given end block (met_as end) met
          → length (walk bound (other_end end) (block_at m list (other_end end) met)) < bound
          → Closed (walk bound (other_end end) (block_at m list (other_end end) met))
          → Closed (met ∷ walk bound (other_end end) (block_at m list (other_end end) met))
      linked met p s rest zero e z l q =
          let same : other_end end ≡ e =
          ap other_end (met_as-same end (other_end e) (sym p.in-set ∙ q.was)) ∙ other-twice e in
          let r = head-is bound (other_end end) (block_at m list (other_end end) met) z s
          (subst (λ (f : End). PageAt m list given f (block_at m list f met) (met_as f) z) (sym same) q.to) in
          (omega (arith, r.0), r.1)
      linked met p s rest (suc i) e z l q =
          let r = rest i e z (omega arith) q in
          (omega (arith, r.0), r.1)

-- The walk of the rule: it starts at a destination where b is unused.
module _ (m : ℕ) (list given : List ℕ) (C : Coloured m list given) (a b : ℕ) (differ : a ≢ b) (block : ℕ)
    (unused : (k : ℕ) → PageAt m list given destination block b k → ⊥) where
  abbrev pub path : (bound : ℕ) → List ℕ
  path bound = pages_met m list given bound destination block a b

  pub path-head : (bound : ℕ) → 0 < length (path bound) → PageAt m list given destination block a (get_or (path bound) 0 0)
  unfolding met_as other_end
  path-head bound h = walk-head m list given C a b differ bound destination block h

  pub path-chain : (bound : ℕ) → Chain m list given C a b differ (path bound)
  unfolding met_as other_end
  path-chain bound = walk-chain m list given C a b differ bound destination block

  pub path_inside : (bound i : ℕ) → i < length (path bound) → get_or (path bound) i 0 < length given
  path_inside bound zero h = (path-head bound h).inside
  path_inside bound (suc i) h = (path-chain bound i h).1.to.inside

  -- nothing leads to the first page
  pub first-page : (bound : ℕ) (end : End) (x : ℕ) → x < length given → 0 < length (path bound)
      → Leads m list given C a b differ end x (get_or (path bound) 0 0) → ⊥
  unfolding met_as other_end
  first-page bound source x l h q = differ (sym (path-head bound h).in-set ∙ q.to.in-set)
  first-page bound destination x l h q = unused x
      (record { inside = l; in-set = q.was; at_block = sym q.to.at_block ∙ (path-head bound h).at_block })

  apart : (bound i j : ℕ) → i < j → j < length (path bound) → get_or (path bound) i 0 ≡ get_or (path bound) j 0 → ⊥
  apart bound i zero o h e = not-suc-le-zero o
  apart bound zero (suc j) o h e =
      let q = path-chain bound j h in
      first-page bound q.0 (get_or (path bound) j 0) (path_inside bound j (omega arith)) (omega arith)
      (subst (λ (z : ℕ). Leads m list given C a b differ q.0 (get_or (path bound) j 0) z) (sym e) q.1)
  apart bound (suc i) (suc j) o h e =
      let p = path-chain bound i (omega arith) in
      let q = path-chain bound j h in
      apart bound i j (omega arith) (omega arith)
      (leads-same m list given C a b differ p.0 q.0 _ _ (get_or (path bound) (suc j) 0) (path_inside bound i (omega arith))
      (path_inside bound j (omega arith))
      (subst (λ (z : ℕ). Leads m list given C a b differ p.0 (get_or (path bound) i 0) z) e p.1) q.1)

  -- no page is met twice
  pub path-distinct : (bound : ℕ) → Distinct (path bound)
  path-distinct bound i j h l e = ⊎_elim
      (λ (q : i ≡ j). q)
      (λ (q : i ≢ j). ⊎_elim
      (λ (o : i < j). absurd (apart bound i j o l e))
      (λ (o : j < i). absurd (apart bound j i o h (sym e)))
      (ne-lt i j q))
      (eq-cases i j)

  path-short : (bound : ℕ) → length (path bound) ≤ length given
  path-short bound = ⊎_elim
      (λ (q : length given < length (path bound)).
      let t = pigeon (length given) (λ i. get_or (path bound) i 0) (λ i l. path_inside bound i (omega arith)) in
      absurd (apart bound t.one t.two t.order (omega arith) t.same))
      (λ (q : length (path bound) ≤ length given). q)
      (lt-cases (length given) (length (path bound)))

  -- the bound is never what stops the walk
  pub path-bound : (more : ℕ) → path (length given + more) ≡ path (length given)
  path-bound more =
      sym (walk-take m list given (length given) more destination block a b
      ∙ take_all (length given) (path (length given + more)) (path-short (length given + more)))

  enough : path (suc (length given)) ≡ path (length given)
  enough = ap path (sym (add-one (length given))) ∙ path-bound 1

  not_stopped : length (path (suc (length given))) < suc (length given)
  not_stopped = let s = path-short (suc (length given)) in omega arith

  pub path-closed : Closed m list given C a b differ (path (length given))
  unfolding met_as other_end
  path-closed = subst (Closed m list given C a b differ) enough
      (walk-closed m list given C a b differ (suc (length given)) destination block not_stopped)

  -- the walk starts with the page of set a
  pub path-first : (z : ℕ) → PageAt m list given destination block a z → (0 < length (path (length given)))
      × (get_or (path (length given)) 0 0 ≡ z)
  unfolding met_as other_end
  path-first z p =
      subst (λ (xs : List ℕ). (0 < length xs) × (get_or xs 0 0 ≡ z)) enough
      (head-is m list given C a b differ (suc (length given)) destination block z not_stopped p)

  -- every other page has set a
  path-even : (bound i : ℕ) → 2 * i < length (path bound) → set_of given (get_or (path bound) (2 * i) 0) ≡ a
  path-even bound zero h = (path-head bound h).in-set
  path-even bound (suc i) h =
      let e : 2 * suc i ≡ suc (suc (2 * i)) = omega arith in
      let p = path-chain bound (2 * i) (omega arith) in
      let q = path-chain bound (suc (2 * i)) (omega arith) in
      let r = path-even bound i (omega arith) in
      ap (λ (j : ℕ). set_of given (get_or (path bound) j 0)) e ∙ leads-twice m list given C a b differ p.0 q.0 p.1 q.1 ∙ r

  -- The pages of set a come from different blocks, none of them a block where a is unused, so there are at most n - 1 of them.
  pub path-length : (n here : ℕ) → ((x : ℕ) → x < length given → (1 ≤ block_at m list source x) × (block_at m list source x ≤ n))
      → 1 ≤ here → here ≤ n → ((x : ℕ) → PageAt m list given source here a x → ⊥) → (bound : ℕ) → length (path bound) ≤ 2 * n - 2
  path-length n here blocks l u free bound = ⊎_elim
      (λ (q : 2 * n - 2 < length (path bound)). absurd (
      let even : (i : ℕ) → i < n → 2 * i < length (path bound) = λ i h. omega arith in
      let at : ℕ → ℕ = λ i. get_or (path bound) (2 * i) 0 in
      let in_blocks : (i : ℕ) → i < n → (1 ≤ block_at m list source (at i)) × (block_at m list source (at i) ≤ n) =
      λ i h. blocks (at i) (path_inside bound (2 * i) (even i h)) in
      crowded n (λ i. block_at m list source (at i) - 1) (here - 1) (omega arith)
      (λ i h. let r = in_blocks i h in omega arith)
      (λ i j h o e.
      let r = in_blocks i h in
      let s = in_blocks j o in
      let same : block_at m list source (at i) ≡ block_at m list source (at j) = omega arith in
      let t = C.proper source (at i) (at j) (path_inside bound (2 * i) (even i h)) (path_inside bound (2 * j) (even j o)) same
      (path-even bound i (even i h) ∙ sym (path-even bound j (even j o))) in
      let z : 2 * i ≡ 2 * j = path-distinct bound (2 * i) (2 * j) (even i h) (even j o) t in
      omega arith)
      (λ i h e.
      let r = in_blocks i h in
      free (at i) (record {
        inside = path_inside bound (2 * i) (even i h);
        in-set = path-even bound i
            (even i h);
        at_block = omega arith;
      }))))
      (λ (q : length (path bound) ≤ 2 * n - 2). q)
      (lt-cases (2 * n - 2) (length (path bound)))
