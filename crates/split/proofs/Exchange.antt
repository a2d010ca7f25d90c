-- The exchange of two sets along the walk keeps the colouring proper, and frees set a at both ends of the next page.
use Rattle.flash.proofs.Kit.{◌≡◌, refl, sym, ap, ◌∙◌, subst, ◌⊎◌, inl, inr, ◌≢◌, ⊎_elim, true, false, cond, List, map, ℕ, zero, suc, ◌+◌, ◌<◌}
use Rattle.flash.proofs.Kit.{not-suc-le-zero, zero-add, arith, eqb, length, get_or, length-map, eqb-true, eq-eqb, ne_eqb}
use Rattle.flash.specs.Lists.{range, any}
use Rattle.split.specs.Split.{set_of}
use Rattle.split.specs.Rule.{End, source, destination, other_end, swapped, block_at, exchange}
use Rattle.flash.proofs.Bools.{bool_cases, never_both}
use Rattle.flash.proofs.Searches.{any_of, any-find}
use Rattle.flash.proofs.Ranges.{length-range}
use Rattle.split.proofs.SplitLaws.{Proper}
use Rattle.split.proofs.Walk.{Coloured, PageAt, met_as, met_as-two, Leads, leads-same, other-twice, path, path-head, path-chain, path_inside, path-closed, path-first, first-page}

pub map-range-at : (f : ℕ → ℕ) (start n i d : ℕ) → i < n → get_or (map f (range start n)) i d ≡ f (start + i)
unfolding range
map-range-at f start zero i d h = absurd (not-suc-le-zero h)
map-range-at f start (suc n) zero d h = ap f (omega arith)
map-range-at f start (suc n) (suc i) d h = map-range-at f (suc start) n i d (omega arith) ∙ ap f (omega arith)

pub swapped-a : (a b : ℕ) → swapped a b a ≡ b
unfolding swapped
swapped-a a b = rw (eq-eqb a a refl)

pub swapped-b : (a b : ℕ) → a ≢ b → swapped a b b ≡ a
unfolding swapped
swapped-b a b differ = rw (ne_eqb b a (λ e. differ (sym e)), eq-eqb b b refl)

module _ (m : ℕ) (list given : List ℕ) (a b : ℕ) (met : List ℕ) where
  pub exchange-length : length (exchange m list given a b met) ≡ length given
  unfolding exchange
  exchange-length = length-map (range 0 (length given)) _ ∙ length-range 0 (length given)

  pub exchange-at : (x : ℕ) → x < length given
      → set_of (exchange m list given a b met) x ≡ cond (any (eqb x) met) (swapped a b (set_of given x)) (set_of given x)
  unfolding exchange set_of
  exchange-at x h =
      map-range-at (λ k. cond (any (eqb k) met) (swapped a b (get_or given k 0)) (get_or given k 0)) 0 (length given) x 0 h
      ∙ ap (λ (k : ℕ). cond (any (eqb k) met) (swapped a b (get_or given k 0)) (get_or given k 0)) (zero-add x)

  pub exchange-in : (x : ℕ) → x < length given → any (eqb x) met ≡ true
      → set_of (exchange m list given a b met) x ≡ swapped a b (set_of given x)
  exchange-in x h e = rw e at (exchange-at x h)

  pub exchange-out : (x : ℕ) → x < length given → any (eqb x) met ≡ false → set_of (exchange m list given a b met) x ≡ set_of given x
  exchange-out x h e = rw e at (exchange-at x h)

module _ (m : ℕ) (list given : List ℕ) (C : Coloured m list given) (a b : ℕ) (differ : a ≢ b) (block : ℕ)
    (unused : (k : ℕ) → PageAt m list given destination block b k → ⊥) where
  abbrev met : List ℕ
  met = path m list given C a b differ block unused (length given)

  abbrev after : List ℕ
  after = exchange m list given a b met

  abbrev In : ℕ → Type 0
  In x = any (eqb x) met ≡ true

  pub in-at : (i : ℕ) → i < length met → In (get_or met i 0)
  in-at i h = any_of (eqb (get_or met i 0)) met i 0 h (eq-eqb (get_or met i 0) (get_or met i 0) refl)

  -- where the page stands in the walk
  pub place : (x : ℕ) → In x → (i : ℕ) × (i < length met) × (get_or met i 0 ≡ x)
  place x e = let r = any-find (eqb x) met 0 e in (r.0, r.1, sym (eqb-true x (get_or met r.0 0) r.2))

  -- a page met is the first one, or another page met leads to it
  record Led (z : ℕ) : Type 0 where
    by : ℕ
    by-lt : by < length given
    by_in : In by
    end : End
    leads : Leads m list given C a b differ end by z

  led : (z : ℕ) → In z → ((0 < length met) × (get_or met 0 0 ≡ z)) ⊎ Led z
  led z e = go (place z e)
    where
      go : (i : ℕ) × (i < length met) × (get_or met i 0 ≡ z) → ((0 < length met) × (get_or met 0 0 ≡ z)) ⊎ Led z
      go (zero, h, q) = inl (h, q)
      go (suc i, h, q) =
          let p = path-chain m list given C a b differ block unused (length given) i h in
          inr (record {
            by = get_or met i 0;
            by-lt = path_inside m list given C a b differ block unused (length given) i (omega arith);
            by_in = in-at i (omega arith);
            end = p.0;
            leads = subst (λ (z : ℕ). Leads m list given C a b differ p.0 (get_or met i 0) z) q p.1;
          })

  first-is : 0 < length met → PageAt m list given destination block a (get_or met 0 0)
  first-is h = path-head m list given C a b differ block unused (length given) h

  -- the pages met have one of the two sets
  pub two : (x : ℕ) → In x → (set_of given x ≡ a) ⊎ (set_of given x ≡ b)
  unfolding met_as
  two x e = ⊎_elim
      (λ (q : (0 < length met) × (get_or met 0 0 ≡ x)). inl (ap (set_of given) (sym q.1) ∙ (first-is q.0).in-set))
      (λ (q : Led x). one_of q.end q.leads.to.in-set)
      (led x e)
    where
      one_of : (end : End) → set_of given x ≡ met_as m list given C a b differ end → (set_of given x ≡ a) ⊎ (set_of given x ≡ b)
      one_of source q = inr q
      one_of destination q = inl q

  pub swapped-met : (x : ℕ) (end : End) → set_of given x ≡ met_as m list given C a b differ end
      → swapped a b (set_of given x) ≡ met_as m list given C a b differ (other_end end)
  unfolding met_as other_end
  swapped-met x source q = ap (swapped a b) q ∙ swapped-b a b differ
  swapped-met x destination q = ap (swapped a b) q ∙ swapped-a a b

  -- swapping twice
  swapped-twice : (x : ℕ) → In x → swapped a b (swapped a b (set_of given x)) ≡ set_of given x
  swapped-twice x e = ⊎_elim
      (λ (r : set_of given x ≡ a). ap (λ (s : ℕ). swapped a b (swapped a b s)) r ∙ ap (swapped a b) (swapped-a a b)
      ∙ swapped-b a b differ ∙ sym r)
      (λ (r : set_of given x ≡ b). ap (λ (s : ℕ). swapped a b (swapped a b s)) r ∙ ap (swapped a b) (swapped-b a b differ)
      ∙ swapped-a a b ∙ sym r)
      (two x e)

  -- what a page met leads to is met, and so is what leads to it
  next-in : (x z : ℕ) (end : End) → In x → Leads m list given C a b differ end x z → In z
  next-in x z end e q =
      let r = place x e in
      let s = path-closed m list given C a b differ block unused r.0 end z r.1
      (subst (λ (y : ℕ). Leads m list given C a b differ end y z) (sym r.2) q) in
      subst In s.1 (in-at (suc r.0) s.0)

  previous-in : (x z : ℕ) (end : End) → x < length given → In z → Leads m list given C a b differ end x z → In x
  previous-in x z end h e q = ⊎_elim
      (λ (r : (0 < length met) × (get_or met 0 0 ≡ z)).
      absurd (first-page m list given C a b differ block unused (length given) end x h r.0
      (subst (λ (y : ℕ). Leads m list given C a b differ end x y) (sym r.1) q)))
      (λ (r : Led z). subst In (leads-same m list given C a b differ r.end end r.by x z r.by-lt h r.leads q) r.by_in)
      (led z e)

  -- a page that shares a block with a page met, and has its other set, is met
  neighbour-in : (end : End) (x y : ℕ) → x < length given → y < length given → In x → block_at m list end x ≡ block_at m list end y
      → set_of given y ≡ swapped a b (set_of given x) → In y
  neighbour-in end x y h l e v c = ⊎_elim
      (λ (r : set_of given x ≡ met_as m list given C a b differ end). previous-in y x end l e (record {
        was = c ∙ swapped-met x end r;
        to = record { inside = h; in-set = r; at_block = v };
      }))
      (λ (r : set_of given x ≡ met_as m list given C a b differ (other_end end)). next-in x y end e (record {
        was = r;
        to = record {
          inside = l;
          in-set = c ∙ swapped-met x (other_end end) r ∙ ap (met_as m list given C a b differ) (other-twice end);
          at_block = sym v;
        };
      }))
      (met_as-two m list given C a b differ (set_of given x) end (two x e))

  after-proper : (end : End) → Proper (length given) after (block_at m list end)
  after-proper end x y h l v c = go (bool_cases (any (eqb x) met)) (bool_cases (any (eqb y) met))
    where
      go : (any (eqb x) met ≡ true) ⊎ (any (eqb x) met ≡ false) → (any (eqb y) met ≡ true) ⊎ (any (eqb y) met ≡ false) → x ≡ y
      go (inl e) (inl f) = C.proper end x y h l v
          (sym (swapped-twice x e) ∙ ap (swapped a b) (sym (exchange-in m list given a b met x h e) ∙ c
          ∙ exchange-in m list given a b met y l f) ∙ swapped-twice y f)
      go (inr e) (inr f) = C.proper end x y h l v
          (sym (exchange-out m list given a b met x h e) ∙ c ∙ exchange-out m list given a b met y l f)
      go (inl e) (inr f) =
          absurd (never_both (neighbour-in end x y h l e v
          (sym (exchange-out m list given a b met y l f) ∙ sym c ∙ exchange-in m list given a b met x h e)) f)
      go (inr e) (inl f) =
          absurd (never_both (neighbour-in end y x l h f (sym v)
          (sym (exchange-out m list given a b met x h e) ∙ c ∙ exchange-in m list given a b met y l f)) e)

  pub after-coloured : a < m → b < m → Coloured m list after
  after-coloured la lb = record {
    small = λ x h. small x (rw (exchange-length m list given a b met) at h) (bool_cases (any (eqb x) met));
    proper = λ end. rw (exchange-length m list given a b met) (after-proper end);
  }
    where
      small : (x : ℕ) → x < length given → (any (eqb x) met ≡ true) ⊎ (any (eqb x) met ≡ false) → set_of after x < m
      small x h (inl e) = rw (exchange-in m list given a b met x h e) (⊎_elim
          (λ (r : set_of given x ≡ a). rw (r, swapped-a a b) lb)
          (λ (r : set_of given x ≡ b). rw (r, swapped-b a b differ) la)
          (two x e))
      small x h (inr e) = rw (exchange-out m list given a b met x h e) (C.small x h)

  -- a page met that has set a now had set b
  had-b : (x : ℕ) → x < length given → In x → set_of after x ≡ a → set_of given x ≡ b
  had-b x h e c = ⊎_elim
      (λ (r : set_of given x ≡ a). absurd (differ (sym c ∙ exchange-in m list given a b met x h e ∙ ap (swapped a b) r ∙ swapped-a a b)))
      (λ (r : set_of given x ≡ b). r)
      (two x e)

  -- a is unused now at the destination where the walk started
  pub free-destination : (first : ℕ) → PageAt m list given destination block a first
      → (x : ℕ) → x < length given → block_at m list destination x ≡ block → set_of after x ≢ a
  free-destination first p x h v c = ⊎_elim
      (λ (e : any (eqb x) met ≡ true). unused x (record { inside = h; in-set = had-b x h e c; at_block = v }))
      (λ (e : any (eqb x) met ≡ false).
      let s = C.proper destination first x p.inside h (p.at_block ∙ sym v)
      (p.in-set ∙ sym (sym (exchange-out m list given a b met x h e) ∙ c)) in
      let f = path-first m list given C a b differ block unused first p in
      never_both (subst In (f.1 ∙ s) (in-at 0 f.0)) e)
      (bool_cases (any (eqb x) met))

  -- a stays unused at a source where it was: the walk comes to a source by a page of set a
  pub free_source : (here : ℕ) → ((x : ℕ) → PageAt m list given source here a x → ⊥)
      → (x : ℕ) → x < length given → block_at m list source x ≡ here → set_of after x ≢ a
  unfolding met_as other_end
  free_source here free x h v c = ⊎_elim
      (λ (e : any (eqb x) met ≡ true).
      let r = had-b x h e c in
      ⊎_elim
      (λ (q : (0 < length met) × (get_or met 0 0 ≡ x)). differ (sym (first-is q.0).in-set ∙ ap (set_of given) q.1 ∙ r))
      (λ (q : Led x). from q.by q.by-lt q.end q.leads r)
      (led x e))
      (λ (e : any (eqb x) met ≡ false). free x (record {
        inside = h;
        in-set = sym (exchange-out m list given a b met x h e)
            ∙ c;
        at_block = v;
      }))
      (bool_cases (any (eqb x) met))
    where
      from : (y : ℕ) → y < length given → (end : End) → Leads m list given C a b differ end y x → set_of given x ≡ b → ⊥
      from y l source q r = free y (record { inside = l; in-set = q.was; at_block = sym q.to.at_block ∙ v })
      from y l destination q r = differ (sym q.to.in-set ∙ r)
