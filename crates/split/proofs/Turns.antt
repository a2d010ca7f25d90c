-- The exchange page by page: what holds after i pages of the walk got their other set, and one turn more.
use Rattle.flash.proofs.Kit.{◌≡◌, sym, ap, ◌∙◌, subst, ◌≢◌, ⊎_elim, Bool, true, false, cond, ◌||◌, or-false, or-true, List, [], ◌∷◌, ℕ, suc, ◌≤◌, ◌<◌}
use Rattle.flash.proofs.Kit.{arith, eqb, length, get_or, take, set, length-take, get_or-take, get_or-set_same, get_or-set_other, take-suc, take_all, ext_get_or}
use Rattle.flash.proofs.Kit.{eqb-true, eq-eqb, ne_eqb}
use Rattle.flash.specs.Lists.{any}
use Rattle.split.specs.Split.{set_of}
use Rattle.split.specs.Rule.{End, source, destination, other_end, swapped, block_at, exchange}
use Rattle.flash.proofs.Bools.{fails}
use Rattle.flash.proofs.Comparisons.{lt-cases, eq-cases}
use Rattle.flash.proofs.Searches.{any_append, any-find}
use Rattle.split.proofs.Walk.{Coloured, PageAt, met_as, met_as-same, met_as-two, other-twice, path, path-head, path-chain, path_inside, path-closed, path-first, path-distinct}
use Rattle.split.proofs.Exchange.{exchange-length, exchange-at, swapped-met, in-at, two}

-- r is a page of the set at the block, among the first k; or k, where there is none
pub record Found (m : ℕ) (list sets : List ℕ) (k : ℕ) (end : End) (block set r : ℕ) : Type 0 where
  pub within : r ≤ k
  pub hit : r < k → (block_at m list end r ≡ block) × (set_of sets r ≡ set)
  pub none : r ≡ k → (x : ℕ) → x < k → block_at m list end x ≡ block → set_of sets x ≢ set

module _ (m : ℕ) (list given : List ℕ) (C : Coloured m list given) (a b : ℕ) (differ : a ≢ b) (block : ℕ)
    (unused : (k : ℕ) → PageAt m list given destination block b k → ⊥) where
  abbrev met : List ℕ
  met = path m list given C a b differ block unused (length given)

  abbrev at : End → ℕ
  at = met_as m list given C a b differ

  -- the set of x once the first i pages met are exchanged
  abbrev set_after : (i x : ℕ) → ℕ
  set_after i x = cond (any (eqb x) (take i met)) (swapped a b (set_of given x)) (set_of given x)

  pub record Turn (i : ℕ) (sets : List ℕ) (end : End) (page : ℕ) : Type 0 where
    pub within : i ≤ length met
    pub next : i < length met → (page ≡ get_or met i 0) × (set_of given page ≡ at end)
    pub last : i ≡ length met → page ≡ length given
    pub sets-are : (x : ℕ) → x < length given → set_of sets x ≡ set_after i x

  in-front : (i x : ℕ) → any (eqb x) (take i met) ≡ true → (j : ℕ) × (j < i) × (j < length met) × (get_or met j 0 ≡ x)
  in-front i x e =
      let r = any-find (eqb x) (take i met) 0 e in
      let l = length-take i met in
      let h = r.1 in
      let j : r.0 < i = omega arith in
      (r.0, j, omega arith, sym (get_or-take i met r.0 0 j) ∙ sym (eqb-true x (get_or (take i met) r.0 0) r.2))

  sets-front : (i x : ℕ) (sets : List ℕ) → set_of sets x ≡ set_after i x → any (eqb x) (take i met) ≡ true
      → set_of sets x ≡ swapped a b (set_of given x)
  sets-front i x sets q e = rw e at q

  sets_behind : (i x : ℕ) (sets : List ℕ) → set_of sets x ≡ set_after i x → any (eqb x) (take i met) ≡ false
      → set_of sets x ≡ set_of given x
  sets_behind i x sets q e = rw e at q

  pub first-turn : (sets : List ℕ) (page : ℕ) → ((x : ℕ) → x < length given → set_of sets x ≡ set_of given x)
      → Found m list sets (length given) destination block a page → Turn 0 sets destination page
  unfolding met_as any
  first-turn sets page same f = record {
    within = omega arith;
    next = λ h. start h;
    last = λ e. ⊎_elim
        (λ (l : page < length given). let r = path-first m list given C a b differ block unused page (is-page l) in absurd
        (omega (arith, r.0)))
        (λ (l : length given ≤ page). let w = f.within in omega arith)
        (lt-cases page (length given));
    sets-are = same;
  }
    where
      is-page : page < length given → PageAt m list given destination block a page
      is-page l = let h = f.hit l in record { inside = l; in-set = sym (same page l) ∙ h.1; at_block = h.0 }

      start : 0 < length met → (page ≡ get_or met 0 0) × (set_of given page ≡ a)
      start h = ⊎_elim
          (λ (l : page < length given).
          let p = is-page l in
          (sym (path-first m list given C a b differ block unused page p).1, p.in-set))
          (λ (l : length given ≤ page).
          let p = path-head m list given C a b differ block unused (length given) h in
          let w = f.within in
          absurd (f.none (omega arith) (get_or met 0 0) p.inside p.at_block (same (get_or met 0 0) p.inside ∙ p.in-set)))
          (lt-cases page (length given))

  at-differ : (end : End) → at end ≢ at (other_end end)
  unfolding met_as other_end
  at-differ source q = differ (sym q)
  at-differ destination q = differ q

  module _ (i : ℕ) (sets : List ℕ) (end : End) (page : ℕ) (T : Turn i sets end page) (more : page < length given) where
    -- the page is a page of the walk
    pub on-path : i < length met
    on-path = ⊎_elim
        (λ (h : i < length met). h)
        (λ (h : length met ≤ i). let w = T.within in let e = T.last (omega arith) in absurd (omega arith))
        (lt-cases i (length met))

    page-is : page ≡ get_or met i 0
    page-is = (T.next on-path).0

    pub page-as : set_of given page ≡ at end
    page-as = (T.next on-path).1

    -- the page still has its set
    pub page-now : set_of sets page ≡ at end
    page-now =
        let new : any (eqb page) (take i met) ≡ false = fails (λ e.
        let f = in-front i page e in
        let o = f.1 in
        let j : f.0 ≡ i = path-distinct m list given C a b differ block unused (length given) f.0 i f.2 on-path
        (f.3 ∙ page-is) in
        omega arith) in
        sets_behind i page sets (T.sets-are page more) new ∙ page-as

    -- a page exchanged already is none to go on with
    not-front : (x : ℕ) → x < length given → block_at m list (other_end end) x ≡ block_at m list (other_end end) page
        → set_of sets x ≡ at (other_end end)
        → any (eqb x) (take i met) ≡ false
    not-front x h v c = fails (λ e.
        let f = in-front i x e in
        let o = f.1 in
        let s : swapped a b (set_of given x) ≡ at (other_end end) = sym (sets-front i x sets (T.sets-are x h) e) ∙ c in
        ⊎_elim
        (λ (q : set_of given x ≡ at end).
        let same = C.proper (other_end end) x page h more v (q ∙ sym page-as) in
        let j : f.0 ≡ i = path-distinct m list given C a b differ block unused (length given) f.0 i f.2 on-path
        (f.3 ∙ same ∙ page-is) in
        omega arith)
        (λ (q : set_of given x ≡ at (other_end end)).
        at-differ end (ap at (sym (other-twice end)) ∙ sym (swapped-met m list given C a b differ block unused x (other_end end) q) ∙ s))
        (met_as-two m list given C a b differ (set_of given x) end
        (two m list given C a b differ block unused x
        (subst (λ (y : ℕ). any (eqb y) met ≡ true) f.3 (in-at m list given C a b differ block unused f.0 f.2)))))

    module _ (after : ℕ) (f : Found m list sets (length given) (other_end end) (block_at m list (other_end end) page)
        (at (other_end end)) after) where
      -- the page found is the next page of the walk
      goes : after < length given → (suc i < length met) × (get_or met (suc i) 0 ≡ after) × (set_of given after ≡ at (other_end end))
      goes l =
          let h = f.hit l in
          let s = sym (sets_behind i after sets (T.sets-are after l) (not-front after l h.0 h.1)) ∙ h.1 in
          let r = path-closed m list given C a b differ block unused i (other_end end) after on-path (record {
            was = ap (set_of given) (sym page-is) ∙ page-as ∙ ap at (sym (other-twice end));
            to = record { inside = l; in-set = s; at_block = h.0 ∙ ap (block_at m list (other_end end)) page-is };
          }) in
          (r.0, r.1, s)

      ends : length given ≤ after → suc i < length met → ⊥
      ends l h =
          let w = f.within in
          let p = path-chain m list given C a b differ block unused (length given) i h in
          let q = p.1 in
          let z = get_or met (suc i) 0 in
          let same : p.0 ≡ other_end end =
          sym (other-twice p.0) ∙ ap other_end (met_as-same m list given C a b differ (other_end p.0) end
          (sym q.was ∙ ap (set_of given) (sym page-is) ∙ page-as)) in
          let inside : z < length given = q.to.inside in
          let new : any (eqb z) (take i met) ≡ false = fails (λ e.
          let g = in-front i z e in
          let o = g.1 in
          let j : g.0 ≡ suc i = path-distinct m list given C a b differ block unused (length given) g.0 (suc i) g.2 h g.3 in
          omega arith) in
          f.none (omega arith) z inside
          (ap (λ (e : End). block_at m list e z) (sym same) ∙ q.to.at_block
          ∙ ap (λ (e : End). block_at m list e (get_or met i 0)) same ∙ ap (block_at m list (other_end end)) (sym page-is))
          (sets_behind i z sets (T.sets-are z inside) new ∙ q.to.in-set ∙ ap at same)

      pub next-turn : length given ≤ length sets → Turn (suc i) (set sets page (at (other_end end))) (other_end end) after
      unfolding set_of any
      next-turn room = record {
        within = on-path;
        next = λ h. ⊎_elim
            (λ (l : after < length given). (let g = goes l in (sym g.1, g.2)))
            (λ (l : length given ≤ after). absurd (ends l h))
            (lt-cases after (length given));
        last = λ e. ⊎_elim
            (λ (l : after < length given). let g = (goes l).0 in absurd (omega arith))
            (λ (l : length given ≤ after). let w = f.within in omega arith)
            (lt-cases after (length given));
        sets-are = λ x h. ⊎_elim
            (λ (q : x ≡ page). exchanged x q)
            (λ (q : x ≢ page). kept x h q)
            (eq-cases x page);
      }
        where
          front : (x : ℕ) → any (eqb x) (take (suc i) met) ≡ (any (eqb x) (take i met) || any (eqb x) (get_or met i 0 ∷ []))
          front x = ap (any (eqb x)) (take-suc met i 0 on-path) ∙ any_append (eqb x) (take i met) (get_or met i 0 ∷ [])

          exchanged : (x : ℕ) → x ≡ page → get_or (set sets page (at (other_end end))) x 0 ≡ set_after (suc i) x
          exchanged x q =
              let t : any (eqb x) (take (suc i) met) ≡ true =
              front x ∙ ap (λ (c : Bool). any (eqb x) (take i met) || (c || false)) (eq-eqb x (get_or met i 0) (q ∙ page-is))
              ∙ or-true (any (eqb x) (take i met)) in
              let g : set_after (suc i) x ≡ swapped a b (get_or given x 0) = rw t in
              ap (λ (y : ℕ). get_or (set sets page (at (other_end end))) y 0) q
              ∙ get_or-set_same sets page (at (other_end end)) 0 (omega arith)
              ∙ sym (swapped-met m list given C a b differ block unused page end page-as)
              ∙ ap (λ (y : ℕ). swapped a b (get_or given y 0)) (sym q) ∙ sym g

          kept : (x : ℕ) → x < length given → x ≢ page → get_or (set sets page (at (other_end end))) x 0 ≡ set_after (suc i) x
          kept x h q =
              let t : any (eqb x) (take (suc i) met) ≡ any (eqb x) (take i met) =
              front x ∙ ap (λ (c : Bool). any (eqb x) (take i met) || (c || false))
              (ne_eqb x (get_or met i 0) (λ e. q (e ∙ sym page-is))) ∙ or-false (any (eqb x) (take i met)) in
              get_or-set_other sets page x (at (other_end end)) 0 q ∙ T.sets-are x h
              ∙ ap (λ (c : Bool). cond c (swapped a b (get_or given x 0)) (get_or given x 0)) (sym t)

  -- the walk is over
  pub turns-done : (i : ℕ) (sets : List ℕ) (end : End) (page : ℕ) → Turn i sets end page → length given ≤ page
      → length given ≤ length sets
      → take (length given) sets ≡ exchange m list given a b met
  unfolding set_of
  turns-done i sets end page T over room =
      let w = T.within in
      let done : i ≡ length met = ⊎_elim
      (λ (l : i < length met).
      let p = (T.next l).0 in
      let h = path_inside m list given C a b differ block unused (length given) i l in
      absurd (omega arith))
      (λ (l : length met ≤ i). omega arith)
      (lt-cases i (length met)) in
      let whole : take i met ≡ met = take_all i met (omega arith) in
      let len : length (take (length given) sets) ≡ length given = length-take (length given) sets ∙ omega arith in
      ext_get_or 0 (take (length given) sets) (exchange m list given a b met) (len ∙ sym (exchange-length m list given a b met)) (λ x h.
      let l : x < length given = omega arith in
      get_or-take (length given) sets x 0 l ∙ T.sets-are x l
      ∙ ap (λ (xs : List ℕ). cond (any (eqb x) xs) (swapped a b (set_of given x)) (set_of given x)) whole
      ∙ sym (exchange-at m list given a b met x l))
