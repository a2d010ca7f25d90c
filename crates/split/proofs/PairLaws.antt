-- The pairing of dropped pages with marked places, page by page.
use Rattle.flash.proofs.Kit.{◌≡◌, refl, sym, ap, ap₂, ◌∙◌, ◌≢◌, ⊎_elim, Bool, true, false, ◌&&◌, ◌||◌, and-false, or-false, or-true, not, List, ◌∷◌}
use Rattle.flash.proofs.Kit.{◌++◌, ℕ, suc, ◌+◌, ◌-◌, ◌≤◌, ◌<◌, add-one, arith, eqb, ltb, length, get_or, set, take, drop, take-suc, take-length}
use Rattle.flash.proofs.Kit.{drop-cons, drop-length, append-nil, append_snoc, eq-eqb, ne_eqb, lt-ltb, le-ltb}
use Rattle.flash.specs.Lists.{range, any, count, filter, first}
use Rattle.split.specs.OneToOne.{kept_entries, bad_list}
use Rattle.split.specs.Drops.{is_dropped, free_places, paired, completed}
use Rattle.split.specs.inner.Mask.{is_marked}
use Rattle.flash.proofs.Comparisons.{eq-cases, lt-cases}
use Rattle.flash.proofs.Loops.{front_at, front-more}
use Rattle.flash.proofs.Filters.{filter-next, filter_same}
use Rattle.split.proofs.DropLaws.{drops, free-count, completed-length, completed-kept, kept-beyond}

-- the marked places from one on, below the number of pages
abbrev marks_from : (places : List ℕ) → (pages place : ℕ) → List ℕ
marks_from places pages place = filter (is_marked places) (range place (pages - place))

-- The first k pages have their places, the dropped ones the marked places before `place`, and are told; those from there on are left for the rest.
pub record Pairing (lent list pages places : List ℕ) (place k : ℕ) : Type 0 where
  pub within : k ≤ length lent
  pub low : place ≤ length lent
  pub list-is : list ≡ take k (completed lent) ++ drop k lent
  pub rest : drop k (completed lent) ≡ paired (drop k lent) (marks_from places (length lent) place)
  pub enough : drops (drop k lent) ≤ length (marks_from places (length lent) place)
  pub told : (x : ℕ) → is_marked pages x ≡ (ltb x k && is_dropped lent x)

pub no-pair : (lent pages places : List ℕ) → length lent ≤ 4096 → bad_list (length lent) lent ≡ false → ((x : ℕ) → is_marked pages x ≡ false)
    → ((x : ℕ) → x < 4096 → is_marked places x ≡ not (any (eqb x) (kept_entries lent))) → Pairing lent lent pages places 0 0
unfolding completed free_places
no-pair lent pages places few good none marks = record {
  within = omega arith;
  low = omega arith;
  list-is = refl;
  rest = ap (paired lent) free-is;
  enough = omega (arith, ap length free-is, free-count lent good);
  told = λ x. none x ∙ rw (le-ltb x 0 (omega arith));
}
  where
    same : filter (is_marked places) (range 0 (length lent)) ≡ free_places lent
    same = filter_same (is_marked places) (λ x. not (any (eqb x) (kept_entries lent))) 0 (length lent) (λ x l h. marks x (omega arith))

    free-is : free_places lent ≡ marks_from places (length lent) 0
    free-is = let whole : length lent ≡ length lent - 0 = omega arith in sym same ∙ ap (λ (n : ℕ). filter (is_marked places) (range 0 n)) whole

module _ (lent list pages places : List ℕ) (place k : ℕ) (P : Pairing lent list pages places place k) where
  abbrev new : List ℕ
  new = completed lent

  pub all-paired : length lent ≤ k → (list ≡ completed lent) × ((x : ℕ) → is_marked pages x ≡ is_dropped lent x)
  all-paired h =
      let end : k ≡ length lent = omega (arith, P.within) in
      let whole : take (length new) new ≡ new = take-length new in (
        P.list-is ∙ rw (end, drop-length, append-nil, ← completed-length lent) whole,
        λ x. P.told x ∙ ⊎_elim
            (λ (l : x < k). rw (lt-ltb x k l))
            (λ (l : k ≤ x). rw (le-ltb x k l) (sym (kept-beyond lent x (omega arith))))
            (lt-cases x k),
      )

  module _ (more : k < length lent) where
    pub entry-is : get_or list k 0 ≡ get_or lent k 0
    entry-is = ap (λ (l : List ℕ). get_or l k 0) P.list-is ∙ front_at new lent k (completed-length lent) more

    lent-rest : drop k lent ≡ get_or lent k 0 ∷ drop (k + 1) lent
    lent-rest = rw (add-one k) (drop-cons lent k 0 more)

    new-rest : drop k new ≡ get_or new k 0 ∷ drop (k + 1) new
    new-rest = rw (add-one k) (drop-cons new k 0 (omega (arith, completed-length lent)))

    -- the bits of the first k pages and of one page more
    told-other : (x : ℕ) → x ≢ k → ltb x k ≡ ltb x (k + 1)
    told-other x ne = ⊎_elim
        (λ (l : x < k). lt-ltb x k l ∙ sym (lt-ltb x (k + 1) (omega arith)))
        (λ (l : k ≤ x). le-ltb x k l ∙ sym (le-ltb x (k + 1) (omega arith)))
        (lt-cases x k)

    -- a kept page
    pub pair-kept : is_dropped lent k ≡ false → Pairing lent list pages places place (k + 1)
    unfolding is_dropped paired count
    pair-kept d = record {
      within = omega arith;
      low = P.low;
      list-is = P.list-is ∙ rw (lent-rest, add-one k, take-suc new k 0 inside, append_snoc, completed-kept lent k d);
      rest = sym (ap (drop 1) new-rest) ∙ ap (drop 1) P.rest ∙ rw (lent-rest, d);
      enough = rw (lent-rest, d) at P.enough;
      told = λ x. P.told x ∙ ⊎_elim
          (λ (q : x ≡ k). rw (q, d, and-false, and-false))
          (λ (q : x ≢ k). ap (λ (t : Bool). t && is_dropped lent x) (told-other x q))
          (eq-cases x k);
    }
      where
        inside : k < length new
        inside = omega (arith, completed-length lent)

    -- a dropped page, which gets the next marked place
    module _ (few : length lent ≤ 4096) (d : is_dropped lent k ≡ true) where
      abbrev next : ℕ
      next = first (is_marked places) (range place (4096 - place)) 4096

      more-drops : drops (drop k lent) ≡ suc (drops (drop (k + 1) lent))
      unfolding is_dropped count
      more-drops = rw (lent-rest, d)

      next-is : (place ≤ next) × (next < place + (length lent - place)) × (marks_from places (length lent) place
          ≡ next ∷ filter (is_marked places) (range (suc next) ((place + (length lent - place)) - suc next)))
      next-is = filter-next (is_marked places) place (length lent - place) (4096 - place) 4096 (omega arith) (omega (arith, P.enough, more-drops))

      pub next-lt : next < length lent
      next-lt = omega (arith, next-is.1, P.low)

      free-is : marks_from places (length lent) place ≡ next ∷ marks_from places (length lent) (next + 1)
      free-is =
          let size : (place + (length lent - place)) - suc next ≡ length lent - suc next = omega (arith, P.low) in
          next-is.2 ∙ rw (size, add-one next)

      new_is : get_or new k 0 ∷ drop (k + 1) new ≡ next ∷ paired (drop (k + 1) lent) (marks_from places (length lent) (next + 1))
      unfolding is_dropped paired
      new_is = sym new-rest ∙ P.rest ∙ rw (lent-rest, free-is, d)

      pub pair-dropped : (pages' : List ℕ) → ((x : ℕ) → is_marked pages' x ≡ (is_marked pages x || eqb x k))
          → Pairing lent (set list k next) pages' places (next + 1) (k + 1)
      pair-dropped pages' marked = record {
        within = omega arith;
        low = omega (arith, next-lt);
        list-is = ap₂ (λ (l : List ℕ) (x : ℕ). set l k x) P.list-is (sym (ap (λ (l : List ℕ). get_or l 0 0) new_is))
            ∙ front-more new lent k (completed-length lent) more;
        rest = ap (drop 1) new_is;
        enough = omega (arith, P.enough, more-drops, ap length free-is);
        told = λ x. marked x ∙ ⊎_elim
            (λ (q : x ≡ k). rw (q, d, eq-eqb k k refl, lt-ltb k (k + 1) (omega arith), or-true))
            (λ (q : x ≢ k). rw (ne_eqb x k q, or-false) (P.told x ∙ ap (λ (t : Bool). t && is_dropped lent x) (told-other x q)))
            (eq-cases x k);
      }
