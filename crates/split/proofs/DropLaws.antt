-- What is said of a lent list that is not refused as 3, and of the list that completes it: as many places are free as pages are dropped.
use Rattle.flash.proofs.Kit.{◌≡◌, refl, sym, ap, ◌∙◌, ◌≢◌, ⊎_elim, Bool, true, false, ◌&&◌, ◌||◌, not, List, [], ◌∷◌, ℕ, zero, suc}
use Rattle.flash.proofs.Kit.{◌≤◌, ◌<◌, not-suc-le-zero, one-add, arith, eqb, leb, length, get_or, List·getD-eq-default, take, drop, take-length, get_or-drop}
use Rattle.flash.proofs.Kit.{eqb-true, eqb-false, eq-eqb, ne_eqb, leb-false, lt-leb, not-true, not-false}
use Rattle.flash.specs.Lists.{range, any, count, filter}
use Rattle.split.specs.OneToOne.{met_twice, is_one_to_one, dropped, kept_entries, bad_list}
use Rattle.split.specs.Drops.{is_dropped, free_places, paired, completed}
use Rattle.flash.proofs.Bools.{bool_cases, never_both, or-false-left, or-false-right}
use Rattle.flash.proofs.Comparisons.{eq-cases, ne-lt}
use Rattle.flash.proofs.Searches.{all_of, none-at, none_of, any_of, count_none}
use Rattle.flash.proofs.Ranges.{length-range, one-counted}
use Rattle.flash.proofs.Filters.{length-filter, filter_passes, filter-all, any-filter, count-not, count-or, filter-in, filter-ascends}
use Rattle.split.proofs.OneToOneLaws.{Distinct, one-to-one-of, entry_lt}

-- ---- the entries that are kept
abbrev is_kept : (entry : ℕ) → Bool
is_kept entry = not (eqb entry dropped)

pub is-kept : (list : List ℕ) (k : ℕ) → get_or list k 0 ≢ dropped → is_dropped list k ≡ false
unfolding is_dropped
is-kept list k ne = ne_eqb (get_or list k 0) dropped ne

pub is-dropped : (list : List ℕ) (k : ℕ) → get_or list k 0 ≡ dropped → is_dropped list k ≡ true
unfolding is_dropped
is-dropped list k e = eq-eqb (get_or list k 0) dropped e

pub kept-beyond : (list : List ℕ) (k : ℕ) → length list ≤ k → is_dropped list k ≡ false
unfolding is_dropped
kept-beyond list k h = ap (λ (x : ℕ). eqb x dropped) (List·getD-eq-default list 0 h)

-- each names a page, and no two the same
pub record Kept (originals : ℕ) (list : List ℕ) : Type 0 where
  pub below : (k : ℕ) → k < length list → is_dropped list k ≡ false → get_or list k 0 < originals
  pub distinct : (i j : ℕ) → i < length list → j < length list → is_dropped list i ≡ false → get_or list i 0 ≡ get_or list j 0 → i ≡ j

-- a number is a kept entry
abbrev keeps : (x : ℕ) → List ℕ → Bool
keeps x list = any (λ entry. is_kept entry && eqb x entry) list

keeps-all : (x : ℕ) (list : List ℕ) → any (eqb x) (kept_entries list) ≡ keeps x list
unfolding kept_entries
keeps-all x list = any-filter is_kept (eqb x) list

-- a number that is no kept entry
kept-none : (x : ℕ) (list : List ℕ) (j : ℕ) → any (eqb x) (kept_entries list) ≡ false → j < length list → is_dropped list j ≡ false → x ≢ get_or list j 0
unfolding is_dropped
kept-none x list j e h k q =
    let f : (is_kept (get_or list j 0) && eqb x (get_or list j 0)) ≡ false = none-at (λ y. is_kept y && eqb x y) list j 0 (sym (keeps-all x list) ∙ e) h in
    never_both (eq-eqb x (get_or list j 0) q) (rw k at f)

pub kept-some : (list : List ℕ) (k : ℕ) → k < length list → is_dropped list k ≡ false → any (eqb (get_or list k 0)) (kept_entries list) ≡ true
unfolding is_dropped
kept-some list k h d =
    let x = get_or list k 0 in
    keeps-all x list ∙ any_of (λ entry. is_kept entry && eqb x entry) list k 0 h (rw (d, eq-eqb x x refl))

pub none_kept : (x : ℕ) (list : List ℕ) → ((j : ℕ) → j < length list → is_dropped list j ≡ false → x ≢ get_or list j 0)
    → any (eqb x) (kept_entries list) ≡ false
unfolding is_dropped
none_kept x list f = keeps-all x list ∙ none_of (λ y. is_kept y && eqb x y) list 0 (λ j h. ⊎_elim
    (λ (d : eqb (get_or list j 0) dropped ≡ true). rw d)
    (λ (d : eqb (get_or list j 0) dropped ≡ false). rw d (ne_eqb x (get_or list j 0) (f j h d)))
    (bool_cases (eqb (get_or list j 0) dropped)))

distinct-at : (list : List ℕ) → met_twice (kept_entries list) ≡ false
    → (i j : ℕ) → i < length list → j < length list → is_dropped list i ≡ false → get_or list i 0 ≡ get_or list j 0 → i ≡ j
unfolding met_twice kept_entries filter is_dropped
distinct-at [] e i j h l k q = absurd (not-suc-le-zero h)
distinct-at (x ∷ xs) e zero zero h l k q = refl
distinct-at (x ∷ xs) e zero (suc j) h l k q =
    let t = rw k at e in
    absurd (kept-none x xs j (or-false-left (any (eqb x) (kept_entries xs)) (met_twice (kept_entries xs)) t) (omega arith)
    (ap (λ (y : ℕ). eqb y dropped) (sym q) ∙ k) q)
distinct-at (x ∷ xs) e (suc i) zero h l k q =
    let t = rw (ap (λ (y : ℕ). eqb y dropped) (sym q) ∙ k) at e in
    absurd (kept-none x xs i (or-false-left (any (eqb x) (kept_entries xs)) (met_twice (kept_entries xs)) t) (omega arith) k (sym q))
distinct-at (x ∷ xs) e (suc i) (suc j) h l k q = ⊎_elim
    (λ (d : eqb x dropped ≡ true). ap suc (distinct-at xs (rw d at e) i j (omega arith) (omega arith) k q))
    (λ (d : eqb x dropped ≡ false).
    let f = or-false-right (any (eqb x) (kept_entries xs)) (met_twice (kept_entries xs)) (rw d at e) in
    ap suc (distinct-at xs f i j (omega arith) (omega arith) k q))
    (bool_cases (eqb x dropped))

distinct_of : (list : List ℕ)
    → ((i j : ℕ) → i < length list → j < length list → is_dropped list i ≡ false → get_or list i 0 ≡ get_or list j 0 → i ≡ j)
    → met_twice (kept_entries list) ≡ false
unfolding met_twice kept_entries filter is_dropped
distinct_of [] f = refl
distinct_of (x ∷ xs) f =
    let rest = distinct_of xs (λ i j h l k q. let z : suc i ≡ suc j = f (suc i) (suc j) (omega arith) (omega arith) k q in omega arith) in
    ⊎_elim
    (λ (d : eqb x dropped ≡ true). rw d rest)
    (λ (d : eqb x dropped ≡ false). rw (d, fresh d) rest)
    (bool_cases (eqb x dropped))
  where
    fresh : eqb x dropped ≡ false → any (eqb x) (kept_entries xs) ≡ false
    fresh d = none_kept x xs (λ j h k q. let z : 0 ≡ suc j = f 0 (suc j) (omega arith) (omega arith) d q in omega arith)

module _ (originals : ℕ) (list : List ℕ) where
  -- the two faults of a list
  module _ (good : bad_list originals list ≡ false) where
    none-bad : (any (leb originals) (kept_entries list) || met_twice (kept_entries list)) ≡ false
    unfolding bad_list is_one_to_one
    none-bad = not-true _ (not-false _ good)

    none-large : any (leb originals) (kept_entries list) ≡ false
    none-large = or-false-left (any (leb originals) (kept_entries list)) _ none-bad

    none-twice : met_twice (kept_entries list) ≡ false
    none-twice = or-false-right (any (leb originals) (kept_entries list)) _ none-bad

    pub kept_of : Kept originals list
    unfolding kept_entries is_dropped
    kept_of = record {
      below = λ k h d.
          let f : (not (eqb (get_or list k 0) dropped) && leb originals (get_or list k 0)) ≡ false =
          none-at (λ x. is_kept x && leb originals x) list k 0 (sym (any-filter is_kept (leb originals) list) ∙ none-large) h in
          leb-false originals (get_or list k 0) (rw d at f);
      distinct = distinct-at list none-twice;
    }

  pub good_of : Kept originals list → bad_list originals list ≡ false
  unfolding bad_list is_one_to_one kept_entries is_dropped
  good_of K = rw (small, distinct_of list K.distinct)
    where
      small : any (leb originals) (kept_entries list) ≡ false
      small = any-filter is_kept (leb originals) list ∙ none_of (λ x. is_kept x && leb originals x) list 0 (λ k h. ⊎_elim
          (λ (d : eqb (get_or list k 0) dropped ≡ true). rw d)
          (λ (d : eqb (get_or list k 0) dropped ≡ false). rw d (lt-leb originals (get_or list k 0) (K.below k h d)))
          (bool_cases (eqb (get_or list k 0) dropped)))

-- ---- as many places are free as pages are dropped
-- distinct numbers below n take as many places
taken : (n : ℕ) (xs : List ℕ) → any (leb n) xs ≡ false → met_twice xs ≡ false → count (λ place. any (eqb place) xs) (range 0 n) ≡ length xs
unfolding any met_twice
taken n [] small differ = count_none (λ place. any (eqb place) []) (range 0 n) (none_of (λ place. any (eqb place) []) (range 0 n) 0 (λ i h. refl))
taken n (x ∷ xs) small differ =
    count-or (λ place. eqb place x) (λ place. any (eqb place) xs) (range 0 n)
    (λ place e. ap (λ (y : ℕ). any (eqb y) xs) (eqb-true place x e) ∙ or-false-left (any (eqb x) xs) (met_twice xs) differ)
    ∙ omega (
      arith,
      one-counted (λ place. eqb place x) 0 n x (record {
        low = omega arith;
        high = omega (arith, leb-false n x (or-false-left (leb n x) (any (leb n) xs) small));
        passes = eq-eqb x x refl;
        others = λ j a b e. eqb-true j x e;
      }),
      taken n xs (or-false-right (leb n x) (any (leb n) xs) small) (or-false-right (any (eqb x) xs) (met_twice xs) differ),
    )

-- how many pages a list drops
abbrev pub drops : List ℕ → ℕ
drops list = count (λ entry. eqb entry dropped) list

kept-count : (list : List ℕ) → length (kept_entries list) ≡ count is_kept list
unfolding kept_entries
kept-count list = length-filter is_kept list

pub free-count : (list : List ℕ) → bad_list (length list) list ≡ false → length (free_places list) ≡ drops list
unfolding free_places
free-count list good =
    let n = length list in
    let test : ℕ → Bool = λ place. any (eqb place) (kept_entries list) in
    let places = count-not test (range 0 n) in
    let used = taken n (kept_entries list) (none-large n list good) (none-twice n list good) in
    length-filter (λ place. not (test place)) (range 0 n)
    ∙ omega (arith, places, used, kept-count list, count-not (λ entry. eqb entry dropped) list, length-range 0 n)

-- ---- the free places
module _ (list : List ℕ) (i : ℕ) (h : i < length (free_places list)) where
  free-lt : get_or (free_places list) i 0 < length list
  unfolding free_places
  free-lt = omega (arith, (filter-in (λ place. not (any (eqb place) (kept_entries list))) 0 (length list) i h).1)

  free_new : any (eqb (get_or (free_places list) i 0)) (kept_entries list) ≡ false
  unfolding free_places
  free_new = not-true _ (filter_passes (λ place. not (any (eqb place) (kept_entries list))) (range 0 (length list)) i 0 h)

free-ascends : (list : List ℕ) (i j : ℕ) → i < j → j < length (free_places list) → get_or (free_places list) i 0 < get_or (free_places list) j 0
unfolding free_places
free-ascends list i j o h = filter-ascends (λ place. not (any (eqb place) (kept_entries list))) 0 (length list) i j o h

-- ---- the pairing
paired-length : (list free : List ℕ) → length (paired list free) ≡ length list
unfolding paired
paired-length [] free = refl
paired-length (x ∷ xs) free = ⊎_elim
    (λ (d : eqb x dropped ≡ true). rw d (ap suc (paired-length xs (drop 1 free))))
    (λ (d : eqb x dropped ≡ false). rw d (ap suc (paired-length xs free)))
    (bool_cases (eqb x dropped))

paired-kept : (list free : List ℕ) (k : ℕ) → is_dropped list k ≡ false → get_or (paired list free) k 0 ≡ get_or list k 0
unfolding paired is_dropped
paired-kept [] free k d = refl
paired-kept (x ∷ xs) free zero d = rw d
paired-kept (x ∷ xs) free (suc k) d = ⊎_elim
    (λ (e : eqb x dropped ≡ true). rw e (paired-kept xs (drop 1 free) k d))
    (λ (e : eqb x dropped ≡ false). rw e (paired-kept xs free k d))
    (bool_cases (eqb x dropped))

-- a dropped page gets the free place of its number among the dropped
paired-given : (list free : List ℕ) (k : ℕ) → is_dropped list k ≡ true → k < length list
    → get_or (paired list free) k 0 ≡ get_or free (drops (take k list)) 0
unfolding paired is_dropped count
paired-given [] free k d h = absurd (not-suc-le-zero h)
paired-given (x ∷ xs) free zero d h = rw d
paired-given (x ∷ xs) free (suc k) d h = ⊎_elim
    (λ (e : eqb x dropped ≡ true).
    let before = drops (take k xs) in
    let behind = get_or-drop 1 free before 0 ∙ ap (λ (r : ℕ). get_or free r 0) (one-add before) in
    rw e (paired-given xs (drop 1 free) k d (omega arith) ∙ behind))
    (λ (e : eqb x dropped ≡ false). rw e (paired-given xs free k d (omega arith)))
    (bool_cases (eqb x dropped))

-- that number rises from one dropped page to the next, and is below that of all of them
rank-more : (list : List ℕ) (i j : ℕ) → i < j → i < length list → is_dropped list i ≡ true → drops (take i list) < drops (take j list)
unfolding is_dropped count
rank-more [] i j o h d = absurd (not-suc-le-zero h)
rank-more (x ∷ xs) i zero o h d = absurd (not-suc-le-zero o)
rank-more (x ∷ xs) zero (suc j) o h d = rw d (omega arith)
rank-more (x ∷ xs) (suc i) (suc j) o h d =
    let m = rank-more xs i j (omega arith) (omega arith) d in
    ⊎_elim
    (λ (e : eqb x dropped ≡ true). rw e (omega arith))
    (λ (e : eqb x dropped ≡ false). rw e m)
    (bool_cases (eqb x dropped))

-- ---- the completed list
module _ (list : List ℕ) where
  pub completed-length : length (completed list) ≡ length list
  unfolding completed
  completed-length = paired-length list (free_places list)

  pub completed-kept : (k : ℕ) → is_dropped list k ≡ false → get_or (completed list) k 0 ≡ get_or list k 0
  unfolding completed
  completed-kept k d = paired-kept list (free_places list) k d

  module _ (good : bad_list (length list) list ≡ false) where
    -- the number of a dropped page among them, and its place
    module _ (k : ℕ) (h : k < length list) (d : is_dropped list k ≡ true) where
      rank_lt : drops (take k list) < length (free_places list)
      rank_lt = let m = rank-more list k (length list) h h d in rw (free-count list good) (rw (take-length list) at m)

      completed-given : get_or (completed list) k 0 ≡ get_or (free_places list) (drops (take k list)) 0
      unfolding completed
      completed-given = paired-given list (free_places list) k d h

      completed-lt : get_or (completed list) k 0 < length list
      completed-lt = rw completed-given (free-lt list _ rank_lt)

      -- no kept page is sent there
      pub completed-new : any (eqb (get_or (completed list) k 0)) (kept_entries list) ≡ false
      completed-new = rw completed-given (free_new list _ rank_lt)

    pub completed-ascends : (i j : ℕ) → i < j → j < length list → is_dropped list i ≡ true → is_dropped list j ≡ true
        → get_or (completed list) i 0 < get_or (completed list) j 0
    completed-ascends i j o h d e =
        rw (completed-given i (omega arith) d, completed-given j h e)
        (free-ascends list _ _ (rank-more list i j o (omega arith) d) (rank_lt j h e))

    pub completed-below : (k : ℕ) → k < length list → get_or (completed list) k 0 < length list
    completed-below k h = ⊎_elim
        (λ (d : is_dropped list k ≡ true). completed-lt k h d)
        (λ (d : is_dropped list k ≡ false). rw (completed-kept k d) ((kept_of (length list) list good).below k h d))
        (bool_cases (is_dropped list k))

    -- the free places are those of the dropped pages
    pub completed-free : (k : ℕ) → k < length list → not (any (eqb (get_or (completed list) k 0)) (kept_entries list)) ≡ is_dropped list k
    completed-free k h = ⊎_elim
        (λ (d : is_dropped list k ≡ true). ap not (completed-new k h d) ∙ sym d)
        (λ (d : is_dropped list k ≡ false). rw (completed-kept k d, kept-some list k h d) (sym d))
        (bool_cases (is_dropped list k))

    -- a kept page and a dropped one go to different places
    apart : (i j : ℕ) → i < length list → j < length list → is_dropped list i ≡ true → is_dropped list j ≡ false
        → get_or (completed list) i 0 ≢ get_or (completed list) j 0
    apart i j h l d e q = kept-none _ list j (completed-new i h d) l e (q ∙ completed-kept j e)

    same : Distinct (completed list)
    same i j h l q =
        let h' : i < length list = rw completed-length at h in
        let l' : j < length list = rw completed-length at l in
        ⊎_elim
        (λ (d : is_dropped list i ≡ true). ⊎_elim
        (λ (e : is_dropped list j ≡ true). ⊎_elim
        (λ (p : i ≡ j). p)
        (λ (p : i ≢ j). ⊎_elim
        (λ (o : i < j). absurd (omega (arith, completed-ascends i j o l' d e)))
        (λ (o : j < i). absurd (omega (arith, completed-ascends j i o h' e d)))
        (ne-lt i j p))
        (eq-cases i j))
        (λ (e : is_dropped list j ≡ false). absurd (apart i j h' l' d e q))
        (bool_cases (is_dropped list j)))
        (λ (d : is_dropped list i ≡ false). ⊎_elim
        (λ (e : is_dropped list j ≡ true). absurd (apart j i l' h' e d (sym q)))
        (λ (e : is_dropped list j ≡ false).
        (kept_of (length list) list good).distinct i j h' l' d (sym (completed-kept i d) ∙ q ∙ completed-kept j e))
        (bool_cases (is_dropped list j)))
        (bool_cases (is_dropped list i))

    pub completed-one-to-one : is_one_to_one (length list) (completed list) ≡ true
    completed-one-to-one =
        one-to-one-of (length list) (completed list) (λ k h. let h' : k < length list = rw completed-length at h in completed-below k h') same

pub completed-accepted : (originals : ℕ) (list : List ℕ) → length list ≡ originals → bad_list originals list ≡ false
    → is_one_to_one originals (completed list) ≡ true
completed-accepted originals list e good = rw (← e) (completed-one-to-one list (rw (← e) at good))

-- ---- a list that drops no page
pub undropped-each : (list : List ℕ) → any (eqb dropped) list ≡ false → (k : ℕ) → is_dropped list k ≡ false
unfolding is_dropped any
undropped-each [] e k = refl
undropped-each (x ∷ xs) e zero = ne_eqb x dropped (λ q. eqb-false dropped x (or-false-left (eqb dropped x) (any (eqb dropped) xs) e) (sym q))
undropped-each (x ∷ xs) e (suc k) = undropped-each xs (or-false-right (eqb dropped x) (any (eqb dropped) xs) e) k

paired_none : (list free : List ℕ) → any (eqb dropped) list ≡ false → paired list free ≡ list
unfolding paired any is_dropped
paired_none [] free e = refl
paired_none (x ∷ xs) free e = rw (undropped-each (x ∷ xs) e 0)
    (ap (λ (t : List ℕ). x ∷ t) (paired_none xs free (or-false-right (eqb dropped x) (any (eqb dropped) xs) e)))

module _ (list : List ℕ) (none : any (eqb dropped) list ≡ false) where
  pub undropped-completed : completed list ≡ list
  unfolding completed
  undropped-completed = paired_none list (free_places list) none

  pub undropped-kept : kept_entries list ≡ list
  unfolding kept_entries is_dropped
  undropped-kept = filter-all is_kept list (all_of is_kept list 0 (λ k h. ap not (undropped-each list none k)))

  pub undropped-bad : (originals : ℕ) → bad_list originals list ≡ not (is_one_to_one originals list)
  unfolding bad_list
  undropped-bad originals = ap (λ (t : List ℕ). not (is_one_to_one originals t)) undropped-kept

-- a permutation of few pages drops none
pub one-to-one-undropped : (originals : ℕ) (list : List ℕ) → originals ≤ dropped → is_one_to_one originals list ≡ true
    → any (eqb dropped) list ≡ false
one-to-one-undropped originals list few one = none_of (eqb dropped) list 0 (λ k h.
    ne_eqb dropped (get_or list k 0) (λ q. omega (arith, entry_lt originals list one k h)))
