-- An original reaches at most three slots, and at the end one.
use Rattle.flash.proofs.Kit.{◌≡◌, refl, sym, ap, ◌∙◌, ap₂, ◌⊎◌, inl, inr, ⊎_elim, Bool, true, false, ◌||◌, or-false, or-true, List, [], ◌∷◌, ◌++◌, ℕ, zero, suc, ◌+◌, ◌-◌, ◌*◌, ◌/◌, ◌%◌, ◌≤◌, ◌<◌}
use Rattle.flash.proofs.Kit.{arith, eqb, length, length-append, get_or, eqb-true, eq-eqb, ne_eqb, suc-mul, subst}
use Rattle.flash.specs.Lists.{range, any, count, filter}
use Rattle.flash.specs.declared.sizes.Sizes.{Sizes}
use Rattle.flash.specs.Geometry.{slot, block_of, slot_of, original_count, slot_count}
use Rattle.flash.proofs.Bools.{bool_cases, never_both}
use Rattle.flash.proofs.Comparisons.{lt-cases}
use Rattle.flash.proofs.Searches.{any_append, count_none}
use Rattle.flash.proofs.Ranges.{none_is}
use Rattle.flash.proofs.Filters.{length-filter, filter_same}
use Rattle.split.specs.Split.{set_of}
use Rattle.method.specs.Move.{Move, AcceptedMove}
use Rattle.method.specs.Cycle.{dest, is_top}
use Rattle.method.specs.Place.{Pass, forward, backward, Held, blank, code, last_place, pass_at, filling, filled, above, written, held_at}
use Rattle.method.specs.Reach.{lies, is_reached, reached}
use Rattle.method.proofs.basics.Indexes.{Order, less, same, more, order, slot-div, slot-mod, each-slot}
use Rattle.method.proofs.cycles.SetCycles.{entry_in, slot-in}
use Rattle.method.proofs.places.StepsAtPlaces.{Stands, stands_at}
use Rattle.method.proofs.places.PagesHeld.{held_below, held-above, held-written, held-blank}

-- ---- counts
count-implied : (test other : ℕ → Bool) → ((x : ℕ) → test x ≡ true → other x ≡ true) → (xs : List ℕ) → count test xs ≤ count other xs
unfolding count
count-implied test other f [] = omega arith
count-implied test other f (x ∷ xs) = ⊎_elim
    (λ (e : test x ≡ true). rw (e, f x e) (omega (arith, count-implied test other f xs)))
    (λ (e : test x ≡ false). ⊎_elim
    (λ (o : other x ≡ true). rw (e, o) (omega (arith, count-implied test other f xs)))
    (λ (o : other x ≡ false). rw (e, o) (count-implied test other f xs))
    (bool_cases (other x)))
    (bool_cases (test x))

count-either : (test other : ℕ → Bool) (xs : List ℕ) → count (λ x. test x || other x) xs ≤ count test xs + count other xs
unfolding count
count-either test other [] = omega arith
count-either test other (x ∷ xs) = ⊎_elim
    (λ (e : test x ≡ true). ⊎_elim
    (λ (o : other x ≡ true). rw (e, o) (omega (arith, count-either test other xs)))
    (λ (o : other x ≡ false). rw (e, o) (omega (arith, count-either test other xs)))
    (bool_cases (other x)))
    (λ (e : test x ≡ false). ⊎_elim
    (λ (o : other x ≡ true). rw (e, o) (omega (arith, count-either test other xs)))
    (λ (o : other x ≡ false). rw (e, o) (count-either test other xs))
    (bool_cases (other x)))
    (bool_cases (test x))

-- a number is in a range once at most
none_after : (t start size : ℕ) → t < start → any (λ x. eqb x t) (range start size) ≡ false
none_after t start size h = none_is (λ x. eqb x t) start size (λ x l r. ne_eqb x t (λ (e : x ≡ t). absurd (omega arith)))

count-this : (t start size : ℕ) → count (λ x. eqb x t) (range start size) ≤ 1
unfolding count range
count-this t start zero = omega arith
count-this t start (suc size) = ⊎_elim
    (λ (e : eqb start t ≡ true).
    let is : start ≡ t = eqb-true start t e in
    rw e (omega (arith, count_none (λ x. eqb x t) (range (suc start) size) (none_after t (suc start) size (omega arith)))))
    (λ (e : eqb start t ≡ false). rw e (count-this t (suc start) size))
    (bool_cases (eqb start t))

count-among : (ts : List ℕ) (start size : ℕ) → count (λ x. any (eqb x) ts) (range start size) ≤ length ts
unfolding any
count-among [] start size = omega (arith, count_none (λ x. false) (range start size) (none_is (λ x. false) start size (λ x l r. refl)))
count-among (t ∷ ts) start size =
    omega (arith, count-either (λ x. eqb x t) (λ x. any (eqb x) ts) (range start size), count-this t start size, count-among ts start size)

filter_none : (test : ℕ → Bool) (xs : List ℕ) → any test xs ≡ false → filter test xs ≡ []
unfolding filter any
filter_none test [] e = refl
filter_none test (x ∷ xs) e = ⊎_elim
    (λ (f : test x ≡ true). absurd (never_both refl (rw f at e)))
    (λ (f : test x ≡ false). rw f (filter_none test xs (rw f at e)))
    (bool_cases (test x))

filter-this : (t start size : ℕ) → start ≤ t → t < start + size → filter (λ x. eqb x t) (range start size) ≡ t ∷ []
unfolding filter range
filter-this t start zero l h = absurd (omega arith)
filter-this t start (suc size) l h = ⊎_elim
    (λ (e : eqb start t ≡ true).
    let is : start ≡ t = eqb-true start t e in
    rw (e, is) (ap (λ (xs : List ℕ). t ∷ xs) (filter_none (λ x. eqb x t) (range (suc t) size) (none_after t (suc t) size (omega arith)))))
    (λ (e : eqb start t ≡ false).
    let apart : start ≡ t → ⊥ = λ s. never_both (eq-eqb start t s) e in
    rw e (filter-this t (suc start) size (omega arith) (omega arith)))
    (bool_cases (eqb start t))

written-kind : (pass : Pass) → (written pass ≡ code) ⊎ (written pass ≡ above pass)
unfolding written above
written-kind forward = inl refl
written-kind backward = inr refl

module _ (M : Move) where
  open M.sizes use {n, m}

  abbrev Z : Sizes
  Z = M.sizes

  pub reached-at : (place k b q : ℕ) → q < m → is_reached M place k (slot m b q) ≡ any (eqb (slot m b q)) (lies M (held_at Z place b q) k)
  unfolding is_reached
  reached-at place k b q h =
      ap₂ (λ (x y : ℕ). any (eqb (slot m b q)) (lies M (held_at Z place x y) k)) (slot-div m b q h) (slot-mod m b q h)

  -- in each pass, pages are coded or blank or of one further kind
  held-kinds : (place b q : ℕ) → (held_at Z place b q ≡ code) ⊎ ((held_at Z place b q ≡ above (pass_at Z place)) ⊎ (held_at Z place b q ≡ blank))
  held-kinds place b q = go (order b (filling Z place)) (lt-cases q (filled Z place))
    where
      go : Order b (filling Z place) → (q < filled Z place) ⊎ (filled Z place ≤ q)
          → (held_at Z place b q ≡ code) ⊎ ((held_at Z place b q ≡ above (pass_at Z place)) ⊎ (held_at Z place b q ≡ blank))
      go (less l) _ = inl (held_below Z place b q l)
      go (more l) _ = inr (inl (held-above Z place b q l))
      go (same e) (inl l) = ⊎_elim
          (λ (c : written (pass_at Z place) ≡ code). inl (held-written Z place b q e l ∙ c))
          (λ (c : written (pass_at Z place) ≡ above (pass_at Z place)). inr (inl (held-written Z place b q e l ∙ c)))
          (written-kind (pass_at Z place))
      go (same e) (inr l) = inr (inr (held-blank Z place b q e l))

  -- ---- at most three
  abbrev candidates : (place k : ℕ) → List ℕ
  candidates place k = lies M (above (pass_at Z place)) k ++ lies M code k

  among-these : (place k t : ℕ) → is_reached M place k t ≡ true → any (eqb t) (candidates place k) ≡ true
  unfolding is_reached lies any
  among-these place k t e = any_append (eqb t) (lies M (above (pass_at Z place)) k) (lies M code k) ∙ ⊎_elim
      (λ (h : held_at Z place (t / m) (t % m) ≡ code).
      let there : any (eqb t) (lies M code k) ≡ true = ap (λ (x : Held). any (eqb t) (lies M x k)) (sym h) ∙ e in
      ap (λ (x : Bool). any (eqb t) (lies M (above (pass_at Z place)) k) || x) there ∙ or-true (any (eqb t) (lies M (above (pass_at Z place)) k)))
      (λ (other : (held_at Z place (t / m) (t % m) ≡ above (pass_at Z place)) ⊎ (held_at Z place (t / m) (t % m) ≡ blank)). ⊎_elim
      (λ (h : held_at Z place (t / m) (t % m) ≡ above (pass_at Z place)).
      let there : any (eqb t) (lies M (above (pass_at Z place)) k) ≡ true = ap (λ (x : Held). any (eqb t) (lies M x k)) (sym h) ∙ e in
      ap (λ (x : Bool). x || any (eqb t) (lies M code k)) there)
      (λ (h : held_at Z place (t / m) (t % m) ≡ blank).
      absurd (never_both (ap (λ (x : Held). any (eqb t) (lies M x k)) (sym h) ∙ e) refl))
      other)
      (held-kinds place (t / m) (t % m))

  one-above : (pass : Pass) (k : ℕ) → length (lies M (above pass) k) ≡ 1
  unfolding lies above
  one-above forward k = refl
  one-above backward k = refl

  two-coded : (k : ℕ) → length (lies M code k) ≤ 2
  unfolding lies
  two-coded k =
      let set = set_of M.sets k in
      let u = dest M set (block_of m k) in
      ⊎_elim
      (λ (e : is_top M set u ≡ true). rw e (omega arith))
      (λ (e : is_top M set u ≡ false). rw e (omega arith))
      (bool_cases (is_top M set u))

  pub reached-few : (place k : ℕ) → length (reached M place k) ≤ 3
  unfolding reached
  reached-few place k =
      omega (
        arith,
        length-filter (is_reached M place k) (range 0 (slot_count Z)),
        count-implied (is_reached M place k) (λ t. any (eqb t) (candidates place k)) (among-these place k) (range 0 (slot_count Z)),
        count-among (candidates place k) 0 (slot_count Z),
        length-append (lies M (above (pass_at Z place)) k) (lies M code k),
        one-above (pass_at Z place) k,
        two-coded k,
      )

-- ---- at the end
module _ (M : Move) (A : AcceptedMove M) (k : ℕ) (k-in : k < original_count M.sizes) where
  open M.sizes use {n, m}

  abbrev S : Sizes
  S = M.sizes

  abbrev to : ℕ
  to = get_or M.list k 0

  at_last : Stands S (last_place S) backward 0 0
  unfolding last_place
  at_last =
      let turns : 2 * n - 0 ≡ 2 * n = omega arith in
      let at : (2 * n - 0) * (m + 1) + 0 ≡ 2 * n * (m + 1) = rw turns (omega arith) in
      subst (λ (p : ℕ). Stands S p backward 0 0) at (stands_at S backward 0 0 (omega arith) (omega arith))

  final-test : (b q : ℕ) → b < n + 1 → q < m → is_reached M (last_place S) k (slot m b q) ≡ eqb (slot m b q) (slot_of m to)
  unfolding lies above any
  final-test zero q h l =
      reached-at M (last_place S) k 0 q l
      ∙ ap (λ (x : Held). any (eqb (slot m 0 q)) (lies M x k)) (held-blank S (last_place S) 0 q (sym at_last.block-is) (omega (arith, at_last.pages-is)))
      ∙ sym (ne_eqb (slot m 0 q) (slot_of m to) (λ (e : slot m 0 q ≡ slot_of m to). absurd (omega (arith, suc-mul (to / m) m))))
  final-test (suc b) q h l =
      reached-at M (last_place S) k (suc b) q l
      ∙ ap (λ (x : Held). any (eqb (slot m (suc b) q)) (lies M x k))
      (held-above S (last_place S) (suc b) q (omega (arith, at_last.block-is)) ∙ ap above at_last.pass-is)
      ∙ or-false (eqb (slot m (suc b) q) (slot_of m to))

  pub reached-last : reached M (last_place S) k ≡ slot_of m to ∷ []
  unfolding reached
  reached-last =
      filter_same (is_reached M (last_place S) k) (λ t. eqb t (slot_of m to)) 0 (slot_count S)
      (λ t l h. each-slot m (n + 1) (λ t. is_reached M (last_place S) k t ≡ eqb t (slot_of m to)) final-test t (omega arith))
      ∙ filter-this (slot_of m to) 0 (slot_count S) (omega arith) (omega (arith, slot-in M A to (entry_in M A k k-in)))
