-- Two stores at one place, from originals of which one alone differs: the pages that differ are those that it reaches, and they do so at its offsets.
use Rattle.flash.proofs.Kit.{◌≡◌, refl, sym, ap, ap₂, ◌∙◌, ◌≢◌, ⊎_elim, Bool, true, false, not, ◌&&◌, List, [], ◌∷◌, ℕ, ◌+◌, ◌-◌, ◌*◌, ◌≤◌, ◌<◌}
use Rattle.flash.proofs.Kit.{arith, eqb, length, get_or, take, drop_of_length-le, take-nil, ext_get_or, mul-le-mul_right, eqb-true, eq-eqb}
use Rattle.flash.specs.Lists.{range, any, count, part, is_same}
use Rattle.flash.specs.declared.sizes.Sizes.{Sizes}
use Rattle.flash.specs.Geometry.{slot, slot_of, original_count, slot_count, store_len}
use Rattle.flash.specs.PageSum.{sum}
use Rattle.flash.specs.Chip.{Chip, page_at}
use Rattle.flash.proofs.Bools.{bool_cases, never_both, fails}
use Rattle.flash.proofs.Bounds.{slot-in-store}
use Rattle.flash.proofs.Chips.{page-is}
use Rattle.flash.proofs.Comparisons.{lt-cases}
use Rattle.flash.proofs.Filters.{filter_passes, filter_same, any-filter}
use Rattle.flash.proofs.Parts.{length_part}
use Rattle.flash.proofs.Ranges.{any-is}
use Rattle.flash.proofs.Same.{same-eq, eq-same}
use Rattle.split.specs.Request.{Request}
use Rattle.method.specs.Move.{Plan, move, plan, AcceptedMove}
use Rattle.method.specs.Place.{Held, blank, plain, code, final, held_at}
use Rattle.method.specs.State.{originals_in, held_originals, counts_as, held_page}
use Rattle.method.specs.Reach.{is_reached, reached, slots_apart, byte_at, Changed}
use Rattle.method.proofs.basics.MoveShape.{Holding, slot-back, counts-kept}
use Rattle.method.proofs.basics.AcceptedCalls.{StandsAt}
use Rattle.method.proofs.basics.Indexes.{each-slot}
use Rattle.method.proofs.cycles.SetCycles.{slot-in}
use Rattle.method.proofs.places.PagesHeld.{HeldCases, coded, ended, resting, empty, held-cases}
use Rattle.method.proofs.states.StatesOfPlaces.{page-held}
use Rattle.method.proofs.states.RunsAddUp.{start-accepted, start-full, start-page}
use Rattle.method.proofs.reach.SumsApart.{sum-without, sum-once}
use Rattle.method.proofs.reach.WhereItLies.{Fits, nothing, own, coding, last, lies_where, lies-once}
use Rattle.method.proofs.reach.FewReached.{reached-at}

-- a part behind the end is empty
part-past : (size i parts : ℕ) (xs : List ℕ) → length xs ≡ parts * size → parts ≤ i → part size i xs ≡ []
unfolding part
part-past size i parts xs e h =
    let past : length xs ≤ i * size = omega (arith, mul-le-mul_right size h) in
    ap (take size) (drop_of_length-le xs past) ∙ take-nil size

module _ (R : Request) (one other : Chip) (k : ℕ) (C : Changed R one other k) where
  open R.sizes use {n, m, p as P}

  abbrev Z : Sizes
  Z = R.sizes

  abbrev X : Plan
  X = plan R

  abbrev home : ℕ
  home = slot_of m k

  A : AcceptedMove (move R)
  A = start-accepted R one C.one-starts

  -- ---- the stores at rest
  abbrev is_apart : (t : ℕ) → Bool
  is_apart t = not (is_same (page_at P one t) (page_at P other t))

  home-in : home < slot_count Z
  home-in = slot-in (move R) A k C.inside

  home-apart : page_at P one home ≢ page_at P other home
  unfolding slots_apart
  home-apart e =
      let first = filter_passes is_apart (range 0 (slot_count Z)) 0 0 (rw C.single (omega arith)) in
      let there : is_apart home ≡ true = rw C.single at first in
      never_both there (ap not (eq-same (page_at P one home) (page_at P other home) e))

  others_same : (t : ℕ) → t < slot_count Z → t ≢ home → page_at P one t ≡ page_at P other t
  unfolding slots_apart any
  others_same t h apart = ⊎_elim
      (λ (e : is_same (page_at P one t) (page_at P other t) ≡ true). same-eq (page_at P one t) (page_at P other t) e)
      (λ (e : is_same (page_at P one t) (page_at P other t) ≡ false).
      let found : any (λ x. is_apart x && eqb t x) (range 0 (slot_count Z)) ≡ true =
      any-is (λ x. is_apart x && eqb t x) 0 (slot_count Z) t (omega arith) (omega arith) (rw (e, eq-eqb t t refl)) in
      let listed : any (eqb t) (home ∷ []) ≡ true = ap (any (eqb t)) (sym C.single) ∙ any-filter is_apart (eqb t) (range 0 (slot_count Z)) ∙ found in
      absurd (apart (only t listed)))
      (bool_cases (is_same (page_at P one t) (page_at P other t)))
    where
      only : (t : ℕ) → any (eqb t) (home ∷ []) ≡ true → t ≡ home
      only t e = ⊎_elim (eqb-true t home) (λ (f : eqb t home ≡ false). absurd (never_both (rw f at e) refl)) (bool_cases (eqb t home))

  -- ---- the originals
  abbrev mine : (i : ℕ) → List ℕ
  mine i = part P i (originals_in Z one)

  abbrev yours : (i : ℕ) → List ℕ
  yours i = part P i (originals_in Z other)

  originals-same : (i : ℕ) → i ≢ k → mine i ≡ yours i
  originals-same i apart = ⊎_elim
      (λ (h : i < original_count Z).
      start-page R one C.one-starts i
      ∙ others_same (slot_of m i) (slot-in (move R) A i h) (λ (e : slot_of m i ≡ home). apart (sym (slot-back m i) ∙ ap (λ (t : ℕ). t - m) e ∙ slot-back m k))
      ∙ sym (start-page R other C.other-starts i))
      (λ (h : original_count Z ≤ i).
      part-past P i (original_count Z) (originals_in Z one) (start-full R one C.one-starts) h
      ∙ sym (part-past P i (original_count Z) (originals_in Z other) (start-full R other C.other-starts) h))
      (lt-cases i (original_count Z))

  counts_same : (i : ℕ) → i ≢ k → counts_as X (originals_in Z one) i ≡ counts_as X (originals_in Z other) i
  unfolding counts_as
  counts_same i apart = rw (originals-same i apart)

  -- ---- pages by what they hold
  page-same : (h : Held) (b q : ℕ) → any (eqb k) (held_originals (move R) h b q) ≡ false
      → held_page X (originals_in Z one) h b q ≡ held_page X (originals_in Z other) h b q
  unfolding held_page
  page-same blank b q e = refl
  page-same plain b q e = sum-without mine yours k originals-same (held_originals (move R) plain b q) e
  page-same code b q e = sum-without (counts_as X (originals_in Z one)) (counts_as X (originals_in Z other)) k counts_same (held_originals (move R) code b q) e
  page-same final b q e = sum-without (counts_as X (originals_in Z one)) (counts_as X (originals_in Z other)) k counts_same (held_originals (move R) final b q) e

  counts-once : (ks : List ℕ) (j : ℕ) → count (eqb k) ks ≡ 1
      → eqb (get_or (sum (counts_as X (originals_in Z one)) ks) j 0) (get_or (sum (counts_as X (originals_in Z other)) ks) j 0) ≡ eqb (get_or (mine k) j 0) (get_or (yours k) j 0)
  counts-once ks j e =
      sum-once (counts_as X (originals_in Z one)) (counts_as X (originals_in Z other)) k counts_same ks j e
      ∙ ap₂ (λ (p q : List ℕ). eqb (get_or p j 0) (get_or q j 0)) (counts-kept X (originals_in Z one) k C.kept) (counts-kept X (originals_in Z other) k C.kept)

  page-apart : (h : Held) (b q j : ℕ) → count (eqb k) (held_originals (move R) h b q) ≡ 1
      → eqb (get_or (held_page X (originals_in Z one) h b q) j 0) (get_or (held_page X (originals_in Z other) h b q) j 0) ≡ eqb (get_or (mine k) j 0) (get_or (yours k) j 0)
  unfolding held_page held_originals count
  page-apart blank b q j e = absurd (omega arith)
  page-apart plain b q j e = sum-once mine yours k originals-same (held_originals (move R) plain b q) j e
  page-apart code b q j e = counts-once (held_originals (move R) code b q) j e
  page-apart final b q j e = counts-once (held_originals (move R) final b q) j e

  -- ---- the stores of a place
  pub record Came (chip₀ chip : Chip) (place : ℕ) : Type 0 where
    pub stands : StandsAt Z chip place
    pub size : length chip.store ≡ store_len Z
    pub holds : Holding X (originals_in Z chip₀) chip

  module _ (place : ℕ) (a b : Chip) (from_one : Came one a place) (from-other : Came other b place) where
    fits : (c q : ℕ) → c ≤ n → Fits n c (held_at Z place c q)
    fits c q h = go (held-cases Z place c q from_one.stands.inside h)
      where
        go : HeldCases Z place c q → Fits n c (held_at Z place c q)
        go (coded l e) = rw e (coding l)
        go (ended l e) = rw e (last l h)
        go (resting f l e) = rw e (own l)
        go (empty f l e) = rw e nothing

    module _ (c q : ℕ) (c-in : c ≤ n) (q-in : q < m) where
      abbrev h : Held
      h = held_at Z place c q

      abbrev t : ℕ
      t = slot m c q

      a-page : page_at P a t ≡ held_page X (originals_in Z one) h c q
      a-page = page-held X A (originals_in Z one) a place from_one.stands from_one.size from_one.holds c q c-in q-in

      b-page : page_at P b t ≡ held_page X (originals_in Z other) h c q
      b-page = page-held X A (originals_in Z other) b place from-other.stands from-other.size from-other.holds c q c-in q-in

      told : is_reached (move R) place k t ≡ any (eqb k) (held_originals (move R) h c q)
      told = reached-at (move R) place k c q q-in ∙ lies_where (move R) A k C.inside c q q-in h (fits c q c-in)

      page-kept : is_reached (move R) place k t ≡ false → page_at P a t ≡ page_at P b t
      page-kept e = a-page ∙ page-same h c q (sym told ∙ e) ∙ sym b-page

      byte-told : (j : ℕ) → is_reached (move R) place k t ≡ true → eqb (byte_at Z a t j) (byte_at Z b t j) ≡ eqb (byte_at Z one home j) (byte_at Z other home j)
      unfolding byte_at
      byte-told j e =
          ap₂ (λ (x y : List ℕ). eqb (get_or x j 0) (get_or y j 0)) a-page b-page
          ∙ page-apart h c q j (lies-once (move R) A k C.inside c q q-in h (fits c q c-in) (sym told ∙ e))
          ∙ ap₂ (λ (x y : List ℕ). eqb (get_or x j 0) (get_or y j 0)) (start-page R one C.one-starts k) (start-page R other C.other-starts k)

    pub bytes_apart : (t : ℕ) → t < slot_count Z → (j : ℕ) → is_reached (move R) place k t ≡ true
        → eqb (byte_at Z a t j) (byte_at Z b t j) ≡ eqb (byte_at Z one home j) (byte_at Z other home j)
    bytes_apart = each-slot m (n + 1)
        (λ t. (j : ℕ) → is_reached (move R) place k t ≡ true → eqb (byte_at Z a t j) (byte_at Z b t j) ≡ eqb (byte_at Z one home j) (byte_at Z other home j))
        (λ c q h l. byte-told c q (omega arith) l)

    pages-kept : (t : ℕ) → t < slot_count Z → is_reached (move R) place k t ≡ false → page_at P a t ≡ page_at P b t
    pages-kept = each-slot m (n + 1) (λ t. is_reached (move R) place k t ≡ false → page_at P a t ≡ page_at P b t) (λ c q h l. page-kept c q (omega arith) l)

    page-size : (chip : Chip) → length chip.store ≡ store_len Z → (t : ℕ) → t < slot_count Z → length (page_at P chip t) ≡ P
    page-size chip e t h = ap length (page-is P chip t) ∙ length_part P t chip.store (rw e (slot-in-store Z t h))

    -- a slot that is reached does differ
    pages-apart : (t : ℕ) → t < slot_count Z → is_reached (move R) place k t ≡ true → page_at P a t ≢ page_at P b t
    unfolding byte_at
    pages-apart t h e same = home-apart
        (ext_get_or 0 (page_at P one home) (page_at P other home)
        (page-size one C.one-starts.store_length home home-in ∙ sym (page-size other C.other-starts.store_length home home-in))
        (λ j l. eqb-true (get_or (page_at P one home) j 0) (get_or (page_at P other home) j 0)
        (sym (bytes_apart t h j e) ∙ eq-eqb (get_or (page_at P a t) j 0) (get_or (page_at P b t) j 0) (ap (λ (p : List ℕ). get_or p j 0) same))))

    apart-told : (t : ℕ) → t < slot_count Z → not (is_same (page_at P a t) (page_at P b t)) ≡ is_reached (move R) place k t
    apart-told t h = ⊎_elim
        (λ (e : is_reached (move R) place k t ≡ true).
        ap not (fails (λ (s : is_same (page_at P a t) (page_at P b t) ≡ true). pages-apart t h e (same-eq (page_at P a t) (page_at P b t) s))) ∙ sym e)
        (λ (e : is_reached (move R) place k t ≡ false). ap not (eq-same (page_at P a t) (page_at P b t) (pages-kept t h e)) ∙ sym e)
        (bool_cases (is_reached (move R) place k t))

    pub slots_apart_lem : slots_apart Z a b ≡ reached (move R) place k
    unfolding slots_apart reached
    slots_apart_lem =
        filter_same (λ t. not (is_same (page_at P a t) (page_at P b t))) (is_reached (move R) place k) 0 (slot_count Z) (λ t l h. apart-told t (omega arith))
