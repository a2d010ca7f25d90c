-- What is left of the slots that a walk gathers, where pages are dropped: in a read, and in a write of either pass.
use Rattle.flash.proofs.Kit.{◌≡◌, refl, sym, ap, ◌∙◌, ◌⊎◌, inl, inr, ⊎_elim, Bool, true, false, cond, List, [], ◌∷◌, ◌++◌, map, ℕ, ◌+◌, ◌-◌, ◌*◌}
use Rattle.flash.proofs.Kit.{◌/◌, ◌%◌, ◌≤◌, ◌<◌, mod-lt, div-add-mod', div-lt_iff_lt-mul, le-div_iff_mul-le, arith, eqb, leb, length, get_or, take}
use Rattle.flash.proofs.Kit.{drop, eqb-true, eq-eqb, le-leb, leb-true, get_or_at, List·getD-append, length-append, subst, add-mul}
use Rattle.flash.specs.declared.sizes.Sizes.{Sizes}
use Rattle.flash.specs.Geometry.{original_count, slot_count, letter}
use Rattle.flash.specs.Chip.{mark_at, is_full}
use Rattle.flash.proofs.Blocks.{full_at}
use Rattle.flash.proofs.Bools.{bool_cases, bool_eq}
use Rattle.flash.proofs.Bounds.{product_le}
use Rattle.split.specs.inner.Mask.{is_marked}
use Rattle.method.specs.Move.{Move, Plan, move_of, AcceptedMove}
use Rattle.method.specs.Read.{Term, stored, filler, full_of, term_at, read_slots, read_terms}
use Rattle.method.specs.inner.Shape.{Shape}
use Rattle.method.proofs.basics.EachNumber.{Each}
use Rattle.method.proofs.basics.MoveShape.{term-other}
use Rattle.method.proofs.walks.ReadsOriginals.{reads}
use Rattle.method.proofs.walks.StoredPages.{Sited, Reads}
use Rattle.method.proofs.walks.Terms.{terms-kept, terms-dropped}
use Rattle.walk.specs.declared.moment.Moment.{Moment}
use Rattle.walk.specs.inner.Moments.{Tells, moment_in, HasMoment}
use Rattle.walk.specs.inner.Slots.{StartsWith}
use Rattle.walk.specs.inner.Terms.{plan_by, AddsUp, only_filler, drops_plain, last_left}
use Rattle.walk.proofs.GatherLaws.{count-is}
use Rattle.walk.proofs.MomentLaws.{tells}
use Rattle.walk.proofs.TermLaws.{Stands, stands-none, stands-filler, last_of, before_last, taken-all, stands-taken, last-few, Long, adds-up}
use Rattle.walk.proofs.TermLaws.{long-filler, long-slots}

-- a slot less a block is the number of a page
pub room_of : (Z : Sizes) → Z.n ≤ 64 → Z.m ≤ 64 → slot_count Z ≤ 4096 + Z.m
room_of Z h l = omega (arith, add-mul Z.n 1 Z.m, product_le Z.n Z.m {c = 64} {d = 64} h l)

which : (t : Bool) → (let x : ℕ = cond t 2 0 in (x ≡ 0) ⊎ (x ≡ 2))
which true = inr refl
which false = inl refl

module _ (Z : Sizes) (list sets drops : List ℕ) (A : AcceptedMove (move_of Z list sets)) (marks : List ℕ) (is_backward : Bool) (low high : ℕ)
    (S : Shape Z marks low high (cond is_backward 2 0)) where
  open Z use {n, m}

  abbrev M : Move
  M = move_of Z list sets

  abbrev X : Plan
  X = plan_by Z list sets drops

  abbrev plain : ℕ
  plain = (moment_in is_backward n low high).plain

  pub told : Tells M marks (moment_in is_backward n low high)
  told = tells M A marks is_backward low high S

  pub read_by : (k : ℕ) → k < original_count Z → Reads M marks n (read_slots M marks k) k
  read_by k h = reads M A marks low high k h (cond is_backward 2 0) (which is_backward) S

  -- a slot of a full block is marked s where its block is plain
  marked-plain : (t : ℕ) → Sited Z marks t → eqb (mark_at marks t) (letter Z 0) ≡ leb (plain * m) t
  unfolding full_of
  marked-plain t s =
      let m-low = A.ranges.m-low in
      let b : ℕ = t / m in
      let b-in : b ≤ n = omega (arith, (div-lt_iff_lt-mul {x = t} m-low).1 s.inside) in
      let marked : (i : ℕ) → is_full m marks b (letter Z i) ≡ true → mark_at marks t ≡ letter Z i = λ i full.
      ap (mark_at marks) (sym (div-add-mod' t m)) ∙ full_at m marks b (letter Z i) (t % m) full (mod-lt t m-low) in
      bool_eq (eqb (mark_at marks t) (letter Z 0)) (leb (plain * m) t)
      (λ e.
      let full : is_full m marks b (letter Z 0) ≡ true =
      ap (is_full m marks b) (sym (eqb-true (mark_at marks t) (letter Z 0) e) ∙ marked s.index s.full) ∙ s.full in
      le-leb (plain * m) t ((le-div_iff_mul-le m-low).0 (leb-true plain b (sym (told.plain-is b b-in) ∙ full))))
      (λ e. eq-eqb (mark_at marks t) (letter Z 0) (marked 0 (told.plain-is b b-in ∙ le-leb plain b ((le-div_iff_mul-le m-low).1 (leb-true (plain * m) t e)))))

  pub term_is : (t : ℕ) → Sited Z marks t → term_at X marks t ≡ cond (drops_plain m plain drops t) filler (stored t)
  unfolding term_at
  term_is t s = rw (marked-plain t s)

  module _ (k : ℕ) (k-in : k < original_count Z) where
    abbrev ts : List ℕ
    ts = read_slots M marks k

    abbrev R : Reads M marks n ts k
    R = read_by k k-in

    -- the slots of k stand in an array, from the one at `from` on
    pub read-stands : (slots : List ℕ) (from count : ℕ) → from < count → count ≤ length slots → drop from (take count slots) ≡ ts
        → (let r = last_left m plain drops slots count in Stands (map (term_at X marks) ts) (drop from (take r.count slots)) r.filler)
    unfolding letter
    read-stands slots from count low high is =
        let before : List ℕ = before_last slots from count low high in
        let last : ℕ = last_of slots from count low high in
        let all : ts ≡ before ++ (last ∷ []) = sym is ∙ taken-all slots from count low high in
        let size = length-append before (last ∷ []) in
        let first : Each (λ t. term_at X marks t ≡ stored t) before = λ i h.
        let mark : mark_at marks (get_or before i 0) ≡ letter Z 1 =
        ap (mark_at marks) (sym (List·getD-append before (last ∷ []) 0 i h) ∙ ap (λ (xs : List ℕ). get_or xs i 0) (sym all)) ∙ R.coded-first i (omega (arith, ap length all)) in
        term-other X marks (get_or before i 0) (λ e. absurd (omega (arith, mark, e))) in
        let last-in : Sited Z marks (get_or ts (length before) 0) = R.sited (length before) (omega (arith, ap length all)) in
        let last-is : get_or ts (length before) 0 ≡ last = ap (λ (xs : List ℕ). get_or xs (length before) 0) all ∙ get_or_at before last [] 0 (length before) refl in
        rw (← is) (stands-taken slots from count low high (term_at X marks) (drops_plain m plain drops last) first (term_is last (rw last-is at last-in)))

    pub long_kept : Long Z (map (term_at X marks) ts)
    long_kept = long-slots X marks ts R.some (λ i h. (R.sited i h).inside)

    pub long-read : Long Z (read_terms X marks k)
    long-read = ⊎_elim
        (λ (e : is_marked drops k ≡ true). rw (terms-dropped X marks k e) (long-filler Z))
        (λ (e : is_marked drops k ≡ false). rw (terms-kept X marks k e) long_kept)
        (bool_cases (is_marked drops k))

    pub read_dropped : (slots : List ℕ) → is_marked drops k ≡ true → AddsUp Z (read_terms X marks k) slots only_filler
    read_dropped slots e = rw (terms-dropped X marks k e) (adds-up Z (filler ∷ []) slots _ (omega arith) (stands-filler stands-none) (long-filler Z))

    pub read_kept : (before slots : List ℕ) (count : ℕ) → is_marked drops k ≡ false → StartsWith before 1 ts slots count
        → AddsUp Z (read_terms X marks k) slots (last_left m plain drops slots count)
    read_kept before slots count e G =
        let size = count-is before ts slots count G in
        let high : count ≤ length slots = omega (arith, G.few, G.room) in
        let few = last-few (drops_plain m plain drops (get_or slots (count - 1) 0)) count in
        rw (terms-kept X marks k e)
        (adds-up Z (map (term_at X marks) ts) slots (last_left m plain drops slots count) (omega (arith, few.1))
        (read-stands slots 0 count (omega (arith, R.some)) high G.slots-are) long_kept)

-- the same by a moment
module _ (Z : Sizes) (list sets drops : List ℕ) (A : AcceptedMove (move_of Z list sets)) (marks : List ℕ) (moment : Moment) (H : HasMoment Z marks moment) where
  pub moment-told : Tells (move_of Z list sets) marks moment
  moment-told =
      subst (Tells (move_of Z list sets) marks) (sym H.is) (told Z list sets drops A marks H.is_backward H.low H.high H.shape)

  pub plain_in : (1 ≤ moment.plain) × (moment.plain ≤ Z.n + 1)
  plain_in =
      let S = H.shape in
      rw H.is
      (⊎_elim
      (λ (t : H.is_backward ≡ true). rw t (omega arith, omega arith))
      (λ (t : H.is_backward ≡ false). rw t (H.some, omega (arith, S.near, S.inside)))
      (bool_cases H.is_backward))

  module _ (k : ℕ) (k-in : k < original_count Z) (slots : List ℕ) where
    abbrev terms : List Term
    terms = read_terms (plan_by Z list sets drops) marks k

    pub moment-reads : Reads (move_of Z list sets) marks Z.n (read_slots (move_of Z list sets) marks k) k
    moment-reads = read_by Z list sets drops A marks H.is_backward H.low H.high H.shape k k-in

    pub moment-dropped : is_marked drops k ≡ true → AddsUp Z terms slots only_filler
    moment-dropped = read_dropped Z list sets drops A marks H.is_backward H.low H.high H.shape k k-in slots

    pub moment-kept : (before : List ℕ) (count : ℕ) → is_marked drops k ≡ false → StartsWith before 1 (read_slots (move_of Z list sets) marks k) slots count
        → AddsUp Z terms slots (last_left Z.m moment.plain drops slots count)
    moment-kept before count e G =
        subst (λ (t : Moment). AddsUp Z terms slots (last_left Z.m t.plain drops slots count)) (sym H.is)
        (read_kept Z list sets drops A marks H.is_backward H.low H.high H.shape k k-in before slots count e G)
