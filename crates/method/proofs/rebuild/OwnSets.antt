-- The pages of read's sums and of the zero sums are of the set of their original, and of the block that was filled last only one is.
use Rattle.flash.proofs.Kit.{◌≡◌, refl, sym, ap, ap₂, ◌∙◌, subst, ⊎_elim, ◌≢◌, Bool, true, cond, ◌&&◌, Option, none, some, List, [], ◌∷◌, ℕ, suc, ◌/◌, ◌%◌, ◌≤◌, ◌<◌}
use Rattle.flash.proofs.Kit.{arith, eqb, eqb-true, eq-eqb, lt-ltb, le-ltb, length, get_or}
use Rattle.flash.specs.Lists.{all}
use Rattle.flash.specs.declared.sizes.Sizes.{Sizes}
use Rattle.flash.specs.Geometry.{slot, original_count, slot_count, letter}
use Rattle.flash.specs.Chip.{Chip, is_full}
use Rattle.flash.proofs.Bools.{never_both, and_left, and_both}
use Rattle.flash.proofs.Comparisons.{ne-lt}
use Rattle.flash.proofs.Searches.{all-at, all_of}
use Rattle.split.specs.Split.{set_of}
use Rattle.split.specs.Request.{Request}
use Rattle.method.specs.Move.{Move, AcceptedMove}
use Rattle.method.specs.Place.{Held, code, written, above, last_place, held_at, marks_of}
use Rattle.method.specs.Read.{read_slots}
use Rattle.method.specs.State.{held_originals}
use Rattle.method.specs.Step.{originals_of}
use Rattle.method.specs.Rebuild.{set_page, whole_move}
use Rattle.method.specs.Unreadable.{held_in, is_of_set}
use Rattle.method.proofs.basics.EachNumber.{each-one}
use Rattle.method.proofs.basics.Indexes.{slot-div, slot-mod}
use Rattle.method.proofs.cycles.SetCycles.{set-in}
use Rattle.method.proofs.places.PagesHeld.{HeldCases, coded, ended, resting, empty, held-cases, held_below, held-above, held-written}
use Rattle.method.proofs.places.PlaceShape.{letter_above, which-pass}
use Rattle.method.proofs.walks.StoredPages.{Reads}
use Rattle.method.proofs.walks.ReadsOriginals.{reads}
use Rattle.method.proofs.rebuild.Lists.{has, sum-byte}
use Rattle.method.proofs.rebuild.PageSets.{set_at, held_beside, Within, held-set}
use Rattle.method.proofs.rebuild.BlockFilled.{JustFilled, just-filled, block-torn}
use Rattle.method.proofs.rebuild.ZeroSum.{LastPage, L, last_originals, rest, zero_is}
use Rattle.method.proofs.rebuild.OtherSum.{EachHas, each-has, each-apart, each-added, zero_of}
use Rattle.method.proofs.rebuild.SameShape.{slots_same}
use Rattle.method.proofs.rebuild.FullReads.{full-reads}
use Rattle.method.proofs.rebuild.LastPages.{page-set}
use Rattle.method.proofs.rebuild.Taken.{RebuildTaken}
use Rattle.method.proofs.rebuild.UnitStores.{in_blocks, ButOne, but-torn, but_last, value_in, unit_pages, unit-shows, unit-sum}

module _ (R : Request) (chip : Chip) (area flags : List ℕ) (bad : ℕ) (T : RebuildTaken R chip area flags bad) where
  open R.sizes use {n, m, p as P}

  abbrev Z : Sizes
  Z = R.sizes

  abbrev M : Move
  M = whole_move R

  abbrev A : AcceptedMove M
  A = T.accepted

  abbrev place : ℕ
  place = T.found.place

  -- the set of a slot, by what its page holds at the place
  abbrev set_in : (t : ℕ) → ℕ
  set_in t = set_at M (held_at Z place (t / m) (t % m)) (t / m) (t % m)

  of-set : place ≤ last_place Z → (k t : ℕ) → t < slot_count Z → set_in t ≡ set_of M.sets k → is_of_set R place k t ≡ true
  unfolding is_of_set held_in
  of-set in-move k t h e =
      let b = in_blocks R chip area flags bad T t h in
      let each = held-set M A (held_at Z place (t / m) (t % m)) (t / m) (t % m) b.1 (within (t / m) (t % m) (held-cases Z place (t / m) (t % m) in-move b.0)) in
      all_of (λ j. eqb (set_of R.sets j) (set_of R.sets k)) _ 0 (λ i l. eq-eqb _ _ (each i l ∙ e))
    where
      within : (b q : ℕ) → HeldCases Z place b q → Within M (held_at Z place b q) b
      within b q (coded h e) = subst (λ (held : Held). Within M held b) (sym e) h
      within b q (ended h e) = subst (λ (held : Held). Within M held b) (sym e) tt
      within b q (resting f h e) = subst (λ (held : Held). Within M held b) (sym e) tt
      within b q (empty f h e) = subst (λ (held : Held). Within M held b) (sym e) tt

  -- ---- all blocks but one
  module _ (O : ButOne R chip area flags bad T) where
    beside : (b q : ℕ) → b ≢ O.low → held_at Z place b q ≡ held_beside O.pass O.low b
    beside b q ne = ⊎_elim
        (λ (h : b < O.low).
        held_below Z place b q (rw O.block-is h) ∙ sym (ap (λ (x : Bool). cond x code (above O.pass)) (lt-ltb b O.low h)))
        (λ (h : O.low < b).
        held-above Z place b q (rw O.block-is h) ∙ ap above O.pass-is
        ∙ sym (ap (λ (x : Bool). cond x code (above O.pass)) (le-ltb b O.low (omega arith))))
        (ne-lt b O.low ne)

    module _ (j : ℕ) (j-in : j < original_count Z) where
      reads-begun : Reads M O.begun n (read_slots M O.begun j) j
      reads-begun = reads M A O.begun O.low (suc O.low) j j-in (letter_above O.pass) (which-pass O.pass) O.shape

      reads-beside : EachHas (λ t. (t < slot_count Z) × (t / m ≢ O.low)) (read_slots M O.begun j)
      reads-beside = each-has (λ t. (t < slot_count Z) × (t / m ≢ O.low)) _ (λ i l.
          let s = reads-begun.sited i l in (
            s.inside,
            λ e. never_both (subst (λ (b : ℕ). is_full m O.begun b (letter Z s.index) ≡ true) e s.full) (O.shape.between O.low (omega arith) (omega arith) s.index),
          ))

      -- Ones for this slot in its own set alone: read gives one, so that its original is of that set.
      read_set : (t : ℕ) → has t (read_slots M O.begun j) ≡ true → set_in t ≡ set_of M.sets j
      read_set t e =
          let s : ℕ = set_at M (held_beside O.pass O.low (t / m)) (t / m) (t % m) in
          let test : ℕ → Bool = λ q. eqb q s in
          let pages : ℕ → List ℕ = unit_pages R chip area flags bad T O t test in
          let values : ℕ → List ℕ = value_in R chip area flags bad T O t test in
          let bits = unit-sum R chip area flags bad T O t test (read_slots M O.begun j) reads-begun.distinct reads-beside j j-in
          (sym (sum-byte pages 0 (read_slots M O.begun j))
          ∙ ap (λ (p : List ℕ). get_or p 0 0) (reads-begun.original values pages (O.shown values pages (unit-shows R chip area flags bad T O t test)))) in
          let yes : (eqb s s && has t (read_slots M O.begun j)) ≡ true = and_both _ _ (eq-eqb s s refl) e in
          ap (λ (held : Held). set_at M held (t / m) (t % m)) (beside (t / m) (t % m) (reads-beside t e).1)
          ∙ sym (eqb-true (set_of M.sets j) s (and_left _ _ (sym bits ∙ yes)))

      begun-of-set : (k : ℕ) → set_of M.sets j ≡ set_of M.sets k → EachHas (λ t. is_of_set R place k t ≡ true) (read_slots M O.begun j)
      begun-of-set k same t e = of-set O.in-move k t (reads-beside t e).0 (read_set t e ∙ same)

  -- ---- no block is unfinished
  module _ (J : JustFilled Z chip.marks place) (k : ℕ) (k-in : k < original_count Z) where
    abbrev O : ButOne R chip area flags bad T
    O = but_last R chip area flags bad T J

    abbrev set : ℕ
    set = set_of M.sets k

    set-ok : set < m
    set-ok = set-in M A k k-in

    abbrev pub last_of : ℕ
    last_of = slot m J.block (set_page M J.pass J.block set)

    written_last : LastPage M A set set-ok J.pass J.block
    written_last = L M A chip.marks place J set set-ok

    held-last : (t : ℕ) → t / m ≡ J.block → t % m < m → held_in R place t ≡ originals_of M J.pass J.block (t % m)
    unfolding held_in originals_of
    held-last t e k =
        ap (λ (b : ℕ). held_originals M (held_at Z place b (t % m)) b (t % m)) e
        ∙ ap (λ (held : Held). held_originals M held J.block (t % m))
        (held-written Z place J.block (t % m) (sym J.stands.block-is) (rw J.stands.pages-is k) ∙ ap written J.stands.pass-is)

    last_block : last_of / m ≡ J.block
    last_block = slot-div m J.block (set_page M J.pass J.block set) written_last.page-in

    last-page : last_of % m ≡ set_page M J.pass J.block set
    last-page = slot-mod m J.block (set_page M J.pass J.block set) written_last.page-in

    last-of-set : is_of_set R place k last_of ≡ true
    unfolding is_of_set
    last-of-set =
        let held : held_in R place last_of ≡ originals_of M J.pass J.block (set_page M J.pass J.block set) =
        held-last last_of last_block (rw last-page written_last.page-in) ∙ ap (originals_of M J.pass J.block) last-page in
        ap (all (λ j. eqb (set_of R.sets j) set)) held
        ∙ all_of (λ j. eqb (set_of R.sets j) set) _ 0 (λ i l. eq-eqb _ _ (written_last.of-set i l))

    -- the page of the set in that block is one alone
    pub only-last : (t : ℕ) → t < slot_count Z → t / m ≡ J.block → is_of_set R place k t ≡ true → t ≡ last_of
    unfolding is_of_set
    only-last t h e own =
        let b = in_blocks R chip area flags bad T t h in
        let Q = page-set M A J.pass J.block (t % m) J.low J.high b.1 in
        let js : List ℕ = originals_of M J.pass J.block (t % m) in
        let some : 0 < length js = subst (λ (q : ℕ). 0 < length (originals_of M J.pass J.block q)) Q.page-is (L M A chip.marks place J Q.set Q.set-ok).some in
        let all_own : all (λ j. eqb (set_of R.sets j) set) js ≡ true = ap (all (λ j. eqb (set_of R.sets j) set)) (sym (held-last t e b.1)) ∙ own in
        let same : Q.set ≡ set = sym (Q.of-set 0 some) ∙ eqb-true (set_of R.sets (get_or js 0 0)) set (all-at (λ j. eqb (set_of R.sets j) set) js 0 0 all_own some) in
        sym b.2 ∙ ap₂ (slot m) e (sym Q.page-is ∙ ap (set_page M J.pass J.block) same)

    pub zero-of-set : EachHas (λ t. is_of_set R place k t ≡ true) (zero_of M A chip.marks place J k k-in)
    zero-of-set =
        let Own : ℕ → Type 0 = λ t. is_of_set R place k t ≡ true in
        subst (EachHas Own) (sym (zero_is M A chip.marks place J set set-ok))
        (each-apart Own (last_of ∷ []) (rest M A chip.marks place J set set-ok)
        (each-has Own (last_of ∷ []) (each-one Own last_of last-of-set))
        (each-added Own (read_slots M O.begun) (last_originals M A chip.marks place J set set-ok)
        (λ i l. begun-of-set O _ (written_last.known i l) k (written_last.of-set i l))))

    full-of-set : EachHas (λ t. is_of_set R place k t ≡ true) (read_slots M chip.marks k)
    full-of-set t e = ⊎_elim
        (λ (f : has t (read_slots M O.begun k) ≡ true). begun-of-set O k k-in k refl t f)
        (λ (f : t ≡ last_of). ap (is_of_set R place k) f ∙ last-of-set)
        (full-reads M A chip.marks place J k k-in t e)

  pub read-of-set : (k : ℕ) → k < original_count Z → EachHas (λ t. is_of_set R place k t ≡ true) (read_slots M chip.marks k)
  read-of-set k k-in = go T.found.to_erase refl
    where
      go : (torn : Option ℕ) → T.found.to_erase ≡ torn → EachHas (λ t. is_of_set R place k t ≡ true) (read_slots M chip.marks k)
      go none t = full-of-set (just-filled Z A.ranges chip.marks T.found T.told t) k k-in
      go (some b) t =
          let B = block-torn Z A.ranges chip.marks T.found T.told b t in
          subst (EachHas (λ t. is_of_set R place k t ≡ true)) (sym (slots_same M A b (suc b) (letter_above B.pass) chip.marks (marks_of Z place) B.shape B.begun.shape k k-in))
          (begun-of-set (but-torn R chip area flags bad T b B) k k-in k refl)
