-- An original that is lost: a store of zeros, and one with ones where read needs the slot, lead to the same pages.
use Rattle.flash.proofs.Kit.{◌≡◌, refl, sym, ap, ap₂, ◌∙◌, subst, ⊎_elim, ◌≢◌, Bool, true, false, ◌&&◌, some, List, [], ◌∷◌, ℕ, suc, ◌+◌, ◌-◌, ◌/◌, ◌%◌, ◌≤◌, ◌<◌}
use Rattle.flash.proofs.Kit.{arith, eqb, eqb-true, eq-eqb, length, get_or, get_or-replicate, replicate, length-replicate, ext_get_or, not-suc-le-zero}
use Rattle.flash.specs.declared.sizes.Sizes.{Sizes}
use Rattle.flash.specs.Geometry.{slot, slot_of, original_count, slot_count, letter}
use Rattle.flash.specs.PageSum.{◌⊕◌, sum}
use Rattle.flash.specs.Chip.{Chip, page_at, is_full, is_unfinished}
use Rattle.flash.proofs.Bools.{bool_cases, never_both}
use Rattle.flash.proofs.Bounds.{slot-in-marks}
use Rattle.flash.proofs.Comparisons.{eq-cases}
use Rattle.flash.proofs.Sums.{sum_one}
use Rattle.split.specs.Split.{set_of}
use Rattle.split.specs.Request.{Request}
use Rattle.method.specs.Move.{Move, AcceptedMove}
use Rattle.method.specs.Place.{marks_of}
use Rattle.method.specs.Read.{read_slots}
use Rattle.method.specs.Step.{originals_of}
use Rattle.method.specs.Mend.{seen}
use Rattle.method.specs.Runs.{Start}
use Rattle.method.specs.Rebuild.{set_page, zero_slots, rebuilt_from, rebuilt_flag, RebuildAnswer, whole_move}
use Rattle.method.specs.Unreadable.{flag_of, Unseen, LostExactly}
use Rattle.method.specs.inner.Shape.{Shape}
use Rattle.method.proofs.basics.EachNumber.{Each}
use Rattle.method.proofs.basics.Indexes.{clash}
use Rattle.method.proofs.cycles.SetCycles.{set-in}
use Rattle.method.proofs.places.PlaceShape.{letter_above}
use Rattle.method.proofs.states.RunsAddUp.{start-page}
use Rattle.method.proofs.rebuild.Lists.{has, either, mix}
use Rattle.method.proofs.rebuild.BlockFilled.{JustFilled, block-torn, filled-there, marks_begun}
use Rattle.method.proofs.rebuild.FullReads.{full-reads}
use Rattle.method.proofs.rebuild.LastPages.{page-set, rest-apart, not_last}
use Rattle.method.proofs.rebuild.OtherSum.{has-each, zero_of, rest-inside}
use Rattle.method.proofs.rebuild.SameShape.{slots_same}
use Rattle.method.proofs.rebuild.Taken.{RebuildTaken, rebuild-taken, FromCases, by-own, by-other, lost-torn, lost-full, from-cases, flag_is}
use Rattle.method.proofs.rebuild.Units.{bit_page, bit-add}
use Rattle.method.proofs.rebuild.UnitStores.{in_blocks, ButOne, but-torn, but_last, unit_value, unit_store, unit-starts, value_in, is-value, unit_pages, unit-shows, unit_size, zeros-at}
use Rattle.method.proofs.rebuild.ZeroSum.{L, last_slot, last_originals, rest, rest-bytes}
use Rattle.method.proofs.rebuild.Lost.{mend-place, seen-lost}

-- ---- pages of zeros
bit-apart : (P : ℕ) → 1 ≤ P → bit_page P false ≢ bit_page P true
unfolding bit_page
bit-apart P h e = clash (sym (get_or-replicate P 0 0 7 h) ∙ ap (λ (p : List ℕ). get_or p 0 7) e ∙ get_or-replicate P 0 1 7 h)

sum-false : (P : ℕ) (value : ℕ → List ℕ) (j : ℕ) (js : List ℕ) → Each (λ i. value i ≡ bit_page P false) (j ∷ js) → sum value (j ∷ js) ≡ bit_page P false
unfolding sum either
sum-false P value j [] each = sum_one value j ∙ each 0 (omega arith)
sum-false P value j (i ∷ js) each =
    ap₂ ◌⊕◌ (each 0 (omega arith)) (sum-false P value i js (λ x h. each (suc x) (omega arith))) ∙ bit-add P false false

mix-zeros : (g : ℕ → ℕ) (ts : List ℕ) → Each (λ t. g t ≡ 0) ts → mix g ts ≡ 0
unfolding mix
mix-zeros g [] each = refl
mix-zeros g (t ∷ ts) each = rw (each 0 (omega arith), mix-zeros g ts (λ i h. each (suc i) (omega arith)))

module _ (R : Request) (chip : Chip) (area flags : List ℕ) (bad : ℕ) (T : RebuildTaken R chip area flags bad) (k : ℕ) (k-in : k < original_count R.sizes) where
  open R.sizes use {n, m, p as P}

  abbrev Z : Sizes
  Z = R.sizes

  abbrev M : Move
  M = whole_move R

  abbrev A : AcceptedMove M
  A = T.accepted

  abbrev place : ℕ
  place = T.found.place

  abbrev nowhere : ℕ → Bool
  nowhere q = false

  abbrev here : ℕ → Bool
  here q = eqb q (set_of M.sets k)

  -- ---- the two stores: of zeros, and of ones where the set of the original is
  module _ (O : ButOne R chip area flags bad T) (q : has bad (read_slots M O.begun k) ≡ true) where
    abbrev store : (test : ℕ → Bool) → Chip
    store = unit_store R chip area flags bad T O bad

    starts : (test : ℕ → Bool) → Start R (store test)
    starts = unit-starts R chip area flags bad T O bad

    abbrev page : (test : ℕ → Bool) (t : ℕ) → List ℕ
    page = unit_pages R chip area flags bad T O bad

    first-page : (test : ℕ → Bool) → page_at P (store test) (slot_of m k) ≡ unit_value R chip area flags bad T O bad test k
    first-page test = sym (start-page R (store test) (starts test) k) ∙ is-value R chip area flags bad T O bad test k k-in

    differs : page_at P (store nowhere) (slot_of m k) ≢ page_at P (store here) (slot_of m k)
    differs e =
        let bit : (eqb (set_of M.sets k) (set_of M.sets k) && has bad (read_slots M O.begun k)) ≡ true = rw (eq-eqb (set_of M.sets k) (set_of M.sets k) refl, q) in
        bit-apart P A.ranges.p-low (sym (first-page nowhere) ∙ e ∙ first-page here ∙ ap (bit_page P) bit)

    unseen-by : ((t : ℕ) → t < slot_count Z → t ≢ bad → is_unfinished m chip.marks (t / m) ≡ false → t / m ≡ O.low → page nowhere t ≡ page here t)
        → Unseen R chip.marks place bad k
    unseen-by special = record {
      one = store nowhere;
      other = store here;
      one-starts = starts nowhere;
      other-starts = starts here;
      differ = differs;
      same = λ t h ne finished. ⊎_elim
          (λ (e : t / m ≡ O.low). special t h ne finished e)
          (λ (off : t / m ≢ O.low). zeros-at R chip area flags bad T O bad nowhere t h off ne ∙ sym (zeros-at R chip area flags bad T O bad here t h off ne))
          (eq-cases (t / m) O.low);
    }

  -- ---- a block is torn
  open_block : (b i : ℕ) → Shape Z chip.marks b (suc b) i → is_unfinished m chip.marks b ≡ true
  unfolding is_unfinished letter
  open_block b i S =
      let s-in = A.ranges.s-high in
      let no : (x : ℕ) → x < 3 → is_full m chip.marks b x ≡ false = λ x h.
      let is : (Z.s + (x + 3 - Z.s)) % 3 ≡ x = omega arith in
      subst (λ (y : ℕ). is_full m chip.marks b y ≡ false) is (S.between b (omega arith) (omega arith) (x + 3 - Z.s)) in
      rw (no 0 (omega arith), no 1 (omega arith), no 2 (omega arith))

  torn-unseen : (block : ℕ) → T.found.to_erase ≡ some block → has bad (read_slots M chip.marks k) ≡ true → Unseen R chip.marks place bad k
  torn-unseen block t q =
      let B = block-torn Z A.ranges chip.marks T.found T.told block t in
      let same = slots_same M A block (suc block) (letter_above B.pass) chip.marks (marks_of Z place) B.shape B.begun.shape k k-in in
      unseen-by (but-torn R chip area flags bad T block B) (ap (has bad) (sym same) ∙ q)
      (λ u h ne finished e. absurd (never_both (open_block block (letter_above B.pass) B.shape) (ap (is_unfinished m chip.marks) (sym e) ∙ finished)))

  -- ---- no block is
  module _ (J : JustFilled Z chip.marks place) where
    abbrev J' : JustFilled Z (marks_of Z place) place
    J' = filled-there Z chip.marks place J

    abbrev O : ButOne R chip area flags bad T
    O = but_last R chip area flags bad T J

    module _ (test : ℕ → Bool) (off : (set : ℕ) (set-ok : set < m) → test set ≡ true → has bad (rest M A (marks_of Z place) place J' set set-ok) ≡ false) where
      abbrev pages : (t : ℕ) → List ℕ
      pages = unit_pages R chip area flags bad T O bad test

      abbrev values : (j : ℕ) → List ℕ
      values = value_in R chip area flags bad T O bad test

      -- the page of a set that passes is the sum of pages of zeros
      passed : (set : ℕ) (set-ok : set < m) → test set ≡ true → pages (last_slot M A (marks_of Z place) place J' set set-ok) ≡ bit_page P false
      unfolding bit_page
      passed set set-ok passes =
          let t : ℕ = last_slot M A (marks_of Z place) place J' set set-ok in
          let t-in = slot-in-marks Z J.block (set_page M J.pass J.block set) J.begun.shape.inside (L M A (marks_of Z place) place J' set set-ok).page-in in
          let size = unit_size R chip area flags bad T O bad test t t-in in
          ext_get_or 0 (pages t) (replicate P 0) (size ∙ sym (length-replicate P 0))
          (λ i h.
          sym (rest-bytes M A (marks_of Z place) place J' set set-ok values pages (unit-shows R chip area flags bad T O bad test) i)
          ∙ mix-zeros (λ u. get_or (pages u) i 0) (rest M A (marks_of Z place) place J' set set-ok)
          (has-each (λ u. get_or (pages u) i 0 ≡ 0) (rest M A (marks_of Z place) place J' set set-ok) (λ u e.
          ap (λ (p : List ℕ). get_or p i 0)
          (zeros-at R chip area flags bad T O bad test u (rest-inside M A (marks_of Z place) place J' set set-ok u e)
          (rest-apart M A (marks_of Z place) place J' set set-ok u e)
          (λ s. never_both e (ap (λ (w : ℕ). has w (rest M A (marks_of Z place) place J' set set-ok)) s ∙ off set set-ok passes)))
          ∙ get_or-replicate P i 0 0 (omega (arith, size))))
          ∙ sym (get_or-replicate P i 0 0 (omega (arith, size))))

      -- that of another holds originals of zeros
      others : (set : ℕ) (set-ok : set < m) → test set ≡ false → Each (λ j. set_of M.sets j ≡ set) (last_originals M A (marks_of Z place) place J' set set-ok)
          → pages (last_slot M A (marks_of Z place) place J' set set-ok) ≡ bit_page P false
      others set set-ok fails each =
          let written = L M A (marks_of Z place) place J' set set-ok in
          written.holds (marks_of Z place) values pages (unit-shows R chip area flags bad T O bad test) J'.full
          ∙ some-false (last_originals M A (marks_of Z place) place J' set set-ok) written.some
          (λ i h.
          let j : ℕ = get_or (last_originals M A (marks_of Z place) place J' set set-ok) i 0 in
          is-value R chip area flags bad T O bad test j (written.known i h)
          ∙ ap (λ (b : Bool). bit_page P (b && has bad (read_slots M O.begun j))) (ap test (each i h) ∙ fails))
        where
          some-false : (js : List ℕ) → 0 < length js → Each (λ i. values i ≡ bit_page P false) js → sum values js ≡ bit_page P false
          some-false [] h each = absurd (not-suc-le-zero h)
          some-false (j ∷ js) h each = sum-false P values j js each

      last-zeros : (t : ℕ) → t < slot_count Z → t / m ≡ J.block → pages t ≡ bit_page P false
      last-zeros t h e =
          let b = in_blocks R chip area flags bad T t h in
          let Q = page-set M A J.pass J.block (t % m) J.low J.high b.1 in
          let at : last_slot M A (marks_of Z place) place J' Q.set Q.set-ok ≡ t = ap (slot m J.block) Q.page-is ∙ ap (λ (x : ℕ). slot m x (t % m)) (sym e) ∙ b.2 in
          ap pages (sym at)
          ∙ ⊎_elim
          (λ (x : test Q.set ≡ true). passed Q.set Q.set-ok x)
          (λ (x : test Q.set ≡ false).
          others Q.set Q.set-ok x (subst (λ (q : ℕ). Each (λ j. set_of M.sets j ≡ Q.set) (originals_of M J.pass J.block q)) (sym Q.page-is) Q.of-set))
          (bool_cases (test Q.set))

    full-unseen : has bad (read_slots M chip.marks k) ≡ true → ((set : ℕ) (set-ok : set < m) → set ≡ set_of M.sets k → (bad ≢ last_slot M A (marks_of Z place) place J' set set-ok) × (has bad (rest M A (marks_of Z place) place J' set set-ok) ≡ false))
        → Unseen R chip.marks place bad k
    full-unseen q out =
        let set-ok = set-in M A k k-in in
        let own : has bad (read_slots M O.begun k) ≡ true = ⊎_elim
        (λ (r : has bad (read_slots M O.begun k) ≡ true). r)
        (λ s. absurd ((out (set_of M.sets k) set-ok refl).0 s))
        (full-reads M A chip.marks place J k k-in bad q) in
        unseen-by O own
        (λ t h ne finished e.
        last-zeros (λ q. false) (λ set ok x. absurd (never_both x refl)) t h e
        ∙ sym (last-zeros (λ q. eqb q (set_of M.sets k)) (λ set ok x. (out set ok (eqb-true set (set_of M.sets k) x)).1) t h e))

  lost-unseen : FromCases M A chip.marks T.found T.told bad k k-in → rebuilt_flag (rebuilt_from M (seen chip.marks) T.found bad k) ≡ 0 → Unseen R chip.marks place bad k
  unfolding rebuilt_flag
  lost-unseen (by-own q f) e = absurd (clash (sym (rw f at e)))
  lost-unseen (by-other q J z f) e = absurd (clash (sym (rw f at e)))
  lost-unseen (lost-torn q b t f) e = torn-unseen b t q
  lost-unseen (lost-full q J z f) e =
      full-unseen J q (λ set ok s. out J z set ok s)
    where
      out : (J : JustFilled Z chip.marks place) → has bad (zero_of M A chip.marks place J k k-in) ≡ false → (set : ℕ) (set-ok : set < m) → set ≡ set_of M.sets k
          → (bad ≢ last_slot M A (marks_of Z place) place (J' J) set set-ok) × (has bad (rest M A (marks_of Z place) place (J' J) set set-ok) ≡ false)
      out J z set ok s =
          not_last M A (marks_of Z place) place (J' J) set ok bad
          (subst (λ (q : ℕ). has bad (zero_slots M (marks_begun M A chip.marks place J) J.pass J.block q) ≡ false) (sym s) z)

pub lost-exactly : LostExactly
lost-exactly = record {
  unseen = λ R chip area flags bad e wear k k-in f.
      let T = rebuild-taken R chip area flags bad e in
      subst (λ (p : ℕ). Unseen R chip.marks p bad k) (sym (mend-place R chip area flags bad T wear))
      (lost-unseen R chip area flags bad T k k-in (from-cases (whole_move R) T.accepted chip.marks T.found T.told bad k k-in)
      (sym (ap (λ (a : RebuildAnswer). flag_of a k) T.answer ∙ flag_is (whole_move R) chip T.found bad k k-in) ∙ f));
  lost = λ R chip area flags bad e wear k k-in U.
      let T = rebuild-taken R chip area flags bad e in
      seen-lost R chip area flags bad T k k-in (subst (λ (p : ℕ). Unseen R chip.marks p bad k) (mend-place R chip area flags bad T wear) U);
}
