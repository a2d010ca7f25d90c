-- What a rebuild that is not refused was given, and what it answers for each original.
use Rattle.flash.proofs.Kit.{◌≡◌, refl, ap, ◌∙◌, ⊎_elim, true, false, ◌||◌, not, Option, none, some, List, ℕ, ◌≤◌, ◌<◌, zero-add, arith, eqb}
use Rattle.flash.proofs.Kit.{eqb-true, length, get_or, leb-false, not-false}
use Rattle.flash.specs.Lists.{range, any, part, concat_map}
use Rattle.flash.specs.Tables.{refusal}
use Rattle.flash.specs.Geometry.{in_range, original_count, slot_count, store_len, marks_len}
use Rattle.flash.specs.PageSum.{sum}
use Rattle.flash.specs.Chip.{Chip, page_at}
use Rattle.flash.proofs.Bools.{bool_cases, never_both, or-false-left, or-false-right}
use Rattle.flash.proofs.Bounds.{in-range, slot-in-store, product_le}
use Rattle.flash.proofs.Chips.{page-is}
use Rattle.flash.proofs.Parts.{length_part}
use Rattle.flash.proofs.Sums.{length-sum}
use Rattle.flash.proofs.Tables.{refusal-zero, refusal-skip, refusal-nil}
use Rattle.split.specs.OneToOne.{dropped, is_one_to_one}
use Rattle.split.specs.Request.{Request, bad_request}
use Rattle.split.proofs.Answers.{lengths-are}
use Rattle.split.specs.Answer.{split_rows, split_answer}
use Rattle.split.proofs.DropLaws.{undropped-bad, one-to-one-undropped}
use Rattle.method.specs.Move.{Move, AcceptedMove}
use Rattle.method.specs.Read.{read_slots}
use Rattle.method.specs.Mend.{Reading, seen, reading}
use Rattle.method.specs.Answers.{bad_chip, marks_answer, fits_none}
use Rattle.method.specs.Rebuild.{apart, rebuilt_from, rebuilt_page, rebuilt_flag, bad_areas, rebuild_rows, rebuilt, rebuild_answer, whole_move}
use Rattle.method.specs.Unreadable.{flag_of}
use Rattle.method.proofs.basics.Indexes.{map-range-at}
use Rattle.method.proofs.basics.MoveShape.{filler-length}
use Rattle.method.proofs.basics.EachNumber.{Each}
use Rattle.method.proofs.recovery.MarksSeen.{slots-seen}
use Rattle.method.proofs.places.PlaceShape.{letter_above, which-pass}
use Rattle.method.proofs.recovery.FittingMarks.{shaped}
use Rattle.method.proofs.states.StatesOfPlaces.{page-of}
use Rattle.method.proofs.walks.StoredPages.{Reads}
use Rattle.method.proofs.walks.ReadsOriginals.{reads}
use Rattle.method.proofs.rebuild.Lists.{has}
use Rattle.method.proofs.rebuild.BlockFilled.{JustFilled, just-filled}
use Rattle.method.proofs.rebuild.OtherSum.{zero_of, other-some, other-inside}

pub record RebuildTaken (R : Request) (chip : Chip) (area flags : List ℕ) (bad : ℕ) : Type 0 where
  pub accepted : AcceptedMove (whole_move R)
  pub store_length : length chip.store ≡ store_len R.sizes
  pub marks-length : length chip.marks ≡ marks_len R.sizes
  pub inside : bad < slot_count R.sizes
  pub undropped : any (eqb dropped) R.list ≡ false
  pub list-accepted : (split_answer R).number ≡ 0
  pub found : Reading
  pub told : reading R.sizes chip.marks ≡ some found
  pub answer : rebuild_answer R chip area flags bad ≡ rebuilt (whole_move R) chip found bad

module _ (R : Request) (chip : Chip) (area flags : List ℕ) (bad : ℕ) where
  open R use {sizes as Z}

  abbrev number : ℕ
  number = refusal (rebuild_rows R chip area flags bad)

  number-zero : (rebuild_answer R chip area flags bad).number ≡ 0 → number ≡ 0
  unfolding rebuild_answer
  number-zero e = ⊎_elim
      (λ (q : eqb number 0 ≡ true). eqb-true number 0 q)
      (λ (q : eqb number 0 ≡ false). rw q at e)
      (bool_cases (eqb number 0))

  rows_taken : number ≡ 0 → RebuildTaken R chip area flags bad
  unfolding rebuild_rows bad_chip rebuild_answer fits_none marks_answer split_answer split_rows
  rows_taken e =
      let one = refusal-zero _ _ (omega arith) e in
      let two = refusal-zero _ _ (omega arith) one.1 in
      let three = refusal-zero _ _ (omega arith) two.1 in
      let eleven = refusal-zero _ _ (omega arith) three.1 in
      let four = refusal-zero _ _ (omega arith) eleven.1 in
      let six = refusal-zero _ _ (omega arith) four.1 in
      let seven = refusal-zero _ _ (omega arith) six.1 in
      let c = not (eqb (length chip.store) (store_len Z)) in
      let d = not (eqb (length chip.marks) (marks_len Z)) in
      let front = or-false-left (bad_request R || (c || d)) (bad_areas Z area flags) two.0 in
      let l = lengths-are R (or-false-left (bad_request R) (c || d) front) in
      let cd = or-false-right (bad_request R) (c || d) front in
      let B = in-range Z (not-false (in_range Z) one.0) in
      let one-one : is_one_to_one (original_count Z) R.list ≡ true = not-false _ three.0 in
      let few = product_le Z.n Z.m {c = 64} {d = 64} B.n-high B.m-high in
      go (reading Z chip.marks) refl six.0
      (record { ranges = B; list_length = l.0; sets-length = l.2; one-to-one = one-one; split = not-false _ four.0 })
      (eqb-true _ _ (not-false _ (or-false-left c d cd)), eqb-true _ _ (not-false _ (or-false-right c d cd)))
      (leb-false (slot_count Z) bad seven.0)
      (one-to-one-undropped (original_count Z) R.list (omega arith) one-one)
      (refusal-skip _ _ one.0 (refusal-skip _ _ (or-false-left (bad_request R) (c || d) front)
      (refusal-skip _ _ (undropped-bad R.list (one-to-one-undropped (original_count Z) R.list (omega arith) one-one) (original_count Z) ∙ three.0) (refusal-skip _ _ eleven.0 refusal-nil))))
    where
      go : (told : Option Reading) → reading Z chip.marks ≡ told → fits_none (reading Z chip.marks) ≡ false → AcceptedMove (whole_move R)
          → (length chip.store ≡ store_len Z) × (length chip.marks ≡ marks_len Z) → bad < slot_count Z → any (eqb dropped) R.list ≡ false → (split_answer R).number ≡ 0
          → RebuildTaken R chip area flags bad
      go none t f A l b u w = absurd (never_both (ap fits_none t) f)
      go (some found) t f A l b u w = record {
        accepted = A;
        store_length = l.0;
        marks-length = l.1;
        inside = b;
        undropped = u;
        list-accepted = w;
        found = found;
        told = t;
        answer = rw (e, t);
      }

  pub rebuild-taken : (rebuild_answer R chip area flags bad).number ≡ 0 → RebuildTaken R chip area flags bad
  rebuild-taken e = rows_taken (number-zero e)

-- ---- for each original
module _ (M : Move) (A : AcceptedMove M) (marks : List ℕ) (found : Reading) (told : reading M.sizes marks ≡ some found) (bad : ℕ) where
  open M.sizes use {n, m, p as P}

  -- by read's sum, by the other, or not at all
  pub data FromCases (k : ℕ) (k-in : k < original_count M.sizes) : Type 0 where
    by-own : has bad (read_slots M marks k) ≡ false → rebuilt_from M (seen marks) found bad k ≡ some (read_slots M marks k) → FromCases k k-in
    by-other : has bad (read_slots M marks k) ≡ true → (J : JustFilled M.sizes marks found.place) → has bad (zero_of M A marks found.place J k k-in) ≡ true
        → rebuilt_from M (seen marks) found bad k ≡ some (apart (read_slots M marks k) (zero_of M A marks found.place J k k-in)) → FromCases k k-in
    lost-torn : has bad (read_slots M marks k) ≡ true → (block : ℕ) → found.to_erase ≡ some block → rebuilt_from M (seen marks) found bad k ≡ none → FromCases k k-in
    lost-full : has bad (read_slots M marks k) ≡ true → (J : JustFilled M.sizes marks found.place) → has bad (zero_of M A marks found.place J k k-in) ≡ false
        → rebuilt_from M (seen marks) found bad k ≡ none → FromCases k k-in

  pub from-cases : (k : ℕ) (k-in : k < original_count M.sizes) → FromCases k k-in
  unfolding rebuilt_from
  from-cases k k-in = ⊎_elim
      (λ (q : has bad (read_slots M marks k) ≡ true). go q found.to_erase refl)
      (λ (q : has bad (read_slots M marks k) ≡ false). by-own q (rw (slots-seen marks M k, q)))
      (bool_cases (has bad (read_slots M marks k)))
    where
      full : has bad (read_slots M marks k) ≡ true → found.to_erase ≡ none → (J : JustFilled M.sizes marks found.place) → FromCases k k-in
      full q t J = ⊎_elim
          (λ (r : has bad (zero_of M A marks found.place J k k-in) ≡ true).
          by-other q J r (rw (slots-seen marks M k, q, t, J.stands.pass-is, J.stands.block-is, r, slots-seen marks M k)))
          (λ (r : has bad (zero_of M A marks found.place J k k-in) ≡ false).
          lost-full q J r (rw (slots-seen marks M k, q, t, J.stands.pass-is, J.stands.block-is, r)))
          (bool_cases (has bad (zero_of M A marks found.place J k k-in)))

      go : has bad (read_slots M marks k) ≡ true → (torn : Option ℕ) → found.to_erase ≡ torn → FromCases k k-in
      go q none t = full q t (just-filled M.sizes A.ranges marks found told t)
      go q (some block) t = lost-torn q block t (rw (slots-seen marks M k, q, t))

  pub reads_now : (k : ℕ) → k < original_count M.sizes → Reads M marks n (read_slots M marks k) k
  reads_now k h =
      let T = shaped M.sizes A.ranges.m-low marks found told in
      reads M A marks T.low T.high k h (letter_above T.pass) (which-pass T.pass) T.shape

  -- the page that is left has P bytes
  module _ (chip : Chip) (size : length chip.store ≡ store_len M.sizes) where
    pub page-length : (t : ℕ) → t < slot_count M.sizes → length (page_at P chip t) ≡ P
    page-length t h = ap length (page-is P chip t) ∙ length_part P t chip.store (rw size (slot-in-store M.sizes t h))

    sum-length : (slots : List ℕ) → Each (λ t. t < slot_count M.sizes) slots → 1 ≤ length slots → length (sum (page_at P chip) slots) ≡ P
    sum-length slots inside one = length-sum (page_at P chip) P slots (λ i l. page-length (get_or slots i 0) (inside i l)) one

    pub rebuilt-length : (k : ℕ) → k < original_count M.sizes → length (rebuilt_page P chip (rebuilt_from M (seen marks) found bad k)) ≡ P
    unfolding rebuilt_page
    rebuilt-length k k-in = go (from-cases k k-in)
      where
        go : FromCases k k-in → length (rebuilt_page P chip (rebuilt_from M (seen marks) found bad k)) ≡ P
        go (by-own q e) = (let r = reads_now k k-in in rw e (sum-length (read_slots M marks k) (λ i l. (r.sited i l).inside) r.some))
        go (by-other q J z e) =
            rw e (sum-length (apart (read_slots M marks k) (zero_of M A marks found.place J k k-in)) (other-inside M A marks found.place J k k-in) (other-some M A marks found.place J k k-in))
        go (lost-torn q b t e) = rw e (filler-length P)
        go (lost-full q J z e) = rw e (filler-length P)

    pub area-part : (k : ℕ) → k < original_count M.sizes
        → part P k (concat_map (λ k. rebuilt_page P chip (rebuilt_from M (seen marks) found bad k)) (range 0 (original_count M.sizes))) ≡ rebuilt_page P chip (rebuilt_from M (seen marks) found bad k)
    area-part k h =
        page-of P (λ k. rebuilt_page P chip (rebuilt_from M (seen marks) found bad k)) 0 (original_count M.sizes) k (λ t a b. rebuilt-length t (omega arith)) h
        ∙ ap (λ (j : ℕ). rebuilt_page P chip (rebuilt_from M (seen marks) found bad j)) (zero-add k)

pub flag_is : (M : Move) (chip : Chip) (found : Reading) (bad k : ℕ) → k < original_count M.sizes
    → flag_of (rebuilt M chip found bad) k ≡ rebuilt_flag (rebuilt_from M (seen chip.marks) found bad k)
unfolding rebuilt
flag_is M chip found bad k h =
    map-range-at (λ j. rebuilt_flag (rebuilt_from M (seen chip.marks) found bad j)) 0 (original_count M.sizes) k 255 h
    ∙ ap (λ (j : ℕ). rebuilt_flag (rebuilt_from M (seen chip.marks) found bad j)) (zero-add k)
