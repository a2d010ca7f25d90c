-- A pin before a drop: which answers of run and read are other ones for it, and that none of rebuild is.
use Rattle.flash.proofs.Kit.{◌≡◌, ◌≢◌, refl, sym, ap, ◌∙◌, ⊎_elim, Bool, true, false, cond, ◌&&◌, ◌||◌, not, none, some, List, [], ◌∷◌, ℕ, ◌≤◌, arith, eqb, leb, length, get_or, ne_eqb}
use Rattle.flash.specs.Tables.{Row, refusal}
use Rattle.flash.specs.Geometry.{in_range, original_count, slot_count}
use Rattle.flash.specs.Chip.{Chip}
use Rattle.flash.proofs.Bools.{bool_cases, both, fails, never_both}
use Rattle.flash.proofs.Comparisons.{eqb_swap}
use Rattle.flash.proofs.Ranges.{any-range-find}
use Rattle.flash.proofs.Searches.{any_of}
use Rattle.flash.proofs.Tables.{refusal-hit, refusal-miss}
use Rattle.split.specs.OneToOne.{dropped, bad_list, is_one_to_one}
use Rattle.split.specs.Drops.{is_dropped}
use Rattle.split.specs.Split.{is_split}
use Rattle.split.specs.Pins.{is_pinned, moves_pinned}
use Rattle.split.specs.Request.{Request, bad_request}
use Rattle.split.specs.PinFirst.{drops_pinned, moves_pinned_kept, rows_once}
use Rattle.split.proofs.Answers.{small}
use Rattle.split.proofs.DropLaws.{one-to-one-undropped}
use Rattle.split.proofs.PinLaws.{same_test, drops-moved}
use Rattle.method.specs.Move.{move}
use Rattle.method.specs.Mend.{reading}
use Rattle.method.specs.Answers.{bad_chip, bad_parts, fits_none, move_rows, run_rows, run_answer, read_rows, read_answer}
use Rattle.method.specs.Rebuild.{bad_areas, rebuild_rows, RebuildAnswer, rebuilt, rebuild_refused, rebuild_answer, whole_move}
use Rattle.method.specs.PinFirst.{run_answer_once, read_answer_once, rebuild_answer_once, first_to11, first_to3, PinFirst}
use Rattle.method.proofs.basics.AcceptedCalls.{parts-ok}

module _ (R : Request) (chip : Chip) (work : List ℕ) where
  open R use {sizes as Z, list, pins}

  -- ---- no page is both: the rows that run and read share are those of old
  rows_same : (rest : List (Row ℕ)) → drops_pinned R ≡ false → rows_once R rest ≡ rest → rows_once R (move_rows R chip work rest) ≡ move_rows R chip work rest
  unfolding rows_once move_rows
  rows_same rest neither same =
      ap (λ (t : Bool). shared t (rows_once R rest)) (same_test R neither) ∙ ap (λ (rows : List (Row ℕ)). shared (moves_pinned pins list) rows) same
    where
      shared : Bool → List (Row ℕ) → List (Row ℕ)
      shared t rows =
          record { fits = not (in_range Z); gives = 1 } ∷ record { fits = bad_parts R chip work; gives = 2 }
          ∷ record { fits = bad_list (original_count Z) list; gives = 3 } ∷ record { fits = t; gives = 11 }
          ∷ record { fits = not (is_split Z.n Z.m (move R).list R.sets); gives = 4 } ∷ rows

  -- ---- a page is both
  given : first_to11 R chip work ≢ 0
  unfolding first_to11
  given = some (not (in_range Z)) (bad_parts R chip work) (bad_list (original_count Z) list)
    where
      some : (one two three : Bool) → ◌≢◌ {A = ℕ} (cond one 1 (cond two 2 (cond three 3 11))) 0
      some true two three e = absurd (omega (arith, e))
      some false true three e = absurd (omega (arith, e))
      some false false true e = absurd (omega (arith, e))
      some false false false e = absurd (omega (arith, e))

  number_is : (rest : List (Row ℕ)) → drops_pinned R ≡ true → refusal (move_rows R chip work rest) ≡ first_to11 R chip work
  unfolding move_rows first_to11
  number_is rest both-are = ⊎_elim
      (λ (ranged : in_range Z ≡ true). ⊎_elim
      (λ (bad : bad_parts R chip work ≡ true). refusal-miss _ _ (ap not ranged) ∙ refusal-hit _ _ bad ∙ rw (ranged, bad))
      (λ (parts : bad_parts R chip work ≡ false).
      let short : length list ≤ 4096 = omega (arith, (parts-ok R chip work parts).0, small Z ranged) in
      refusal-miss _ _ (ap not ranged) ∙ refusal-miss _ _ parts ∙ rw (ranged, parts) (listed short))
      (bool_cases (bad_parts R chip work)))
      (λ (out : in_range Z ≡ false). refusal-hit _ _ (ap not out) ∙ rw out)
      (bool_cases (in_range Z))
    where
      listed : length list ≤ 4096
          → refusal (record { fits = bad_list (original_count Z) list; gives = 3 } ∷ record { fits = moves_pinned pins list; gives = 11 }
          ∷ record { fits = not (is_split Z.n Z.m (move R).list R.sets); gives = 4 } ∷ rest)
          ≡ cond (bad_list (original_count Z) list) 3 11
      listed short = ⊎_elim
          (λ (bad : bad_list (original_count Z) list ≡ true). refusal-hit _ _ bad ∙ rw bad)
          (λ (good : bad_list (original_count Z) list ≡ false). refusal-miss _ _ good ∙ refusal-hit _ _ (drops-moved R short both-are) ∙ rw good)
          (bool_cases (bad_list (original_count Z) list))

-- ---- rebuild: a list that drops a page is refused before its pins are looked at
module _ (R : Request) (chip : Chip) (area flags : List ℕ) (bad : ℕ) where
  open R use {sizes as Z, list, pins}

  abbrev bad_lengths : Bool
  bad_lengths = bad_request R || bad_chip Z chip || bad_areas Z area flags

  abbrev rows : (pinned : Bool) → List (Row ℕ)
  rows pinned =
      record { fits = not (in_range Z); gives = 1 } ∷ record { fits = bad_lengths; gives = 2 }
      ∷ record { fits = not (is_one_to_one (original_count Z) list); gives = 3 } ∷ record { fits = pinned; gives = 11 }
      ∷ record { fits = not (is_split Z.n Z.m list R.sets); gives = 4 } ∷ record { fits = fits_none (reading Z chip.marks); gives = 6 }
      ∷ record { fits = leb (slot_count Z) bad; gives = 7 } ∷ []

  not-one-to-one : in_range Z ≡ true → drops_pinned R ≡ true → is_one_to_one (original_count Z) list ≡ false
  unfolding drops_pinned is_dropped
  not-one-to-one ranged both-are = fails (λ one.
      let f = any-range-find (λ k. is_pinned pins k && eqb (get_or list k 0) dropped) 0 (length list) both-are in
      let entry = (both (is_pinned pins f.0) (eqb (get_or list f.0 0) dropped) f.3).1 in
      never_both (any_of (eqb dropped) list f.0 0 (omega (arith, f.2)) (eqb_swap dropped (get_or list f.0 0) ∙ entry))
      (one-to-one-undropped (original_count Z) list (omega (arith, small Z ranged)) one))

  number-to-3 : drops_pinned R ≡ true → (pinned : Bool) → refusal (rows pinned) ≡ first_to3 R chip area flags
  unfolding first_to3
  number-to-3 both-are pinned = ⊎_elim
      (λ (ranged : in_range Z ≡ true). ⊎_elim
      (λ (wrong : bad_lengths ≡ true). refusal-miss _ _ (ap not ranged) ∙ refusal-hit _ _ wrong ∙ rw (ranged, wrong))
      (λ (right : bad_lengths ≡ false).
      refusal-miss _ _ (ap not ranged) ∙ refusal-miss _ _ right ∙ refusal-hit _ _ (ap not (not-one-to-one ranged both-are)) ∙ rw (ranged, right))
      (bool_cases bad_lengths))
      (λ (out : in_range Z ≡ false). refusal-hit _ _ (ap not out) ∙ rw out)
      (bool_cases (in_range Z))

  given-to-3 : first_to3 R chip area flags ≢ 0
  unfolding first_to3
  given-to-3 = some (not (in_range Z)) bad_lengths
    where
      some : (one two : Bool) → ◌≢◌ {A = ℕ} (cond one 1 (cond two 2 3)) 0
      some true two e = absurd (omega (arith, e))
      some false true e = absurd (omega (arith, e))
      some false false e = absurd (omega (arith, e))

  rebuild-number : refusal (rebuild_rows R chip area flags bad) ≡ refusal (rows_once R (rebuild_rows R chip area flags bad))
  unfolding rows_once rebuild_rows
  rebuild-number = ⊎_elim
      (λ (both-are : drops_pinned R ≡ true). number-to-3 both-are (moves_pinned pins list) ∙ sym (number-to-3 both-are (moves_pinned_kept pins list)))
      (λ (neither : drops_pinned R ≡ false). ap (λ (t : Bool). refusal (rows t)) (sym (same_test R neither)))
      (bool_cases (drops_pinned R))

  -- what is answered once the number is known
  abbrev answer : (number : ℕ) → RebuildAnswer
  answer number =
      let refused = rebuild_refused number area flags in
      cond (eqb number 0) (elim (reading Z chip.marks) [ none ↦ refused | some found ↦ rebuilt (whole_move R) chip found bad ]) refused

  as-once : rebuild_answer R chip area flags bad ≡ rebuild_answer_once R chip area flags bad
  unfolding rebuild_answer rebuild_answer_once
  as-once = ap answer rebuild-number

  rebuild-to-3 : drops_pinned R ≡ true → refusal (rebuild_rows R chip area flags bad) ≡ first_to3 R chip area flags
  unfolding rebuild_rows
  rebuild-to-3 both-are = number-to-3 both-are (moves_pinned pins list)

pub pin-first : PinFirst
unfolding run_answer run_answer_once run_rows read_answer read_answer_once read_rows rows_once rebuild_answer
pin-first = record {
  run-as-once = λ R chip work wear place budget limit neither. rw (rows_same R chip work _ neither refl);
  run-refused = λ R chip work wear place budget limit both-are. rw (number_is R chip work _ both-are, ne_eqb _ 0 (given R chip work));
  read-as-once = λ R chip work k neither. rw (rows_same R chip work _ neither refl);
  read-refused = λ R chip work k both-are. rw (number_is R chip work _ both-are, ne_eqb _ 0 (given R chip work));
  rebuild-as-once = as-once;
  rebuild-refused = λ R chip area flags bad both-are. rw (rebuild-to-3 R chip area flags bad both-are, ne_eqb _ 0 (given-to-3 R chip area flags bad));
}
