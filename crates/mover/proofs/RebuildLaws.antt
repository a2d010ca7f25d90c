-- The answer of rebuild, case by case, and what a rebuild is given that its first rows do not refuse.
use Rattle.flash.proofs.Kit.{◌≡◌, refl, sym, ◌∙◌, ◌≢◌, Bool, true, false, cond, ◌&&◌, ◌||◌, not, some, List, ℕ, ◌≤◌, ◌<◌, arith, eqb, leb, length, eqb-true, ne_eqb}
use Rattle.flash.proofs.Kit.{le-leb, lt-leb, not-false}
use Rattle.flash.specs.Tables.{refusal}
use Rattle.flash.proofs.Tables.{refusal-nil}
use Rattle.flash.proofs.Bools.{or-false-left, or-false-right}
use Rattle.flash.proofs.Bounds.{in-range}
use Rattle.flash.specs.declared.sizes.Sizes.{Sizes}
use Rattle.flash.specs.Geometry.{in_range, original_count, slot_count, store_len, marks_len}
use Rattle.flash.specs.Chip.{Chip}
use Rattle.split.specs.OneToOne.{is_one_to_one}
use Rattle.split.specs.Split.{is_split}
use Rattle.split.specs.Pins.{moves_pinned}
use Rattle.split.specs.Request.{Request, bad_request}
use Rattle.method.proofs.basics.AcceptedCalls.{lengths-are}
use Rattle.method.specs.Move.{AcceptedMove}
use Rattle.method.specs.Mend.{Reading, reading}
use Rattle.method.specs.Answers.{bad_chip, fits_none}
use Rattle.method.specs.Rebuild.{bad_areas, area_length, flags_length, rebuild_rows, rebuilt, rebuild_answer, rebuild_refused, whole_move}
use Rattle.mover.specs.inner.Refusals.{kept_number, rebuild_number}
use Rattle.mover.proofs.RefusalLaws.{row_first}

then-rows : (a b good moved split : Bool) (rest : ℕ)
    → (let found : ℕ = cond good (cond split 0 4) 3 in let number : ℕ = cond a 1 (cond b 2 (cond (not (eqb found 3) && moved) 11 found)) in
    cond a 1 (cond b 2 (cond (not good) 3 (cond moved 11 (cond (not split) 4 rest)))) ≡ cond (eqb number 0) rest number)
then-rows true b good moved split rest = refl
then-rows false true good moved split rest = refl
then-rows false false false moved split rest = refl
then-rows false false true true true rest = refl
then-rows false false true true false rest = refl
then-rows false false true false true rest = refl
then-rows false false true false false rest = refl

module _ (R : Request) (chip : Chip) (area flags : List ℕ) where
  open R.sizes use {n, m}

  abbrev Z : Sizes
  Z = R.sizes

  abbrev number : ℕ
  number = rebuild_number R chip area flags

  module _ (bad : ℕ) where
    abbrev later : ℕ
    later = cond (fits_none (reading Z chip.marks)) 6 (cond (leb (slot_count Z) bad) 7 0)

    by_rows : refusal (rebuild_rows R chip area flags bad) ≡ cond (eqb number 0) later number
    unfolding rebuild_rows rebuild_number kept_number
    by_rows =
        rw (row_first, row_first, row_first, row_first, row_first, row_first, row_first, refusal-nil)
        (then-rows (not (in_range Z)) (bad_request R || bad_chip Z chip || bad_areas Z area flags) (is_one_to_one (original_count Z) R.list) (moves_pinned R.pins R.list)
        (is_split n m R.list R.sets) later)

    refused-answer : (x : ℕ) → x ≢ 0 → refusal (rebuild_rows R chip area flags bad) ≡ x → rebuild_refused x area flags ≡ rebuild_answer R chip area flags bad
    unfolding rebuild_answer
    refused-answer x ne e = rw (e, ne_eqb x 0 ne)

    pub refused-first : (x : ℕ) → x ≡ number → x ≢ 0 → rebuild_refused x area flags ≡ rebuild_answer R chip area flags bad
    refused-first x e ne = refused-answer x ne (by_rows ∙ rw (← e, ne_eqb x 0 ne))

    module _ (passed : 0 ≡ number) where
      pub refused-6 : fits_none (reading Z chip.marks) ≡ true → rebuild_refused 6 area flags ≡ rebuild_answer R chip area flags bad
      refused-6 f = refused-answer 6 (λ z. absurd (omega arith)) (by_rows ∙ rw (← passed, f))

      pub refused-7 : fits_none (reading Z chip.marks) ≡ false → slot_count Z ≤ bad → rebuild_refused 7 area flags ≡ rebuild_answer R chip area flags bad
      refused-7 f h = refused-answer 7 (λ z. absurd (omega arith)) (by_rows ∙ rw (← passed, f, le-leb (slot_count Z) bad h))

      pub carried-out : (found : Reading) → reading Z chip.marks ≡ some found → fits_none (reading Z chip.marks) ≡ false → bad < slot_count Z
          → rebuilt (whole_move R) chip found bad ≡ rebuild_answer R chip area flags bad
      unfolding rebuild_answer
      carried-out found t f h = sym (rw (by_rows, ← passed, f, lt-leb (slot_count Z) bad h, t))

  -- ---- past the first rows
  pub record Passed : Type 0 where
    pub accepted : AcceptedMove (whole_move R)
    pub store_length : length chip.store ≡ store_len Z
    pub marks-length : length chip.marks ≡ marks_len Z
    pub area-length : length area ≡ area_length Z
    pub flags-length : length flags ≡ flags_length Z

  cases : (a b good moved split : Bool)
      → (let found : ℕ = cond good (cond split 0 4) 3 in ◌≡◌ {A = ℕ} 0 (cond a 1 (cond b 2 (cond (not (eqb found 3) && moved) 11 found))))
      → (a ≡ false) × (b ≡ false) × (good ≡ true) × (split ≡ true)
  cases true b good moved split e = absurd (omega arith)
  cases false true good moved split e = absurd (omega arith)
  cases false false false moved split e = absurd (omega arith)
  cases false false true true true e = absurd (omega arith)
  cases false false true true false e = absurd (omega arith)
  cases false false true false true e = (refl, refl, refl, refl)
  cases false false true false false e = absurd (omega arith)

  pub past_first : 0 ≡ number → Passed
  unfolding rebuild_number kept_number bad_chip bad_areas
  past_first e =
      let c = not (eqb (length chip.store) (store_len Z)) in
      let d = not (eqb (length chip.marks) (marks_len Z)) in
      let f = not (eqb (length area) (area_length Z)) in
      let g = not (eqb (length flags) (flags_length Z)) in
      let r = cases (not (in_range Z)) (bad_request R || (c || d) || (f || g)) (is_one_to_one (original_count Z) R.list) (moves_pinned R.pins R.list) (is_split n m R.list R.sets) e in
      let front = or-false-left (bad_request R || (c || d)) (f || g) r.1 in
      let l = lengths-are R (or-false-left (bad_request R) (c || d) front) in
      let cd = or-false-right (bad_request R) (c || d) front in
      let fg = or-false-right (bad_request R || (c || d)) (f || g) r.1 in
      record {
        accepted = record {
          ranges = in-range Z (not-false (in_range Z) r.0);
          list_length = l.0;
          sets-length = l.2;
          one-to-one = r.2;
          split = r.3;
        };
        store_length = eqb-true _ _ (not-false _ (or-false-left c d cd));
        marks-length = eqb-true _ _ (not-false _ (or-false-right c d cd));
        area-length = eqb-true _ _ (not-false _ (or-false-left f g fg));
        flags-length = eqb-true _ _ (not-false _ (or-false-right f g fg));
      }
