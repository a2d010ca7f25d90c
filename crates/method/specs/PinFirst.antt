-- Rule 1.18: which answers of run and read are other ones since a pin is looked at before a drop, and that none of rebuild is. Those of the split call are
-- in crate split.
use Rattle.std.specs.Prelude.{◌≡◌, true, false, cond, ◌||◌, not, List, ℕ, eqb, length}
use Rattle.std.proofs.Math.Option.{none, some}
use Rattle.flash.specs.Tables.{refusal}
use Rattle.flash.specs.Geometry.{in_range, original_count}
use Rattle.flash.specs.Chip.{Chip}
use Rattle.flash.specs.declared.wear.Wear.{Wear}
use Rattle.split.specs.OneToOne.{bad_list}
use Rattle.split.specs.Request.{Request, bad_request}
use Rattle.split.specs.PinFirst.{drops_pinned, rows_once}
use Rattle.method.specs.Move.{plan}
use Rattle.method.specs.Read.{read_terms, stored_slots, read_page}
use Rattle.method.specs.Mend.{seen, reading}
use Rattle.method.specs.Answers.{bad_chip, bad_parts, run_rows, RunAnswer, steps_taken, run_carried_out, run_refused, run_answer}
use Rattle.method.specs.Answers.{read_rows, ReadAnswer, read_gives, read_refused, read_answer}
use Rattle.method.specs.Rebuild.{bad_areas, rebuild_rows, RebuildAnswer, rebuilt, rebuild_refused, rebuild_answer, whole_move}

-- what run, read and rebuild answered while row 11 passed over a pinned page that is dropped
unfoldable pub run_answer_once : Request → Chip → (work : List ℕ) → Wear → (place budget limit : ℕ) → RunAnswer
run_answer_once R chip work wear place budget limit =
    let number = refusal (rows_once R (run_rows R chip work wear place limit)) in
    cond (eqb number 0) (run_carried_out (plan R) chip work wear place (steps_taken R.sizes place budget)) (run_refused number chip work wear)

unfoldable pub read_answer_once : Request → Chip → (work : List ℕ) → (k : ℕ) → ReadAnswer
read_answer_once R chip work k =
    let number = refusal (rows_once R (read_rows R chip work k)) in
    let view : Chip = record { store = chip.store; marks = seen chip.marks } in
    cond (eqb number 0) (read_gives (length (stored_slots (read_terms (plan R) view.marks k))) (read_page (plan R) view k)) (read_refused number work)

unfoldable pub rebuild_answer_once : Request → Chip → (area flags : List ℕ) → (bad : ℕ) → RebuildAnswer
rebuild_answer_once R chip area flags bad =
    let number = refusal (rows_once R (rebuild_rows R chip area flags bad)) in
    let refused = rebuild_refused number area flags in
    cond (eqb number 0) (elim (reading R.sizes chip.marks) [ none ↦ refused | some found ↦ rebuilt (whole_move R) chip found bad ]) refused

-- the first of 1, 2, 3 and 11 that fits, where the last does
unfoldable pub first_to11 : Request → Chip → (work : List ℕ) → ℕ
first_to11 R chip work =
    cond (not (in_range R.sizes)) 1 (cond (bad_parts R chip work) 2 (cond (bad_list (original_count R.sizes) R.list) 3 11))

-- the first of 1, 2 and 3, where a page is dropped: rebuild knows no entry of 65535
unfoldable pub first_to3 : Request → Chip → (area flags : List ℕ) → ℕ
first_to3 R chip area flags =
    cond (not (in_range R.sizes)) 1 (cond (bad_request R || bad_chip R.sizes chip || bad_areas R.sizes area flags) 2 3)

-- A list with no page both pinned and dropped is answered as it was; one with such a page is refused.
pub record PinFirst : Type 0 where
  pub run-as-once : (R : Request) (chip : Chip) (work : List ℕ) (wear : Wear) (place budget limit : ℕ)
      → drops_pinned R ≡ false → run_answer R chip work wear place budget limit ≡ run_answer_once R chip work wear place budget limit
  pub run-refused : (R : Request) (chip : Chip) (work : List ℕ) (wear : Wear) (place budget limit : ℕ)
      → drops_pinned R ≡ true → run_answer R chip work wear place budget limit ≡ run_refused (first_to11 R chip work) chip work wear
  pub read-as-once : (R : Request) (chip : Chip) (work : List ℕ) (k : ℕ)
      → drops_pinned R ≡ false → read_answer R chip work k ≡ read_answer_once R chip work k
  pub read-refused : (R : Request) (chip : Chip) (work : List ℕ) (k : ℕ)
      → drops_pinned R ≡ true → read_answer R chip work k ≡ read_refused (first_to11 R chip work) work
  -- rebuild refused such a list before it came to the pins, and answers every call as it did
  pub rebuild-as-once : (R : Request) (chip : Chip) (area flags : List ℕ) (bad : ℕ)
      → rebuild_answer R chip area flags bad ≡ rebuild_answer_once R chip area flags bad
  pub rebuild-refused : (R : Request) (chip : Chip) (area flags : List ℕ) (bad : ℕ)
      → drops_pinned R ≡ true → rebuild_answer R chip area flags bad ≡ rebuild_refused (first_to3 R chip area flags) area flags
