-- The answer of read, case by case, and what the marks tell it: the moment.
use Rattle.flash.proofs.Kit.{◌≡◌, ◌∙◌, Bool, true, false, cond, List, [], ℕ, ◌+◌, ◌≤◌, ◌<◌, arith, eqb, leb, length, ne_eqb}
use Rattle.flash.proofs.Kit.{le-leb, lt-leb}
use Rattle.std.specs.Prelude.{Ok, Err}
use Rattle.flash.specs.Tables.{refusal}
use Rattle.flash.specs.Refusals.{number_of}
use Rattle.flash.specs.declared.refusal.Refusal.{Refusal}
use Rattle.flash.specs.declared.refusal.Refusal.TheVariants.{BadMarks, BadOriginal}
use Rattle.flash.proofs.Tables.{refusal-nil}
use Rattle.flash.specs.declared.sizes.Sizes.{Sizes}
use Rattle.flash.specs.Geometry.{original_count}
use Rattle.flash.specs.PageSum.{written_bytes}
use Rattle.flash.specs.Chip.{Chip}
use Rattle.split.specs.Request.{Request}
use Rattle.method.specs.Move.{plan}
use Rattle.method.specs.Mend.{reading}
use Rattle.method.specs.Read.{stored_slots, read_terms, read_page}
use Rattle.method.specs.Answers.{marks_answer, fits_none, move_rows, read_rows, read_answer}
use Rattle.method.proofs.recovery.MarksSeen.{terms-seen, page-seen}
use Rattle.recovery.specs.declared.marks.MarksRead.{MarksRead}
use Rattle.recovery.specs.declared.marks.MarksRead.TheVariants.{NoMoment, Full, Torn}
use Rattle.recovery.specs.MarksRead.{answer_of}
use Rattle.recovery.specs.inner.Gathered.{Shown}
use Rattle.walk.specs.declared.moment.Moment.{Moment}
use Rattle.walk.specs.inner.Moments.{moment_in, HasMoment}
use Rattle.mover.specs.Answers.{read_as}
use Rattle.mover.proofs.RefusalLaws.{not-0, row_first, by_move, past-move}

module _ (R : Request) (chip : Chip) (work : List ℕ) (k : ℕ) where
  -- what a refused read comes to; it leaves the work page
  abbrev Refused : Refusal → Type 0
  Refused r = read_as (Err r) work ≡ read_answer R chip work k

  refused-answer : (r : Refusal) → refusal (read_rows R chip work k) ≡ number_of r → Refused r
  unfolding read_answer
  refused-answer r e = rw (e, ne_eqb (number_of r) 0 (not-0 r))

  -- rows 1 to 4 decide
  pub refused-by-move : (r : Refusal) → number_of r ≡ refusal (move_rows R chip work []) → Refused r
  unfolding read_rows
  refused-by-move r e = refused-answer r (by_move R chip work _ (number_of r) e (not-0 r))

  -- and else rows 6 and 7
  module _ (e : 0 ≡ refusal (move_rows R chip work [])) where
    by-rest : refusal (read_rows R chip work k) ≡ cond (fits_none (reading R.sizes chip.marks)) 6 (cond (leb (original_count R.sizes) k) 7 0)
    unfolding read_rows
    by-rest = past-move R chip work _ e ∙ rw (row_first, row_first, refusal-nil)

    pub refused-6 : fits_none (reading R.sizes chip.marks) ≡ true → Refused BadMarks
    refused-6 f = refused-answer BadMarks (by-rest ∙ rw f)

    pub refused-7 : fits_none (reading R.sizes chip.marks) ≡ false → original_count R.sizes ≤ k → Refused BadOriginal
    refused-7 f g = refused-answer BadOriginal (by-rest ∙ rw (f, le-leb _ _ g))

    pub rebuilt : (count bytes : ℕ) (after : List ℕ) → fits_none (reading R.sizes chip.marks) ≡ false → k < original_count R.sizes
        → count ≡ length (stored_slots (read_terms (plan R) chip.marks k)) → after ≡ read_page (plan R) chip k → bytes ≡ written_bytes after
        → read_as (Ok (record { count = count; bytes = bytes })) after ≡ read_answer R chip work k
    unfolding read_answer
    rebuilt count bytes after f g h i j = rw (by-rest, f, lt-leb _ _ g, terms-seen (plan R) chip.marks k, page-seen (plan R) chip k, h, j, i)

-- ---- what the marks tell
module _ (Z : Sizes) (marks : List ℕ) (told : MarksRead) (answer : answer_of Z told ≡ marks_answer (reading Z marks)) where
  fits : fits_none (reading Z marks) ≡ eqb (answer_of Z told).number 6
  unfolding fits_none
  fits = rw answer

  pub none-fits : told ≡ NoMoment → fits_none (reading Z marks) ≡ true
  unfolding answer_of
  none-fits e = fits ∙ rw e

  -- what reading at this moment comes to
  pub record Readable (moment : Moment) : Type 0 where
    pub fits_one : fits_none (reading Z marks) ≡ false
    pub has-moment : HasMoment Z marks moment

  module _ (shown : Shown Z marks told) (is_backward : Bool) (moment : Moment) where
    pub full : (change : ℕ) → told ≡ Full is_backward change → moment ≡ moment_in is_backward Z.n change change → Readable moment
    unfolding answer_of
    full change e is =
        let S = rw e at shown in
        record { fits_one = fits ∙ rw e; has-moment = record { is_backward = is_backward; low = change; high = change; shape = S.1; is = is; some = S.0 } }

    pub torn : (block : ℕ) → told ≡ Torn is_backward block → moment ≡ moment_in is_backward Z.n block (block + 1) → Readable moment
    unfolding answer_of
    torn block e is =
        record { fits_one = fits ∙ rw e; has-moment = record { is_backward = is_backward; low = block; high = block + 1; shape = rw e at shown; is = is; some = omega arith } }
