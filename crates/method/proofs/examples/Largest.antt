-- The calls on the longest list of one page a block, of P7. It drops nothing: the completed list is not computed anew at each look.
use Rattle.flash.proofs.Kit.{◌≡◌, refl, ◌∙◌, false, cond, not, List, [], ◌∷◌, ℕ, eqb, length, replicate}
use Rattle.flash.specs.Lists.{range, any}
use Rattle.flash.specs.Tables.{Row, refusal}
use Rattle.flash.specs.Geometry.{in_range}
use Rattle.flash.specs.Wear.{counter_end, unworn}
use Rattle.flash.specs.Chip.{Chip}
use Rattle.flash.proofs.Tables.{refusal-skip, refusal-nil}
use Rattle.split.specs.OneToOne.{dropped, bad_list}
use Rattle.split.specs.Split.{is_split}
use Rattle.split.specs.Pins.{moves_pinned}
use Rattle.split.specs.Request.{Request, unpinned}
use Rattle.split.specs.Rule.{split_by_rule}
use Rattle.split.specs.Answer.{split_rows, SplitAnswer, split_answer}
use Rattle.split.proofs.DropLaws.{undropped-completed}
use Rattle.method.specs.Move.{plan}
use Rattle.method.specs.Read.{stored_slots, read_terms, read_page}
use Rattle.method.specs.Mend.{seen, reading}
use Rattle.method.specs.Worn.{is_worn_out}
use Rattle.method.specs.Answers.{bad_parts, fits_none, is_elsewhere, move_rows, run_rows, read_rows, steps_taken, run_carried_out, read_gives, read_answer}
use Rattle.method.specs.Cases.{sizes, junk, counts, runs, ran, small, resting}
use Rattle.method.proofs.basics.Open.{all-open}
use Rattle.method.proofs.states.RunsAddUp.{run-answer}

abbrev entries : List ℕ
entries = range 0 64

abbrev asked : Request
asked = small 64 entries

undropped : any (eqb dropped) entries ≡ false
unfolding all-open
undropped = refl

-- ---- split
listed : ◌≡◌ {A = SplitAnswer}
    (record {
      number = refusal (split_rows (unpinned (sizes 64 1) entries (junk 64)));
      sets = cond (eqb (refusal (split_rows (unpinned (sizes 64 1) entries (junk 64)))) 0) (split_by_rule 64 1 entries) (junk 64);
    })
    (record { number = 0; sets = replicate 64 0 })
unfolding all-open
listed = refl

pub largest-split : split_answer (unpinned (sizes 64 1) entries (junk 64)) ≡ record { number = 0; sets = replicate 64 0 }
unfolding split_answer
largest-split = rw (undropped-completed entries undropped) listed

-- ---- the rows that run and read share
ranged : not (in_range (sizes 64 1)) ≡ false
unfolding all-open
ranged = refl

parts : bad_parts asked (resting 64) (junk 1) ≡ false
unfolding all-open
parts = refl

good : bad_list 64 entries ≡ false
unfolding all-open
good = refl

stays : moves_pinned (replicate 64 0) entries ≡ false
unfolding all-open
stays = refl

is-split : not (is_split 64 1 entries (replicate 64 0)) ≡ false
unfolding all-open
is-split = refl

moves : (rest : List (Row ℕ)) → refusal rest ≡ 0 → refusal (move_rows asked (resting 64) (junk 1) rest) ≡ 0
unfolding move_rows
moves rest e =
    refusal-skip _ _ ranged (refusal-skip _ _ parts (refusal-skip _ _ good (refusal-skip _ _ stays
    (refusal-skip _ _ (rw (undropped-completed entries undropped) is-split) e))))

-- ---- run
lasts : is_worn_out 64 unworn 0 counter_end ≡ false
unfolding all-open
lasts = refl

here : is_elsewhere (sizes 64 1) (resting 64) 0 ≡ false
unfolding all-open
here = refl

run-taken : refusal (run_rows asked (resting 64) (junk 1) unworn 0 counter_end) ≡ 0
unfolding run_rows
run-taken = moves _ (refusal-skip _ _ here (refusal-skip _ [] lasts refusal-nil))

no_steps : run_carried_out (plan asked) (resting 64) (junk 1) unworn 0 (steps_taken (sizes 64 1) 0 0) ≡ ran 0 (counts 0 0 0 0 0) 0 (resting 64) (junk 1) []
unfolding all-open
no_steps = refl

pub largest-run : runs asked (resting 64) (junk 1) 0 0 ≡ ran 0 (counts 0 0 0 0 0) 0 (resting 64) (junk 1) []
largest-run = run-answer asked (resting 64) (junk 1) unworn 0 0 counter_end run-taken ∙ no_steps

-- ---- read
fits : fits_none (reading (sizes 64 1) (resting 64).marks) ≡ false
unfolding all-open
fits = refl

read_taken : refusal (read_rows asked (resting 64) (junk 1) 63) ≡ 0
unfolding read_rows
read_taken = moves _ (refusal-skip _ _ fits (refusal-skip _ [] refl refusal-nil))

abbrev view : Chip
view = record { store = (resting 64).store; marks = seen (resting 64).marks }

one-page : read_gives (length (stored_slots (read_terms (plan asked) view.marks 63))) (read_page (plan asked) view 63) ≡ record { number = 0; count = 1; bytes = 1; work = 64 ∷ [] }
unfolding all-open
one-page = refl

pub largest-read : read_answer asked (resting 64) (junk 1) 63 ≡ record { number = 0; count = 1; bytes = 1; work = 64 ∷ [] }
unfolding read_answer
largest-read = rw read_taken one-page
