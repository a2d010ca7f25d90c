-- What the exports promise: every number and every lent byte is that of the call on the list that the bytes spell.
use Rattle.std.specs.Prelude.{cond, Result, Ok, Err, List, ℕ, eqb, length}
use Rattle.flash.specs.declared.sizes.Sizes.{Sizes}
use Rattle.flash.specs.Geometry.{in_range}
use Rattle.flash.specs.Chip.{Chip}
use Rattle.flash.specs.Wear.{refreshed}
use Rattle.flash.specs.Refusals.{number_of}
use Rattle.flash.specs.declared.refusal.Refusal.{Refusal}
use Rattle.split.specs.Request.{request_of}
use Rattle.split.specs.Answer.{SplitAnswer, split_answer}
use Rattle.method.specs.declared.tally.Tally.{Tally}
use Rattle.method.specs.Step.{nothing_done}
use Rattle.method.specs.Answers.{RunAnswer, run_refused, run_answer, MendAnswer, mend_answer, ReadAnswer, read_refused, read_answer}
use Rattle.method.specs.Rebuild.{RebuildAnswer, rebuild_refused, rebuild_answer}
use Rattle.recovery.specs.declared.mend.Mended.{Mended}
use Rattle.mover.specs.declared.run.Ran.{Ran}
use Rattle.c_api.specs.Bytes.{entries_of, is_odd}
use Rattle.c_api.specs.Wear.{wear_length, wear_of, wear_bytes}

-- an odd number of bytes is refused as a list of another length is, after sizes out of range
abbrev pub on_bytes : {A : Type 0} → Sizes → (refused : ℕ → A) → (answer : List ℕ → A) → (bytes : List ℕ) → A
on_bytes Z refused answer bytes = cond (is_odd bytes) (refused (cond (in_range Z) 2 1)) (answer (entries_of bytes))

unfoldable pub split_of_bytes : Sizes → (list pins sets : List ℕ) → SplitAnswer
split_of_bytes Z list pins sets =
    on_bytes Z (λ number. record { number = number; sets = sets }) (λ entries. split_answer (request_of Z entries pins sets)) list

-- what a run returns and leaves in the lent parts
pub record RunBytes : Type 0 where
  pub number : ℕ
  pub place : ℕ
  pub tally : Tally
  pub finished : ℕ
  pub chip : Chip
  pub work : List ℕ
  pub wear : List ℕ

-- the counters come back as bytes; a refused call leaves those that were lent
abbrev pub run_bytes : (lent : List ℕ) → RunAnswer → RunBytes
run_bytes lent ran = record {
  number = ran.number;
  place = ran.place;
  tally = ran.tally;
  finished = ran.finished;
  chip = ran.chip;
  work = ran.work;
  wear = cond (eqb ran.number 0) (wear_bytes ran.wear) lent;
}

-- the same, from what the code returns and leaves: a refusal gives its number, and 0 in every other one
abbrev pub ran_bytes : Result Ran Refusal → (store marks work wear : List ℕ) → RunBytes
ran_bytes (Ok ran) store marks work wear = record {
  number = 0;
  place = ran.place;
  tally = ran.tally;
  finished = cond ran.finished 1 0;
  chip = record { store = store; marks = marks };
  work = work;
  wear = wear;
}
ran_bytes (Err refusal) store marks work wear = record {
  number = number_of refusal;
  place = 0;
  tally = nothing_done;
  finished = 0;
  chip = record { store = store; marks = marks };
  work = work;
  wear = wear;
}

-- a record of another length is refused as a list of another length is
unfoldable pub run_of_bytes : Sizes → (list pins sets : List ℕ) → Chip → (work wear : List ℕ) → (place budget limit : ℕ) → RunBytes
run_of_bytes Z list pins sets chip work wear place budget limit =
    let refused : ℕ → RunAnswer = λ number. run_refused number chip work (wear_of wear) in
    let answer : List ℕ → RunAnswer = λ entries. run_answer (request_of Z entries pins sets) chip work (wear_of wear) place budget limit in
    run_bytes wear (cond (eqb (length wear) wear_length) (on_bytes Z refused answer list) (refused (cond (in_range Z) 2 1)))

pub record MendBytes : Type 0 where
  pub number : ℕ
  pub place : ℕ
  pub erases : ℕ
  pub chip : Chip
  pub wear : List ℕ

abbrev pub mend_bytes : (lent : List ℕ) → MendAnswer → MendBytes
mend_bytes lent r = record {
  number = r.number;
  place = r.place;
  erases = r.erases;
  chip = r.chip;
  wear = cond (eqb r.number 0) (wear_bytes r.wear) lent;
}

abbrev pub mended_bytes : Result Mended Refusal → (store marks wear : List ℕ) → MendBytes
mended_bytes (Ok done) store marks wear =
    record { number = 0; place = done.place; erases = done.erases; chip = record { store = store; marks = marks }; wear = wear }
mended_bytes (Err refusal) store marks wear =
    record { number = number_of refusal; place = 0; erases = 0; chip = record { store = store; marks = marks }; wear = wear }

unfoldable pub mend_of_bytes : Sizes → Chip → (wear : List ℕ) → MendBytes
mend_of_bytes Z chip wear =
    let refused : ℕ → MendAnswer = λ number. record { number = number; place = 0; erases = 0; chip = chip; wear = wear_of wear } in
    mend_bytes wear (cond (eqb (length wear) wear_length) (mend_answer Z chip (wear_of wear)) (refused (cond (in_range Z) 2 1)))

unfoldable pub read_of_bytes : Sizes → (list pins sets : List ℕ) → Chip → (work : List ℕ) → (original : ℕ) → ReadAnswer
read_of_bytes Z list pins sets chip work original =
    on_bytes Z (λ number. read_refused number work)
    (λ entries. read_answer (request_of Z entries pins sets) chip work original) list

unfoldable pub rebuild_of_bytes : Sizes → (list pins sets : List ℕ) → Chip → (area flags : List ℕ) → (slot : ℕ) → RebuildAnswer
rebuild_of_bytes Z list pins sets chip area flags slot =
    on_bytes Z (λ number. rebuild_refused number area flags)
    (λ entries. rebuild_answer (request_of Z entries pins sets) chip area flags slot) list

-- the call that makes the pair afresh
pub record RefreshBytes : Type 0 where
  pub number : ℕ
  pub wear : List ℕ

unfoldable pub refresh_of_bytes : (wear : List ℕ) → RefreshBytes
refresh_of_bytes wear =
    cond (eqb (length wear) wear_length) (record { number = 0; wear = wear_bytes (refreshed (wear_of wear)) }) (record { number = 2; wear = wear })
