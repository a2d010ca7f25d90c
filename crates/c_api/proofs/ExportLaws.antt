-- What an export answers is what the call answers for the entries decoded.
use Rattle.flash.proofs.Kit.{◌≡◌, refl, sym, ap, ◌∙◌, ⊎_elim, ◌≢◌, Bool, true, false, cond, List, ℕ, arith, eqb, length, eq-eqb, ne_eqb}
use Rattle.flash.specs.declared.sizes.Sizes.{Sizes}
use Rattle.flash.specs.Geometry.{in_range, original_count}
use Rattle.flash.specs.Chip.{Chip}
use Rattle.flash.specs.declared.wear.Wear.{Wear}
use Rattle.flash.specs.Wear.{refreshed}
use Rattle.flash.specs.Refusals.{number_of}
use Rattle.flash.specs.declared.refusal.Refusal.{Refusal}
use Rattle.std.specs.Prelude.{Result, Ok, Err}
use Rattle.flash.proofs.Refused.{some-number}
use Rattle.flash.proofs.Bools.{bool_cases}
use Rattle.split.specs.Request.{Request, request_of}
use Rattle.split.specs.Answer.{SplitAnswer, split_answer}
use Rattle.split.proofs.Answers.{gives-1, gives-2-list}
use Rattle.method.specs.Answers.{RunAnswer, run_refused, run_answer, MendAnswer, mend_answer, ReadAnswer, read_refused, read_answer}
use Rattle.method.specs.Rebuild.{RebuildAnswer, rebuild_refused, rebuild_answer}
use Rattle.method.proofs.refusals.ListRefusals.{run-refuses-list, read-refuses-list, rebuild-refuses-list}
use Rattle.method.proofs.wear.WornLaws.{mend-wear, run-wear-length}
use Rattle.recovery.specs.declared.mend.Mended.{Mended}
use Rattle.recovery.specs.MarksRead.{recovered_as}
use Rattle.mover.specs.declared.run.RunResult.{RunResult}
use Rattle.mover.specs.declared.run.Ran.{Ran}
use Rattle.mover.specs.Answers.{run_as, ran_as}
use Rattle.c_api.specs.Wear.{wear_length, wear_of, wear_bytes}
use Rattle.c_api.specs.Bytes.{entries_within}
use Rattle.c_api.specs.Exports.{on_bytes, split_of_bytes, ran_bytes, run_of_bytes, mended_bytes, mend_of_bytes, read_of_bytes, rebuild_of_bytes, RefreshBytes, refresh_of_bytes}
use Rattle.c_api.proofs.BytesLaws.{on-bytes}
use Rattle.c_api.proofs.WearLaws.{counters-length}

module _ (Z : Sizes) (list pins sets entries : List ℕ) (decoded : entries ≡ entries_within 4096 list) where
  -- a list of another length is refused alike whatever its entries
  split-refuses-list : (other : List ℕ) → (in_range Z ≡ true → length other ≢ original_count Z)
      → split_answer (request_of Z other pins sets) ≡ record { number = cond (in_range Z) 2 1; sets = sets }
  unfolding split_answer
  split-refuses-list other differs = ⊎_elim
      (λ (e : in_range Z ≡ true). rw (gives-2-list (request_of Z other pins sets) e (differs e), e))
      (λ (e : in_range Z ≡ false). rw (gives-1 (request_of Z other pins sets) e, e))
      (bool_cases (in_range Z))

  pub split-exported : (r : SplitAnswer) → r ≡ split_answer (request_of Z entries pins sets) → r ≡ split_of_bytes Z list pins sets
  unfolding split_of_bytes
  split-exported r =
      on-bytes Z (λ number. record { number = number; sets = sets }) (λ list. split_answer (request_of Z list pins sets))
      split-refuses-list list entries r decoded

  module _ (chip : Chip) (work : List ℕ) where
    pub run-exported : (wear : Wear) (place budget limit : ℕ) (r : RunAnswer)
        → r ≡ run_answer (request_of Z entries pins sets) chip work wear place budget limit
        → r ≡ on_bytes Z (λ number. run_refused number chip work wear) (λ list. run_answer (request_of Z list pins sets) chip work wear place budget limit) list
    run-exported wear place budget limit r =
        on-bytes Z (λ number. run_refused number chip work wear) (λ list. run_answer (request_of Z list pins sets) chip work wear place budget limit)
        (λ list differs. run-refuses-list (request_of Z list pins sets) chip work differs wear place budget limit) list entries r decoded

    pub read-exported : (original : ℕ) (r : ReadAnswer) → r ≡ read_answer (request_of Z entries pins sets) chip work original
        → r ≡ read_of_bytes Z list pins sets chip work original
    unfolding read_of_bytes
    read-exported original r =
        on-bytes Z (λ number. read_refused number work) (λ list. read_answer (request_of Z list pins sets) chip work original)
        (λ list differs. read-refuses-list (request_of Z list pins sets) chip work differs original) list entries r decoded

  pub rebuild-exported : (chip : Chip) (area flags : List ℕ) (slot : ℕ) (r : RebuildAnswer) → r ≡ rebuild_answer (request_of Z entries pins sets) chip area flags slot
      → r ≡ rebuild_of_bytes Z list pins sets chip area flags slot
  unfolding rebuild_of_bytes
  rebuild-exported chip area flags slot r =
      on-bytes Z (λ number. rebuild_refused number area flags) (λ list. rebuild_answer (request_of Z list pins sets) chip area flags slot)
      (λ list differs. rebuild-refuses-list (request_of Z list pins sets) chip area flags slot differs) list entries r decoded

-- ---- the counters as bytes
two-or-one : (ranged : Bool) → eqb (cond ranged 2 1) 0 ≡ false
two-or-one true = refl
two-or-one false = refl

-- a refused run or recovery gives back the counters too
run-wear : (outcome : Result Ran Refusal) (store marks work : List ℕ) (wear : Wear) → (run_as outcome store marks work wear).wear ≡ wear
run-wear (Ok ran) store marks work wear = refl
run-wear (Err refusal) store marks work wear = refl

mended-wear : (outcome : Result Mended Refusal) (store marks : List ℕ) (wear : Wear) → (recovered_as outcome store marks wear).wear ≡ wear
mended-wear (Ok done) store marks wear = refl
mended-wear (Err refusal) store marks wear = refl

some : (r : Refusal) → eqb (number_of r) 0 ≡ false
some r = ne_eqb (number_of r) 0 (λ z. absurd (omega (arith, some-number r)))

pub counters-kept : (ran : RunResult) (store marks work : List ℕ) (R : Request) (chip : Chip) (area : List ℕ) (wear : Wear) (place budget limit : ℕ)
    → ran_as ran store marks work ≡ run_answer R chip area wear place budget limit → length ran.wear.counters ≡ length wear.counters
counters-kept ran store marks work R chip area wear place budget limit e =
    ap (λ (w : Wear). length w.counters) (sym (run-wear ran.outcome store marks work ran.wear))
    ∙ ap (λ (a : RunAnswer). length a.wear.counters) e ∙ run-wear-length R chip area wear place budget limit

module _ (Z : Sizes) (list pins sets : List ℕ) (chip : Chip) (work lent : List ℕ) (place budget limit : ℕ) where
  -- another length is refused, and nothing is touched
  pub run-other-length : length lent ≢ wear_length → (r : Refusal) → number_of r ≡ cond (in_range Z) 2 1
      → ran_bytes (Err r) chip.store chip.marks work lent ≡ run_of_bytes Z list pins sets chip work lent place budget limit
  unfolding run_of_bytes run_refused
  run-other-length ne r e = rw (e, ne_eqb (length lent) wear_length ne, two-or-one (in_range Z))

  module _ (size : length lent ≡ wear_length) (store marks work' : List ℕ) (wear : Wear) where
    abbrev Is : Result Ran Refusal → Type 0
    Is outcome =
        run_as outcome store marks work' wear ≡ on_bytes Z (λ number. run_refused number chip work (wear_of lent))
        (λ entries. run_answer (request_of Z entries pins sets) chip work (wear_of lent) place budget limit) list

    pub run-done : (ran : Ran) → Is (Ok ran) → (bytes : List ℕ) → bytes ≡ wear_bytes wear
        → ran_bytes (Ok ran) store marks work' bytes ≡ run_of_bytes Z list pins sets chip work lent place budget limit
    unfolding run_of_bytes
    run-done ran is bytes e = rw (eq-eqb (length lent) wear_length size, ← is, e)

    pub run-left : (r : Refusal) → Is (Err r) → ran_bytes (Err r) store marks work' lent ≡ run_of_bytes Z list pins sets chip work lent place budget limit
    unfolding run_of_bytes
    run-left r is = rw (eq-eqb (length lent) wear_length size, ← is, some r)

module _ (Z : Sizes) (chip : Chip) (lent : List ℕ) where
  pub mend-other-length : length lent ≢ wear_length → (r : Refusal) → number_of r ≡ cond (in_range Z) 2 1
      → mended_bytes (Err r) chip.store chip.marks lent ≡ mend_of_bytes Z chip lent
  unfolding mend_of_bytes
  mend-other-length ne r e = rw (e, ne_eqb (length lent) wear_length ne, two-or-one (in_range Z))

  module _ (size : length lent ≡ wear_length) (store marks : List ℕ) (wear : Wear) where
    abbrev Mends : Result Mended Refusal → Type 0
    Mends outcome = recovered_as outcome store marks wear ≡ mend_answer Z chip (wear_of lent)

    -- what was erased comes back with counters, which are written
    pub mend-counters : (done : Mended) → Mends (Ok done) → done.erases ≢ 0 → length wear.counters ≡ 65
    mend-counters done is ne = ⊎_elim
        (λ left. absurd (ne (ap (λ (a : MendAnswer). a.erases) is ∙ left.0)))
        (λ erased. ap (λ (a : MendAnswer). length a.wear.counters) is ∙ erased.2 ∙ counters-length lent)
        (mend-wear Z chip (wear_of lent))

    pub mend-done : (done : Mended) → Mends (Ok done) → (bytes : List ℕ) → bytes ≡ wear_bytes wear
        → mended_bytes (Ok done) store marks bytes ≡ mend_of_bytes Z chip lent
    unfolding mend_of_bytes
    mend-done done is bytes e = rw (eq-eqb (length lent) wear_length size, ← is, e)

    -- and where nothing was, the bytes are those that the counters have
    pub mend-left : wear_bytes (wear_of lent) ≡ lent → (done : Mended) → Mends (Ok done) → done.erases ≡ 0
        → mended_bytes (Ok done) store marks lent ≡ mend_of_bytes Z chip lent
    unfolding mend_of_bytes
    mend-left back done is none =
        let kept : wear_bytes wear ≡ lent = ⊎_elim
        (λ left. ap (λ (a : MendAnswer). wear_bytes a.wear) is ∙ ap wear_bytes left.1 ∙ back)
        (λ erased. absurd (omega (arith, none, ap (λ (a : MendAnswer). a.erases) is, erased.1)))
        (mend-wear Z chip (wear_of lent)) in
        rw (eq-eqb (length lent) wear_length size, ← is, kept)

    pub mend-refused : (r : Refusal) → Mends (Err r) → mended_bytes (Err r) store marks lent ≡ mend_of_bytes Z chip lent
    unfolding mend_of_bytes
    mend-refused r is = rw (eq-eqb (length lent) wear_length size, ← is, some r)

-- ---- the pair made afresh
module _ (lent : List ℕ) where
  pub refresh-other-length : length lent ≢ wear_length → ◌≡◌ {A = RefreshBytes} (record { number = 2; wear = lent }) (refresh_of_bytes lent)
  unfolding refresh_of_bytes
  refresh-other-length ne = rw (ne_eqb (length lent) wear_length ne)

  pub refresh-done : length lent ≡ wear_length → (fresh : Wear) (wear : List ℕ) → fresh ≡ refreshed (wear_of lent) → wear ≡ wear_bytes fresh
      → ◌≡◌ {A = RefreshBytes} (record { number = 0; wear = wear }) (refresh_of_bytes lent)
  unfolding refresh_of_bytes
  refresh-done size fresh wear is e = rw (eq-eqb (length lent) wear_length size, e, is)
