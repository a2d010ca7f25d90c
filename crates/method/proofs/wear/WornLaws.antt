-- The counters after operations: of two lists, step by step, and number 12 once the move is under way.
use Rattle.flash.proofs.Kit.{◌≡◌, refl, ap, ◌∙◌, ◌⊎◌, inl, inr, ⊎_elim, true, false, ◌||◌, and-false, List, [], ◌∷◌, ◌++◌, Option, none, some, ℕ, zero, suc, ◌+◌, ◌≤◌, ◌<◌, arith, eqb, length, get_or, replicate, ne_eqb, le-ltb}
use Rattle.flash.specs.Tables.{refusal}
use Rattle.flash.specs.Chip.{Chip}
use Rattle.flash.specs.Wear.{counter_end, counter_at, unworn}
use Rattle.flash.proofs.CounterLaws.{risen-length}
use Rattle.flash.proofs.Bools.{bool_cases}
use Rattle.flash.proofs.Ranges.{none_is}
use Rattle.split.specs.Request.{Request}
use Rattle.flash.specs.declared.sizes.Sizes.{Sizes}
use Rattle.flash.specs.declared.wear.Wear.{Wear}
use Rattle.method.specs.Place.{Operation, write, erase, done, operation_at, last_place}
use Rattle.method.specs.Step.{operations_from}
use Rattle.method.specs.Worn.{worn_once, worn_by, erases_of, wears_out, is_worn_out}
use Rattle.method.specs.Mend.{Reading, reading}
use Rattle.method.specs.Answers.{run_rows, run_carried_out, run_refused, run_answer, steps_taken, mend_rows, mended, mend_answer}
use Rattle.method.proofs.places.Tallies.{operations_from-split, operations_from-suc}

pub worn-append : (first second : List Operation) (wear : Wear) → worn_by (first ++ second) wear ≡ worn_by second (worn_by first wear)
unfolding worn_by
worn-append [] second wear = refl
worn-append (operation ∷ first) second wear = worn-append first second (worn_once operation wear)

module _ (Z : Sizes) (place : ℕ) where
  -- some steps, and then more
  pub worn-split : (a b : ℕ) (wear : Wear)
      → worn_by (operations_from Z place (a + b)) wear ≡ worn_by (operations_from Z (place + a) b) (worn_by (operations_from Z place a) wear)
  worn-split a b wear =
      ap (λ (o : List Operation). worn_by o wear) (operations_from-split Z place a b) ∙ worn-append (operations_from Z place a) (operations_from Z (place + a) b) wear

  -- one step more
  pub worn-next : (i : ℕ) (wear : Wear) → place + i < last_place Z
      → worn_by (operations_from Z place (i + 1)) wear ≡ worn_once (operation_at Z (place + i)) (worn_by (operations_from Z place i) wear)
  unfolding worn_by operations_from
  worn-next i wear h =
      worn-split i 1 wear ∙ ap (λ (o : List Operation). worn_by o (worn_by (operations_from Z place i) wear)) (operations_from-suc Z (place + i) 0 h)

-- number 12 is looked for at place 0 alone
pub under-way : (n : ℕ) (wear : Wear) (place limit : ℕ) → 1 ≤ place → is_worn_out n wear place limit ≡ false
unfolding is_worn_out
under-way n wear place limit h = rw (ne_eqb place 0 (λ e. omega arith))

-- ---- the record keeps its length
worn-once-length : (operation : Operation) (wear : Wear) → length (worn_once operation wear).counters ≡ length wear.counters
unfolding worn_once
worn-once-length (write pass block page) wear = refl
worn-once-length (erase block) wear = risen-length block wear
worn-once-length done wear = refl

pub worn-length : (operations : List Operation) (wear : Wear) → length (worn_by operations wear).counters ≡ length wear.counters
unfolding worn_by
worn-length [] wear = refl
worn-length (operation ∷ operations) wear = worn-length operations (worn_once operation wear) ∙ worn-once-length operation wear

pub run-wear-length : (R : Request) (chip : Chip) (work : List ℕ) (wear : Wear) (place budget limit : ℕ)
    → length (run_answer R chip work wear place budget limit).wear.counters ≡ length wear.counters
unfolding run_answer run_carried_out run_refused
run-wear-length R chip work wear place budget limit = ⊎_elim
    (λ (e : eqb (refusal (run_rows R chip work wear place limit)) 0 ≡ true).
    rw e (worn-length (operations_from R.sizes place (steps_taken R.sizes place budget)) wear))
    (λ (e : eqb (refusal (run_rows R chip work wear place limit)) 0 ≡ false). rw e refl)
    (bool_cases (eqb (refusal (run_rows R chip work wear place limit)) 0))

-- a mend that erases nothing leaves the record, and one that erases is not refused
pub mend-wear : (Z : Sizes) (chip : Chip) (wear : Wear)
    → (((mend_answer Z chip wear).erases ≡ 0) × ((mend_answer Z chip wear).wear ≡ wear))
    ⊎ (((mend_answer Z chip wear).number ≡ 0) × ((mend_answer Z chip wear).erases ≡ 1) × (length (mend_answer Z chip wear).wear.counters ≡ length wear.counters))
unfolding mend_answer mended
mend-wear Z chip wear = ⊎_elim
    (λ (q : eqb number 0 ≡ true). go q (reading Z chip.marks) refl)
    (λ (q : eqb number 0 ≡ false). rw q (inl (refl, refl)))
    (bool_cases (eqb number 0))
  where
    number : ℕ
    number = refusal (mend_rows Z chip)

    found-wear : (place : ℕ) (to_erase : Option ℕ) → (let answer = mended Z chip wear (record { place = place; to_erase = to_erase }) in
        ((answer.erases ≡ 0) × (answer.wear ≡ wear))
        ⊎ ((answer.number ≡ 0) × (answer.erases ≡ 1) × (length answer.wear.counters ≡ length wear.counters)))
    found-wear place none = inl (refl, refl)
    found-wear place (some b) = inr (refl, refl, risen-length b wear)

    go : eqb number 0 ≡ true → (found : Option Reading) → reading Z chip.marks ≡ found
        → (((mend_answer Z chip wear).erases ≡ 0) × ((mend_answer Z chip wear).wear ≡ wear))
        ⊎ (((mend_answer Z chip wear).number ≡ 0) × ((mend_answer Z chip wear).erases ≡ 1) × (length (mend_answer Z chip wear).wear.counters ≡ length wear.counters))
    go q none e = rw (q, e) (inl (refl, refl))
    go q (some found) e = rw (q, e) (found-wear found.place found.to_erase)

-- ---- a module that was never erased passes the highest limit
zeros-at : (count b : ℕ) → ◌≡◌ {A = ℕ} (get_or (replicate count 0) b 0) 0
zeros-at zero b = refl
zeros-at (suc count) zero = refl
zeros-at (suc count) (suc b) = zeros-at count b

few-erases : (n b : ℕ) → erases_of n b ≤ 2
unfolding erases_of
few-erases n b = ⊎_elim
    (λ (e : (eqb b 0 || eqb b n) ≡ true). rw e (omega arith))
    (λ (e : (eqb b 0 || eqb b n) ≡ false). rw e (omega arith))
    (bool_cases (eqb b 0 || eqb b n))

pub unworn-lasts : (n : ℕ) → wears_out n unworn counter_end ≡ false
unfolding wears_out counter_at
unworn-lasts n = none_is _ 0 (n + 1) (λ b low high. le-ltb counter_end (get_or (replicate 65 0) b 0 + erases_of n b) (omega (arith, zeros-at 65 b, few-erases n b)))

pub unworn-passes : (n place : ℕ) → is_worn_out n unworn place counter_end ≡ false
unfolding is_worn_out
unworn-passes n place = rw (unworn-lasts n, and-false)
