-- A list of another length: it is refused alike whatever its entries.
use Rattle.flash.proofs.Kit.{◌≡◌, refl, ⊎_elim, ◌≢◌, Bool, true, false, cond, List, ℕ, eqb, length, ne_eqb}
use Rattle.flash.specs.Tables.{Row, refusal, first_fit, number_or0}
use Rattle.flash.specs.Geometry.{in_range, list_len}
use Rattle.flash.specs.declared.wear.Wear.{Wear}
use Rattle.flash.specs.Chip.{Chip}
use Rattle.flash.proofs.Bools.{bool_cases}
use Rattle.split.specs.Request.{Request, bad_request}
use Rattle.method.specs.Answers.{bad_parts, move_rows, run_rows, run_refused, run_answer, read_rows, read_refused, read_answer}
use Rattle.method.specs.Rebuild.{rebuild_rows, rebuild_refused, rebuild_answer}

not-zero : (ranged : Bool) → eqb (cond ranged 2 1) 0 ≡ false
not-zero true = refl
not-zero false = refl

module _ (R : Request) (chip : Chip) (work : List ℕ) (other : in_range R.sizes ≡ true → length R.list ≢ list_len R.sizes) where
  -- in the rows that run and read share
  pub list-refused : (rest : List (Row ℕ)) → refusal (move_rows R chip work rest) ≡ cond (in_range R.sizes) 2 1
  unfolding bad_request move_rows bad_parts refusal first_fit number_or0
  list-refused rest = ⊎_elim
      (λ (e : in_range R.sizes ≡ true). rw (e, ne_eqb (length R.list) (list_len R.sizes) (other e)))
      (λ (e : in_range R.sizes ≡ false). rw e)
      (bool_cases (in_range R.sizes))

  pub run-refuses-list : (wear : Wear) (place budget limit : ℕ)
      → run_answer R chip work wear place budget limit ≡ run_refused (cond (in_range R.sizes) 2 1) chip work wear
  unfolding run_answer run_rows
  run-refuses-list wear place budget limit = rw (list-refused _, not-zero (in_range R.sizes))

  pub read-refuses-list : (k : ℕ) → read_answer R chip work k ≡ read_refused (cond (in_range R.sizes) 2 1) work
  unfolding read_answer read_rows
  read-refuses-list k = rw (list-refused _, not-zero (in_range R.sizes))

module _ (R : Request) (chip : Chip) (area flags : List ℕ) (bad : ℕ) (other : in_range R.sizes ≡ true → length R.list ≢ list_len R.sizes) where
  rebuild-number : refusal (rebuild_rows R chip area flags bad) ≡ cond (in_range R.sizes) 2 1
  unfolding bad_request rebuild_rows refusal first_fit number_or0
  rebuild-number = ⊎_elim
      (λ (e : in_range R.sizes ≡ true). rw (e, ne_eqb (length R.list) (list_len R.sizes) (other e)))
      (λ (e : in_range R.sizes ≡ false). rw e)
      (bool_cases (in_range R.sizes))

  pub rebuild-refuses-list : rebuild_answer R chip area flags bad ≡ rebuild_refused (cond (in_range R.sizes) 2 1) area flags
  unfolding rebuild_answer
  rebuild-refuses-list = rw (rebuild-number, not-zero (in_range R.sizes))
