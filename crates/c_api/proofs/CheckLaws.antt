-- What the export of the check answers is what the call answers for the entries decoded.
use Rattle.flash.proofs.Kit.{◌≡◌, ⊎_elim, ◌≢◌, true, false, cond, List, ℕ, ◌*◌, ◌≤◌, mul-le-mul, min, arith, length}
use Rattle.flash.proofs.Bools.{bool_cases}
use Rattle.checker.specs.Answer.{CheckAnswer, refused, are_sizes, check_answer}
use Rattle.checker.proofs.RowsLaws.{sizes-few, refuse-1, refuse-2}
use Rattle.c_api.specs.Bytes.{entries_within}
use Rattle.c_api.specs.CheckExport.{last_line, in32_bits, check_of_bytes}
use Rattle.c_api.proofs.BytesLaws.{on_list}

module _ (n m : ℕ) (text : List ℕ) where
  -- a list of another length is refused alike whatever its entries
  refuses-list : (list : List ℕ) → (are_sizes n m ≡ true → length list ≢ n * m) → in32_bits (check_answer n m list text) ≡ refused (cond (are_sizes n m) 2 1)
  unfolding in32_bits
  refuses-list list differs = ⊎_elim
      (λ (e : are_sizes n m ≡ true). rw (← refuse-2 n m list text e (differs e), e))
      (λ (e : are_sizes n m ≡ false). rw (← refuse-1 n m list text e, e))
      (bool_cases (are_sizes n m))

  pub check-exported : (list entries : List ℕ) → entries ≡ entries_within 4096 list → (answer : CheckAnswer) (line : ℕ) → answer ≡ check_answer n m entries text
      → line ≡ min answer.line last_line
      → ◌≡◌ {A = CheckAnswer} (record { number = answer.number; line = line; accepted = answer.accepted }) (check_of_bytes n m list text)
  unfolding check_of_bytes in32_bits
  check-exported list entries decoded answer line is told =
      on_list (are_sizes n m) (n * m) (λ e. let s = sizes-few n m list text e in
      let some : 1 * 1 ≤ n * m = mul-le-mul s.0 s.2 in (omega arith, omega (arith, s.4)))
      refused (λ l. in32_bits (check_answer n m l text)) refuses-list list entries _ decoded (rw (told, is))
