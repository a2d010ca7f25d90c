-- What the exports about block orders answer is what the calls answer for the entries decoded.
use Rattle.flash.proofs.Kit.{◌≡◌, sym, ◌∙◌, ◌≢◌, ⊎_elim, true, false, cond, List, [], ℕ, ◌*◌, ◌≤◌, mul-le-mul, arith, length}
use Rattle.flash.proofs.Bools.{bool_cases}
use Rattle.flash.proofs.Bounds.{in-range}
use Rattle.orders.specs.Answer.{are_sizes, LeastAnswer, least_answer, BestAnswer, best_answer}
use Rattle.orders.proofs.RowLaws.{few}
use Rattle.orders.proofs.ExportedLaws.{least_other, best-other, least-small, best-small}
use Rattle.c_api.specs.Bytes.{entries_of, is_odd, entries_within}
use Rattle.c_api.specs.OrderExports.{list_of, least_of_bytes, best_of_bytes}
use Rattle.c_api.proofs.BytesLaws.{on_list}

-- a call that refuses all lists of another length alike
module _ {A : Type 0} (n m : ℕ) (answer : List ℕ → A) (alike : (list : List ℕ) → (are_sizes n m ≡ true → length list ≢ n * m) → answer list ≡ answer []) where
  bounds : are_sizes n m ≡ true → (1 ≤ n * m) × (n * m ≤ 4096)
  bounds sized =
      let B = in-range _ sized in
      let some : 1 * 1 ≤ n * m = mul-le-mul B.n-low B.m-low in
      (omega arith, few n m 64 [] [] sized)

  odd-or-even : (bytes : List ℕ) → cond (is_odd bytes) (answer []) (answer (entries_of bytes)) ≡ answer (list_of bytes)
  unfolding list_of
  odd-or-even bytes = ⊎_elim (λ (e : is_odd bytes ≡ true). rw e) (λ (e : is_odd bytes ≡ false). rw e) (bool_cases (is_odd bytes))

  exported : (bytes entries : List ℕ) → entries ≡ entries_within 4096 bytes → (r : A) → r ≡ answer entries → r ≡ answer (list_of bytes)
  exported bytes entries decoded r is =
      on_list (are_sizes n m) (n * m) bounds (λ number. answer []) answer alike bytes entries r decoded is ∙ odd-or-even bytes

-- no sizes have a list without entries
empty-differs : (n m : ℕ) → are_sizes n m ≡ true → length {A = ℕ} [] ≢ n * m
empty-differs n m sized e =
    let B = in-range _ sized in
    let some : 1 * 1 ≤ n * m = mul-le-mul B.n-low B.m-low in
    omega arith

module _ (n m : ℕ) (order list entries : List ℕ) (decoded : entries ≡ entries_within 4096 list) where
  pub least-exported : (r : LeastAnswer) → r ≡ least_answer n m entries order → r ≡ least_of_bytes n m list order
  unfolding least_of_bytes
  least-exported r is =
      exported n m (λ l. least_answer n m l order) (λ l differs. least_other n m l order differs ∙ sym (least_other n m [] order (empty-differs n m))) list entries decoded r is

  pub best-exported : (r : BestAnswer) → r ≡ best_answer n m entries order → r ≡ best_of_bytes n m list order
  unfolding best_of_bytes
  best-exported r is =
      exported n m (λ l. best_answer n m l order) (λ l differs. best-other n m l order differs ∙ sym (best-other n m [] order (empty-differs n m))) list entries decoded r is

-- the numbers fit into 32 bits
pub told-small : (n m : ℕ) (list order : List ℕ) (a : LeastAnswer) → a ≡ least_answer n m list order → (a.y ≤ 64) × (a.page ≤ 4096)
told-small n m list order a e = rw e (least-small n m list order)

pub found-small : (n m : ℕ) (list order : List ℕ) (a : BestAnswer) → a ≡ best_answer n m list order → (a.y ≤ 64) × (a.page ≤ 4096)
found-small n m list order a e = rw e (best-small n m list order)
