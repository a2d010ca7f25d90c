-- What is claimed of the two answers, in the words of the request and without the definitions that compute them.
use Rattle.std.specs.Prelude.{◌≡◌, ◌≢◌, List, [], ◌∷◌, ℕ, ◌+◌, ◌-◌, ◌*◌, ◌≤◌, ◌<◌, length, get_or}
use Rattle.flash.specs.Tables.{First}
use Rattle.split.specs.OneToOne.{dropped}
use Rattle.split.specs.Split.{source_block, dest_block}
use Rattle.orders.specs.Orders.{block_at}
use Rattle.orders.specs.Dictionary.{factorial, order_at}
use Rattle.orders.specs.Answer.{least_rows, best_rows, least_answer, best_answer}

-- n numbers from 1 to n, each another
pub record IsOrder (n : ℕ) (order : List ℕ) : Type 0 where
  pub size : length order ≡ n
  pub low : (i : ℕ) → i < n → 1 ≤ get_or order i 0
  pub high : (i : ℕ) → i < n → get_or order i 0 ≤ n
  pub once : (i j : ℕ) → i < n → j < n → get_or order i 0 ≡ get_or order j 0 → i ≡ j

-- page k goes from the j-th block to the i-th, i from y + 1 to n - 2, j at least i + 2
pub record Forbids (n m : ℕ) (list order : List ℕ) (y k : ℕ) : Type 0 where
  pub i : ℕ
  pub j : ℕ
  pub above : y + 1 ≤ i
  pub below : i ≤ n - 2
  pub far : i + 2 ≤ j
  pub within : j ≤ n
  pub page : k < n * m
  pub kept : get_or list k 0 ≢ dropped
  pub source : source_block m k ≡ block_at order j
  pub target : dest_block m list k ≡ block_at order i

-- y is the least that is allowed, and `page` the lowest page that forbids the one below it
pub record Least (n m : ℕ) (list order : List ℕ) (y page : ℕ) : Type 0 where
  pub high : y ≤ n - 2
  pub allowed : (k : ℕ) → Forbids n m list order y k → ⊥
  pub least : (x : ℕ) → x < y → (k : ℕ) × Forbids n m list order x k
  pub forbids : y ≢ 0 → Forbids n m list order (y - 1) page
  pub lowest : (k : ℕ) → k < page → Forbids n m list order (y - 1) k → ⊥
  pub none : y ≡ 0 → page ≡ 0

unfoldable pub LeastGiven : Type 0
LeastGiven = (n m : ℕ) (list order : List ℕ)
    → (least_answer n m list order).number ≡ 0 → Least n m list order (least_answer n m list order).y (least_answer n m list order).page

-- dictionary order: equal up to some place, and smaller there
pub record Precedes (n : ℕ) (one other : List ℕ) : Type 0 where
  pub place : ℕ
  pub within : place < n
  pub same : (i : ℕ) → i < place → get_or one i 0 ≡ get_or other i 0
  pub smaller : get_or one place 0 < get_or other place 0

-- the orders are numbered in dictionary order, and none is left out
pub record OrdersNumbered : Type 0 where
  pub each : (n k : ℕ) → k < factorial n → IsOrder n (order_at n k)
  pub every : (n : ℕ) (order : List ℕ) → IsOrder n order → (k : ℕ) × (k < factorial n) × (order_at n k ≡ order)
  pub rising : (n j k : ℕ) → j < k → k < factorial n → Precedes n (order_at n j) (order_at n k)

-- `order` has the least y, and each that comes before it has a larger one
pub record Best (n m : ℕ) (list order : List ℕ) (y page : ℕ) : Type 0 where
  pub order_is : IsOrder n order
  pub least : Least n m list order y page
  pub best : (other : List ℕ) → IsOrder n other → y ≤ (least_answer n m list other).y
  pub first : (other : List ℕ) → IsOrder n other → Precedes n other order → y < (least_answer n m list other).y

unfoldable pub BestGiven : Type 0
BestGiven = (n m : ℕ) (list order : List ℕ) → (best_answer n m list order).number ≡ 0
    → Best n m list (best_answer n m list order).order (best_answer n m list order).y (best_answer n m list order).page

-- rule 7.8: the first number that applies, in the order of rule 14.8
pub record NumbersInOrder : Type 0 where
  pub least : (n m : ℕ) (list order : List ℕ) → First (1 ∷ 16 ∷ 2 ∷ 3 ∷ 17 ∷ []) (least_rows n m list order) (least_answer n m list order).number
  pub best : (n m : ℕ) (list order : List ℕ) → First (1 ∷ 16 ∷ 2 ∷ 3 ∷ []) (best_rows n m list order) (best_answer n m list order).number
