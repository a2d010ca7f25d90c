-- The search through all orders.
use Rattle.std.specs.Prelude.{◌≡◌, List, [], ◌∷◌, map, ℕ, zero, suc, ◌+◌, ◌/◌, ◌%◌, ◌≤◌, ◌<◌}
use Rattle.orders.specs.Dictionary.{factorial, leaving}

-- `order_at` with the places' digits taken from the last on, as the code takes them
unfoldable pub order_by : (n k : ℕ) → List ℕ
order_by zero k = []
order_by (suc n) k = let block = k / factorial n % suc n + 1 in block ∷ map (leaving block) (order_by n k)

-- of f 0, f 1, .. below `count`, entry `at` is the first of the least
pub record FirstLeast (f : ℕ → ℕ) (count at : ℕ) : Type 0 where
  pub high : at < count
  pub least : (k : ℕ) → k < count → f at ≤ f k
  pub first : (k : ℕ) → k < at → f at < f k

-- the search after `count` of them; all are below `start`
pub record Searching (f : ℕ → ℕ) (start count at best : ℕ) : Type 0 where
  pub none : count ≡ 0 → best ≡ start
  pub some : 1 ≤ count → (at < count) × (f at ≡ best)
  pub least : (k : ℕ) → k < count → best ≤ f k
  pub first : (k : ℕ) → k < at → best < f k
