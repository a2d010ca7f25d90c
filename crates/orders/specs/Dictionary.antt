-- Rules 14.6 and 14.7: the orders of the blocks in dictionary order, and the best.
use Rattle.std.specs.Prelude.{Bool, cond, List, [], ◌∷◌, map, ℕ, zero, suc, ◌+◌, ◌*◌, ◌/◌, ◌%◌, leb}
use Rattle.flash.specs.Lists.{range, all, first}
use Rattle.orders.specs.Orders.{least_y}

-- how many orders n blocks have
unfoldable pub factorial : ℕ → ℕ
factorial zero = 1
factorial (suc n) = suc n * factorial n

-- the blocks other than `left`, numbered from 1: the number of the block among all
unfoldable pub leaving : (left block : ℕ) → ℕ
leaving left block = cond (leb left block) (block + 1) block

-- Rule 14.6: order k of n blocks, k from 0 on. Blocks come first in turn, each in (n - 1)! orders, and behind it are the orders of the others.
unfoldable pub order_at : (n k : ℕ) → List ℕ
order_at zero k = []
order_at (suc n) k = let block = k / factorial n + 1 in block ∷ map (leaving block) (order_at n (k % factorial n))

unfoldable pub orders : (n : ℕ) → List (List ℕ)
orders n = map (order_at n) (range 0 (factorial n))

module _ (n m : ℕ) (list : List ℕ) where
  -- no order has a smaller y
  unfoldable pub is_best : (order : List ℕ) → Bool
  is_best order = all (λ other. leb (least_y n m list order) (least_y n m list other)) (orders n)

  -- rule 14.7
  unfoldable pub best_order : List ℕ
  best_order = first is_best (orders n) []
