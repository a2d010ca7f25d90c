-- Rules 14.1 to 14.5: an order of the blocks, which page forbids which y, and the least y of an order.
use Rattle.std.specs.Prelude.{Bool, cond, ◌&&◌, ◌||◌, not, List, ℕ, ◌+◌, ◌-◌, ◌*◌, eqb, leb, get_or}
use Rattle.flash.specs.Lists.{range, any, first}
use Rattle.split.specs.OneToOne.{met_twice}
use Rattle.split.specs.Drops.{is_dropped}
use Rattle.split.specs.Split.{source_block, dest_block}

-- the numbers from `low` to `high`
abbrev pub from_to : (low high : ℕ) → List ℕ
from_to low high = range low (high + 1 - low)

-- Rule 14.1, of n bytes: one is not the number of a data block, or two are the same.
unfoldable pub bad_order : (n : ℕ) → (order : List ℕ) → Bool
bad_order n order = any (λ block. not (leb 1 block && leb block n)) order || met_twice order

-- the block that comes i-th, i from 1 on
abbrev pub block_at : (order : List ℕ) → (i : ℕ) → ℕ
block_at order i = get_or order (i - 1) 0

-- rule 14.2: original k is a page of the j-th block and goes to the i-th
unfoldable pub goes : (m : ℕ) → (list order : List ℕ) → (k j i : ℕ) → Bool
goes m list order k j i =
    not (is_dropped list k) && eqb (source_block m k) (block_at order j) && eqb (dest_block m list k) (block_at order i)

module _ (n m : ℕ) (list order : List ℕ) where
  -- rule 14.3: it does so for an i from y + 1 to n - 2 and a j of at least i + 2
  unfoldable pub forbids : (y k : ℕ) → Bool
  forbids y k = any (λ i. any (λ j. goes m list order k j i) (from_to (i + 2) n)) (from_to (y + 1) (n - 2))

  unfoldable pub allows : (y : ℕ) → Bool
  allows y = not (any (forbids y) (range 0 (n * m)))

  -- rule 14.4: of 0 to n - 2, the last of which no page forbids
  unfoldable pub least_y : ℕ
  least_y = first allows (from_to 0 (n - 2)) (n - 2)

  -- rule 14.5: the lowest numbered page that forbids the next lower y; 0 where there is none
  unfoldable pub forbidding_page : ℕ
  forbidding_page = cond (eqb least_y 0) 0 (first (forbids (least_y - 1)) (range 0 (n * m)) 0)
