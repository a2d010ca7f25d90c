-- Rule 2.2: what a split is.
use Rattle.std.specs.Prelude.{Bool, ◌&&◌, List, ℕ, ◌*◌, eqb, ltb, get_or}
use Rattle.flash.specs.Lists.{range, all, count}
use Rattle.flash.specs.Geometry.{block_of}

-- The two ends of the move of original k: the block that it comes from and the block that it goes to.
unfoldable pub source_block : (m k : ℕ) → ℕ
source_block m k = block_of m k

unfoldable pub dest_block : (m : ℕ) → List ℕ → (k : ℕ) → ℕ
dest_block m list k = block_of m (get_or list k 0)

-- Rule 1.14. The papers call a set a block-permutation set.
unfoldable pub set_of : List ℕ → (k : ℕ) → ℕ
set_of sets k = get_or sets k 0

module _ (n m : ℕ) (list sets : List ℕ) where
  -- how many pages of a set come from a block, and how many go to it
  unfoldable pub pages_from : (set block : ℕ) → ℕ
  pages_from set block = count (λ k. eqb (set_of sets k) set && eqb (source_block m k) block) (range 0 (n * m))

  unfoldable pub pages_to : (set block : ℕ) → ℕ
  pages_to set block = count (λ k. eqb (set_of sets k) set && eqb (dest_block m list k) block) (range 0 (n * m))

  -- every set byte is below m; of each set, one page comes from and one goes to each data block
  unfoldable pub is_split : Bool
  is_split =
      all (λ set. ltb set m) sets
      && all (λ set. all (λ block. eqb (pages_from set block) 1 && eqb (pages_to set block) 1) (range 1 n)) (range 0 m)
