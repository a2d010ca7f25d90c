-- Which block sends a page to which, as bits, and the y of an order by them.
use Rattle.std.specs.Prelude.{◌≡◌, Bool, true, false, List, ℕ, ◌+◌, ◌-◌, ◌*◌, ◌<◌, length, get_or}
use Rattle.flash.specs.Lists.{range, down_from, any, first}
use Rattle.split.specs.Drops.{is_dropped}
use Rattle.split.specs.Split.{source_block, dest_block}
use Rattle.split.specs.inner.Mask.{is_marked}

-- the bit of two blocks
abbrev pub cell : (source target : ℕ) → ℕ
cell source target = target * 64 + source

-- the bits of the first `count` pages
pub record Sends (m : ℕ) (list : List ℕ) (count : ℕ) (table : List ℕ) : Type 0 where
  pub size : length table ≡ 64
  pub marked : (k : ℕ) → k < count → is_dropped list k ≡ false → is_marked table (cell (source_block m k) (dest_block m list k)) ≡ true
  pub only : (x : ℕ) → is_marked table x ≡ true
      → (k : ℕ) × (k < count) × (is_dropped list k ≡ false) × (cell (source_block m k) (dest_block m list k) ≡ x)

-- an order of up to 63 blocks
pub record Short (order : List ℕ) : Type 0 where
  pub few : length order < 64
  pub small : (i : ℕ) → i < length order → get_or order i 0 < 64

-- a block from index `from` on sends to `target`
unfoldable pub is_sent_from : (table order : List ℕ) → (from target : ℕ) → Bool
is_sent_from table order from target = any (λ j. is_marked table (cell (get_or order j 0) target)) (range from (length order - from))

-- the same of the i-th block and those two places behind it
unfoldable pub is_sent : (table order : List ℕ) → (i : ℕ) → Bool
is_sent table order i = is_sent_from table order (i + 1) (get_or order (i - 1) 0)

unfoldable pub y_by : (table order : List ℕ) → ℕ
y_by table order = first (is_sent table order) (down_from (length order - 2)) 0
