-- Where each block stands in an order, and one pass over the pages.
use Rattle.std.specs.Prelude.{◌≡◌, ◌≢◌, false, cond, ◌&&◌, not, List, ℕ, ◌+◌, ◌-◌, ◌*◌, ◌≤◌, ◌<◌, leb, length, get_or}
use Rattle.split.specs.Drops.{is_dropped}
use Rattle.split.specs.Split.{source_block, dest_block}
use Rattle.orders.specs.declared.survey.Least.{Least}

-- entry b is the place of block b, from 1 on, or 0 where the first `count` of the order do not name it
pub record Placed (order : List ℕ) (count : ℕ) (places : List ℕ) : Type 0 where
  pub size : length places ≡ 65
  pub at : (i : ℕ) → i < count → get_or places (get_or order i 0) 0 ≡ i + 1
  pub names : (block : ℕ) → 1 ≤ get_or places block 0 → (get_or places block 0 ≤ count) × (get_or order (get_or places block 0 - 1) 0 ≡ block)

-- a list of up to `most` blocks, each of whose pages goes to one of them or is dropped
pub record Surveyable (most m : ℕ) (list : List ℕ) : Type 0 where
  pub m-low : 1 ≤ m
  pub m-high : m ≤ 64
  pub size : length list ≤ most * m
  pub below : (k : ℕ) → k < length list → is_dropped list k ≡ false → get_or list k 0 < most * m

-- the place that page k goes back to, over one place or more; 0 where it does not
unfoldable pub back_to : (m : ℕ) → (list places : List ℕ) → (k : ℕ) → ℕ
back_to m list places k =
    let target = get_or places (dest_block m list k) 0 in
    cond (not (is_dropped list k) && leb (target + 2) (get_or places (source_block m k) 0)) target 0

-- of the first `count` pages: the highest such place, and the first page that goes back to it
pub record Surveyed (m : ℕ) (list places : List ℕ) (count : ℕ) (found : Least) : Type 0 where
  pub most : (k : ℕ) → k < count → back_to m list places k ≤ found.y
  pub met : found.y ≢ 0 → (found.page < count) × (back_to m list places found.page ≡ found.y)
  pub first : (k : ℕ) → k < found.page → back_to m list places k < found.y
  pub none : found.y ≡ 0 → found.page ≡ 0
