-- The tables of the path: for each block at one end and each set whether a page has them, and the block of that page at the other end.
use Rattle.std.specs.Prelude.{◌≡◌, Bool, true, List, ℕ, ◌+◌, ◌-◌, ◌*◌, ◌/◌, ◌%◌, ◌<◌, eqb, ltb, get_or, set as put}
use Rattle.split.specs.Split.{set_of}
use Rattle.split.specs.Rule.{End, other_end, block_at}
use Rattle.split.specs.inner.Mask.{bit_at}

-- the block of a page at an end, from 0
abbrev pub row_of : (m : ℕ) → List ℕ → End → (k : ℕ) → ℕ
row_of m list end k = block_at m list end k - 1

-- where a table has the note of a set and a block
abbrev pub cell_of : (set row : ℕ) → ℕ
cell_of set row = set * 64 + row

-- how it is told which sets a block has: by masks at the destinations; at the sources the blocks before a page's own have all
abbrev pub Uses : Type 0
Uses = (row set : ℕ) → Bool

abbrev pub by_masks : (masks : List ℕ) → Uses
by_masks masks row set = eqb (bit_at (get_or masks row 0) set) 1

abbrev pub by_order : (m pages : ℕ) → Uses
by_order m pages row set = ltb (row * m + set) pages

module _ (m : ℕ) (list : List ℕ) (end : End) (pages : ℕ) (sets : List ℕ) where
  -- a page of the set at the block, among the first
  pub record IsPage (row set k : ℕ) : Type 0 where
    pub inside : k < pages
    pub at_row : row_of m list end k ≡ row
    pub in-set : set_of sets k ≡ set

  -- it is told whether there is such a page; there is one at most, and the note is of it
  pub record Cell (row set : ℕ) (used : Bool) (note : ℕ) : Type 0 where
    pub page : used ≡ true → (k : ℕ) × IsPage row set k × (note ≡ row_of m list (other_end end) k)
    pub marked : (k : ℕ) → IsPage row set k → used ≡ true
    pub one : (x y : ℕ) → IsPage row set x → IsPage row set y → x ≡ y

  abbrev pub Exact : (uses : Uses) → (table : List ℕ) → Type 0
  Exact uses table = (row set : ℕ) → row < 64 → set < m → Cell row set (uses row set) (get_or table (cell_of set row) 0)

-- The bytes of each source block tell of each set its page there.
abbrev pub Numbered : (m pages : ℕ) → (sets numbers : List ℕ) → Type 0
Numbered m pages sets numbers = (k : ℕ) → k < pages → (set_of sets k < m) × (get_or numbers (k / m * m + set_of sets k) 0 ≡ k % m)

-- a table with two notes exchanged
abbrev pub swapped_at : (table : List ℕ) → (first second : ℕ) → List ℕ
swapped_at table first second = put (put table first (get_or table second 0)) second (get_or table first 0)
