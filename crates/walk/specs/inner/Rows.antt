-- The rows of a set: for each data block, the page of it that is the set's, and the block whose page goes there. How tables of them are filled.
use Rattle.std.specs.Prelude.{◌≡◌, List, ℕ, zero, suc, ◌+◌, ◌-◌, ◌*◌, ◌/◌, ◌%◌, ◌≤◌, ◌<◌, length, get_or, set}
use Rattle.flash.specs.Geometry.{number_at}
use Rattle.flash.specs.Lists.{part}
use Rattle.split.specs.Split.{set_of}
use Rattle.method.specs.Move.{Move}
use Rattle.method.specs.Cycle.{D, pred}

-- a row has room for 64 blocks, and a table for the rows of 64 sets
abbrev pub row_length : ℕ
row_length = 64

abbrev pub table_length : ℕ
table_length = 4096

-- a row starts with block 1
abbrev pub entry_of : (row : List ℕ) → (block : ℕ) → ℕ
entry_of row block = get_or row (block - 1) 0

-- what a walk asks of a row: pages of a block, or data blocks
pub record PagesIn (n m : ℕ) (row : List ℕ) : Type 0 where
  pub room : length row ≡ row_length
  pub page-lt : (block : ℕ) → 1 ≤ block → block ≤ n → entry_of row block < m

pub record BlocksIn (n : ℕ) (row : List ℕ) : Type 0 where
  pub room : length row ≡ row_length
  pub low : (block : ℕ) → 1 ≤ block → block ≤ n → 1 ≤ entry_of row block
  pub high : (block : ℕ) → 1 ≤ block → block ≤ n → entry_of row block ≤ n

-- and of the list and the set bytes: page numbers, and sets
pub record ListIn (n m : ℕ) (list : List ℕ) : Type 0 where
  pub length-is : length list ≡ n * m
  pub entry_lt : (k : ℕ) → k < n * m → get_or list k 0 < n * m

pub record SetsIn (n m : ℕ) (sets : List ℕ) : Type 0 where
  pub length-is : length sets ≡ n * m
  pub set-lt : (k : ℕ) → k < n * m → get_or sets k 0 < m

-- the rows of a set, and the tables of all sets
pub record PagesRow (M : Move) (set : ℕ) (row : List ℕ) : Type 0 where
  pub fits : PagesIn M.sizes.n M.sizes.m row
  pub is : (block : ℕ) → 1 ≤ block → block ≤ M.sizes.n → number_at M.sizes.m block (entry_of row block) ≡ D M set block

pub record SourcesRow (M : Move) (set : ℕ) (row : List ℕ) : Type 0 where
  pub fits : BlocksIn M.sizes.n row
  pub is : (block : ℕ) → 1 ≤ block → block ≤ M.sizes.n → entry_of row block ≡ pred M set block

pub record PagesTable (M : Move) (table : List ℕ) : Type 0 where
  pub room : length table ≡ table_length
  pub row : (set : ℕ) → set < M.sizes.m → PagesRow M set (part row_length set table)

pub record SourcesTable (M : Move) (table : List ℕ) : Type 0 where
  pub room : length table ≡ table_length
  pub row : (set : ℕ) → set < M.sizes.m → SourcesRow M set (part row_length set table)

-- a list after `count` turns of a loop, where turn k puts `value k` at `at k`
unfoldable pub filled_by : (at value : ℕ → ℕ) → (count : ℕ) → (table : List ℕ) → List ℕ
filled_by at value zero table = table
filled_by at value (suc k) table = set (filled_by at value k table) (at k) (value k)

-- Original k puts its page into the row of its set, at its block, and its block at the one where it goes.
abbrev pub pages_by : (m : ℕ) → (sets : List ℕ) → (count : ℕ) → (table : List ℕ) → List ℕ
pages_by m sets = filled_by (λ k. set_of sets k * row_length + k / m) (λ k. k % m)

abbrev pub sources_by : (m : ℕ) → (list sets : List ℕ) → (count : ℕ) → (table : List ℕ) → List ℕ
sources_by m list sets = filled_by (λ k. set_of sets k * row_length + get_or list k 0 / m) (λ k. k / m + 1)
