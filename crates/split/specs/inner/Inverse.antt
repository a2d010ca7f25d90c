-- Rows that have each number below their length once, and their inverses.
use Rattle.std.specs.Prelude.{◌≡◌, List, ℕ, ◌<◌, length, get_or}
use Rattle.flash.specs.Lists.{part}

pub record Permuted (row : List ℕ) : Type 0 where
  pub small : (j : ℕ) → j < length row → get_or row j 0 < length row
  pub distinct : (i j : ℕ) → i < length row → j < length row → get_or row i 0 ≡ get_or row j 0 → i ≡ j

abbrev pub Inverted : (row after : List ℕ) → Type 0
Inverted row after = (j : ℕ) → j < length row → get_or after (get_or row j 0) 0 ≡ j

-- each of the first n rows of m bytes
abbrev pub RowsPermuted : (n m : ℕ) → List ℕ → Type 0
RowsPermuted n m bytes = (i : ℕ) → i < n → Permuted (part m i bytes)

abbrev pub RowsInverted : (n m : ℕ) → (bytes after : List ℕ) → Type 0
RowsInverted n m bytes after = (i : ℕ) → i < n → Inverted (part m i bytes) (part m i after)
