-- What is claimed of marks, sizes and pages: a definition that no function's contract cites could else be weakened unnoticed.
use Rattle.std.specs.Prelude.{◌≡◌, true, false, List, ℕ, ◌≤◌, ◌<◌, length, replicate}
use Rattle.flash.specs.declared.sizes.Sizes.{Sizes}
use Rattle.flash.specs.Geometry.{in_range, Bounds}
use Rattle.flash.specs.Chip.{erased, mark_at, is_whole}
use Rattle.flash.specs.PageSum.{written_bytes}

-- a page with one of the three letters for its mark is whole, and no other is
pub record WholeByLetter : Type 0 where
  pub whole : (marks : List ℕ) (t : ℕ) → mark_at marks t < 3 → is_whole marks t ≡ true
  pub torn : (marks : List ℕ) (t : ℕ) → 3 ≤ mark_at marks t → is_whole marks t ≡ false

-- the bounds that the theorems about a move ask for are those that row 1 of the table tests
pub record RangeIsBounds : Type 0 where
  pub bounds : (Z : Sizes) → in_range Z ≡ true → Bounds Z
  pub range : (Z : Sizes) → Bounds Z → in_range Z ≡ true

-- a page as an erase leaves it counts 0, one without such a byte counts all, and none counts more than it has bytes
pub record BytesOfPages : Type 0 where
  pub none : (P : ℕ) → written_bytes (replicate P erased) ≡ 0
  pub all : (P byte : ℕ) → byte < erased → written_bytes (replicate P byte) ≡ P
  pub most : (page : List ℕ) → written_bytes page ≤ length page
