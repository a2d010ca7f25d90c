-- The shape of marks that fit the move.
use Rattle.std.specs.Prelude.{◌≡◌, true, false, List, ℕ, suc, ◌≤◌, ◌<◌}
use Rattle.flash.specs.declared.sizes.Sizes.{Sizes}
use Rattle.flash.specs.Geometry.{letter}
use Rattle.flash.specs.Chip.{is_full}

-- Blocks below `low` are full of s + 1, blocks from `high` on full of s + i, and the one between, if there is one, is full of
-- nothing.
pub record Shape (Z : Sizes) (marks : List ℕ) (low high i : ℕ) : Type 0 where
  pub below : (b : ℕ) → b < low → is_full Z.m marks b (letter Z 1) ≡ true
  pub above : (b : ℕ) → high ≤ b → b ≤ Z.n → is_full Z.m marks b (letter Z i) ≡ true
  pub between : (b : ℕ) → low ≤ b → b < high → (j : ℕ) → is_full Z.m marks b (letter Z j) ≡ false
  pub order : low ≤ high
  pub near : high ≤ suc low
  pub inside : low ≤ Z.n
