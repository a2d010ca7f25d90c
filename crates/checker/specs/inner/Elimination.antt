-- Elimination over masks. Row i of a basis is 0, or a mask whose lowest bit is i. Rows are counted from `i` on.
use Rattle.std.specs.Prelude.{◌≡◌, ◌≢◌, Bool, true, cond, ◌&&◌, not, List, [], ◌∷◌, ℕ, suc, ◌/◌, ◌%◌, ◌^◌, ◌<◌, eqb, length, get_or}
use Rattle.std.specs.Int.Bits.{bit_xor}
use Rattle.std.specs.Int.Count.{count_trailing_zeros}
use Rattle.flash.specs.Lists.{count}

abbrev pub has_bit : (mask i : ℕ) → Bool
has_bit mask i = eqb (mask / 2 ^ i % 2) 1

-- the number of a mask's lowest bit; 64 if there is none
abbrev pub lowest_bit : (mask : ℕ) → ℕ
lowest_bit mask = count_trailing_zeros 64 mask

-- the rows of a basis
pub record Echelon (rows : List ℕ) : Type 0 where
  pub size : length rows ≡ 64
  pub small : (i : ℕ) → i < 64 → get_or rows i 0 < 2 ^ 64
  pub lowest : (i : ℕ) → i < 64 → get_or rows i 0 ≢ 0 → (get_or rows i 0 % 2 ^ i ≡ 0) × (has_bit (get_or rows i 0) i ≡ true)

-- the rows that are not empty
abbrev pub filled_rows : (rows : List ℕ) → ℕ
filled_rows rows = count (λ row. not (eqb row 0)) rows

-- the mask, with row i added if the mask has bit i
unfoldable pub cleared : (i row mask : ℕ) → ℕ
cleared i row mask = cond (has_bit mask i) (bit_xor mask row) mask

-- the rows, with what is left of the mask put into the first row that is empty and whose bit it has
unfoldable pub inserted : (i : ℕ) → (rows : List ℕ) → (mask : ℕ) → List ℕ
inserted i [] mask = []
inserted i (row ∷ rows) mask = cond (eqb row 0 && has_bit mask i) (mask ∷ rows) (row ∷ inserted (suc i) rows (cleared i row mask))
