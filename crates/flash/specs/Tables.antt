-- A table whose first fitting row decides.
use Rattle.std.specs.Prelude.{Bool, true, cond, ◌≡◌, ℕ, suc, ◌≤◌, eqb}
use mathlib.Core.List.{List, [], ◌∷◌, Memᴰ}
use Rattle.std.proofs.Math.Option.{Option, none, some}

pub record Row (A : Type 0) : Type 0 where
  pub fits : Bool
  pub gives : A

unfoldable pub first_fit : {A : Type 0} → List (Row A) → Option A
first_fit [] = none
first_fit (row ∷ rows) = cond row.fits (some row.gives) (first_fit rows)

-- Rule 7.8: a row says when its number is returned. Rule 7.7: where none applies, 0 is.
unfoldable pub number_or0 : Option ℕ → ℕ
number_or0 none = 0
number_or0 (some number) = number

unfoldable pub refusal : List (Row ℕ) → ℕ
refusal rows = number_or0 (first_fit rows)

-- how many numbers of a list stand before this one
unfoldable pub before : (number : ℕ) → List ℕ → ℕ
before number [] = 0
before number (x ∷ xs) = cond (eqb x number) 0 (suc (before number xs))

-- Rule 7.8: a number of the table that applies, and of those the first in an order; 0 exactly where none does.
pub record First (order : List ℕ) (rows : List (Row ℕ)) (number : ℕ) : Type 0 where
  pub applies : 1 ≤ number → (row : Row ℕ) × Memᴰ row rows × (row.fits ≡ true) × (row.gives ≡ number)
  pub first : (row : Row ℕ) → Memᴰ row rows → row.fits ≡ true → (1 ≤ number) × (before number order ≤ before row.gives order)
