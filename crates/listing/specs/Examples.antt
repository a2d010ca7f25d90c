-- What the definitions give: a number that was printed is read as itself, and worked examples of inputs and lines.
use Rattle.std.specs.Prelude.{◌≡◌, List, [], ◌∷◌, ◌++◌, ℕ, ◌<◌}
use Rattle.std.proofs.Math.Option.{some}
use Rattle.flash.specs.Lists.{concat_map}
use Rattle.flash.specs.declared.sizes.Sizes.{Sizes}
use Rattle.listing.specs.Numbers.{number_of}
use Rattle.listing.specs.Input.{unreadable, refused, request, input_of}
use Rattle.listing.specs.Digits.{decimal}
use Rattle.listing.specs.Lines.{write_line, erase_line, end_line, refused_line}

unfoldable pub PrintedIsRead : Type 0
PrintedIsRead = (n : ℕ) → n < 100000 → number_of (decimal n) ≡ some n

-- the numbers, each with a separator behind it
unfoldable pub parted : (separator : ℕ) → (numbers : List ℕ) → List ℕ
parted separator numbers = concat_map (λ n. decimal n ++ (separator ∷ [])) numbers

abbrev spaced : (numbers : List ℕ) → List ℕ
spaced numbers = parted 32 numbers

-- the worked input: `3 1 1 0 1 2 0 1 2 4`
abbrev three : List ℕ
three = 3 ∷ 1 ∷ 1 ∷ 0 ∷ 1 ∷ 2 ∷ 0 ∷ []

abbrev three_sizes : Sizes
three_sizes = record { n = 3; m = 1; p = 1; s = 0 }

pub record Examples : Type 0 where
  pub asked : input_of (spaced (three ++ (1 ∷ 2 ∷ 4 ∷ []))) ≡ request three_sizes (1 ∷ 2 ∷ 0 ∷ []) (1 ∷ 2 ∷ 4 ∷ [])
  pub line-feeds : input_of (10 ∷ parted 10 (three ++ (1 ∷ 2 ∷ 4 ∷ []))) ≡ request three_sizes (1 ∷ 2 ∷ 0 ∷ []) (1 ∷ 2 ∷ 4 ∷ [])
  pub tabs : input_of (parted 9 (three ++ (1 ∷ 2 ∷ 4 ∷ []))) ≡ unreadable
  pub empty : input_of [] ≡ unreadable
  pub too_few : input_of (spaced (three ++ (1 ∷ 2 ∷ []))) ≡ unreadable
  pub too_many : input_of (spaced (three ++ (1 ∷ 2 ∷ 4 ∷ 8 ∷ []))) ≡ unreadable
  pub no_byte : input_of (spaced (three ++ (1 ∷ 2 ∷ 256 ∷ []))) ≡ unreadable
  -- an entry is judged later, as it was written
  pub large-entry : input_of (spaced (1 ∷ 1 ∷ 1 ∷ 0 ∷ 65536 ∷ 7 ∷ [])) ≡ request (record { n = 1; m = 1; p = 1; s = 0 }) (65536 ∷ []) (7 ∷ [])
  -- all four sizes are read before one is judged; what stands behind them is not looked at
  pub three-sizes : input_of (spaced (9 ∷ 1 ∷ 1 ∷ [])) ≡ unreadable
  pub nine-blocks : input_of (spaced (9 ∷ 1 ∷ 1 ∷ 0 ∷ []) ++ (120 ∷ [])) ≡ refused
  pub glued : input_of (spaced (9 ∷ 1 ∷ 1 ∷ []) ++ (48 ∷ 120 ∷ [])) ≡ unreadable
  pub five-digits : input_of (spaced (99999 ∷ 1 ∷ 1 ∷ 0 ∷ [])) ≡ refused
  pub six-digits : input_of (spaced (100000 ∷ 1 ∷ 1 ∷ 0 ∷ [])) ≡ unreadable
  -- `10 W 1 0 04`, `11 E 0`, `end 6 6`, `refused 3`, and bytes with letters among their digits
  pub write : write_line 10 1 0 (4 ∷ []) ≡ 49 ∷ 48 ∷ 32 ∷ 87 ∷ 32 ∷ 49 ∷ 32 ∷ 48 ∷ 32 ∷ 48 ∷ 52 ∷ 10 ∷ []
  pub bytes : write_line 0 0 0 (255 ∷ 160 ∷ []) ≡ 48 ∷ 32 ∷ 87 ∷ 32 ∷ 48 ∷ 32 ∷ 48 ∷ 32 ∷ 102 ∷ 102 ∷ 97 ∷ 48 ∷ 10 ∷ []
  pub erase : erase_line 11 0 ≡ 49 ∷ 49 ∷ 32 ∷ 69 ∷ 32 ∷ 48 ∷ 10 ∷ []
  pub end : end_line 6 6 ≡ 101 ∷ 110 ∷ 100 ∷ 32 ∷ 54 ∷ 32 ∷ 54 ∷ 10 ∷ []
  pub refused-3 : refused_line 3 ≡ 114 ∷ 101 ∷ 102 ∷ 117 ∷ 115 ∷ 101 ∷ 100 ∷ 32 ∷ 51 ∷ 10 ∷ []
