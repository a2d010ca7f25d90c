-- The worked input and its listing, byte by byte; and inputs that are not listed.
use Rattle.std.specs.Prelude.{◌≡◌, true, false, List, [], ◌∷◌, ℕ}
use Rattle.listing.specs.Lines.{refused_line, unreadable_line}
use Rattle.listing.specs.Examples.{parted}
use Rattle.steplist.specs.Output.{output}

-- `3 1 1 0 1 2 0 1 2 4`
abbrev pub input : List ℕ
input = 51 ∷ 32 ∷ 49 ∷ 32 ∷ 49 ∷ 32 ∷ 48 ∷ 32 ∷ 49 ∷ 32 ∷ 50 ∷ 32 ∷ 48 ∷ 32 ∷ 49 ∷ 32 ∷ 50 ∷ 32 ∷ 52 ∷ []

abbrev pub listing : List ℕ
listing =
    -- `0 W 0 0 05`
    48 ∷ 32 ∷ 87 ∷ 32 ∷ 48 ∷ 32 ∷ 48 ∷ 32 ∷ 48 ∷ 53 ∷ 10 ∷
    -- `1 E 1`
    49 ∷ 32 ∷ 69 ∷ 32 ∷ 49 ∷ 10 ∷
    -- `2 W 1 0 03`
    50 ∷ 32 ∷ 87 ∷ 32 ∷ 49 ∷ 32 ∷ 48 ∷ 32 ∷ 48 ∷ 51 ∷ 10 ∷
    -- `3 E 2`
    51 ∷ 32 ∷ 69 ∷ 32 ∷ 50 ∷ 10 ∷
    -- `4 W 2 0 04`
    52 ∷ 32 ∷ 87 ∷ 32 ∷ 50 ∷ 32 ∷ 48 ∷ 32 ∷ 48 ∷ 52 ∷ 10 ∷
    -- `5 E 3`
    53 ∷ 32 ∷ 69 ∷ 32 ∷ 51 ∷ 10 ∷
    -- `6 W 3 0 02`
    54 ∷ 32 ∷ 87 ∷ 32 ∷ 51 ∷ 32 ∷ 48 ∷ 32 ∷ 48 ∷ 50 ∷ 10 ∷
    -- `7 E 2`
    55 ∷ 32 ∷ 69 ∷ 32 ∷ 50 ∷ 10 ∷
    -- `8 W 2 0 01`
    56 ∷ 32 ∷ 87 ∷ 32 ∷ 50 ∷ 32 ∷ 48 ∷ 32 ∷ 48 ∷ 49 ∷ 10 ∷
    -- `9 E 1`
    57 ∷ 32 ∷ 69 ∷ 32 ∷ 49 ∷ 10 ∷
    -- `10 W 1 0 04`
    49 ∷ 48 ∷ 32 ∷ 87 ∷ 32 ∷ 49 ∷ 32 ∷ 48 ∷ 32 ∷ 48 ∷ 52 ∷ 10 ∷
    -- `11 E 0`
    49 ∷ 49 ∷ 32 ∷ 69 ∷ 32 ∷ 48 ∷ 10 ∷
    -- `end 6 6`
    101 ∷ 110 ∷ 100 ∷ 32 ∷ 54 ∷ 32 ∷ 54 ∷ 10 ∷
    []

abbrev pub listing_by_originals : List ℕ
listing_by_originals =
    -- `0 W 0 0 0 2`
    48 ∷ 32 ∷ 87 ∷ 32 ∷ 48 ∷ 32 ∷ 48 ∷ 32 ∷ 48 ∷ 32 ∷ 50 ∷ 10 ∷
    -- `1 E 1`
    49 ∷ 32 ∷ 69 ∷ 32 ∷ 49 ∷ 10 ∷
    -- `2 W 1 0 0 1`
    50 ∷ 32 ∷ 87 ∷ 32 ∷ 49 ∷ 32 ∷ 48 ∷ 32 ∷ 48 ∷ 32 ∷ 49 ∷ 10 ∷
    -- `3 E 2`
    51 ∷ 32 ∷ 69 ∷ 32 ∷ 50 ∷ 10 ∷
    -- `4 W 2 0 2`
    52 ∷ 32 ∷ 87 ∷ 32 ∷ 50 ∷ 32 ∷ 48 ∷ 32 ∷ 50 ∷ 10 ∷
    -- `5 E 3`
    53 ∷ 32 ∷ 69 ∷ 32 ∷ 51 ∷ 10 ∷
    -- `6 W 3 0 1`
    54 ∷ 32 ∷ 87 ∷ 32 ∷ 51 ∷ 32 ∷ 48 ∷ 32 ∷ 49 ∷ 10 ∷
    -- `7 E 2`
    55 ∷ 32 ∷ 69 ∷ 32 ∷ 50 ∷ 10 ∷
    -- `8 W 2 0 0`
    56 ∷ 32 ∷ 87 ∷ 32 ∷ 50 ∷ 32 ∷ 48 ∷ 32 ∷ 48 ∷ 10 ∷
    -- `9 E 1`
    57 ∷ 32 ∷ 69 ∷ 32 ∷ 49 ∷ 10 ∷
    -- `10 W 1 0 2`
    49 ∷ 48 ∷ 32 ∷ 87 ∷ 32 ∷ 49 ∷ 32 ∷ 48 ∷ 32 ∷ 50 ∷ 10 ∷
    -- `11 E 0`
    49 ∷ 49 ∷ 32 ∷ 69 ∷ 32 ∷ 48 ∷ 10 ∷
    -- `end 6 6`
    101 ∷ 110 ∷ 100 ∷ 32 ∷ 54 ∷ 32 ∷ 54 ∷ 10 ∷
    []

-- numbers with a space behind each
abbrev spaced : (numbers : List ℕ) → List ℕ
spaced numbers = parted 32 numbers

pub record Examples : Type 0 where
  pub example : output false input ≡ listing
  -- a list that is bad too is not judged where a byte is missing, or is none
  pub missing-byte : output false (spaced (3 ∷ 1 ∷ 1 ∷ 0 ∷ 1 ∷ 1 ∷ 1 ∷ 1 ∷ 2 ∷ [])) ≡ unreadable_line
  pub no_byte : output false (spaced (3 ∷ 1 ∷ 1 ∷ 0 ∷ 1 ∷ 1 ∷ 1 ∷ 1 ∷ 2 ∷ 256 ∷ [])) ≡ unreadable_line
  pub bad-list : output false (spaced (3 ∷ 1 ∷ 1 ∷ 0 ∷ 1 ∷ 1 ∷ 1 ∷ 1 ∷ 2 ∷ 4 ∷ [])) ≡ refused_line 3
  -- 16 bits of 65536 would be a good entry
  pub large-entry : output false (spaced (1 ∷ 1 ∷ 1 ∷ 0 ∷ 65536 ∷ 7 ∷ [])) ≡ refused_line 3
  pub nine-blocks : output false (spaced (9 ∷ 1 ∷ 1 ∷ 0 ∷ [])) ≡ refused_line 1
  pub by-originals : output true input ≡ listing_by_originals
  -- a list that drops a page is listed with bytes alone
  pub dropped : output true (spaced (1 ∷ 1 ∷ 1 ∷ 0 ∷ 65535 ∷ 7 ∷ [])) ≡ refused_line 3
  pub larger : output true (spaced (1 ∷ 1 ∷ 1 ∷ 0 ∷ 65536 ∷ 7 ∷ [])) ≡ refused_line 3
  pub too_few : output true (spaced (3 ∷ 1 ∷ 1 ∷ 0 ∷ 1 ∷ 1 ∷ 1 ∷ 1 ∷ 2 ∷ [])) ≡ unreadable_line
  pub nine-pages : output true (spaced (1 ∷ 9 ∷ 1 ∷ 0 ∷ [])) ≡ refused_line 1
