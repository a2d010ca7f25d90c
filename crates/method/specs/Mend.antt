-- Rules 5.2 to 5.8: how mend, the recovery after a cut, reads the marks.
use Rattle.std.specs.Prelude.{Bool, cond, ◌&&◌, List, ◌++◌, map, ℕ, ◌+◌, ◌-◌, ◌*◌}
use Rattle.std.proofs.Math.Option.{Option, none, some}
use Rattle.flash.specs.Geometry.{is_letter, letter}
use Rattle.flash.specs.Lists.{range, all}
use Rattle.flash.specs.Tables.{Row, first_fit}
use Rattle.flash.specs.declared.sizes.Sizes.{Sizes}
use Rattle.flash.specs.Chip.{erased, is_full, is_unfinished}

-- what mend finds: the place, and the block that it erases, if any
pub record Reading : Type 0 where
  pub place : ℕ
  pub to_erase : Option ℕ

module _ (Z : Sizes) (marks : List ℕ) where
  open Z use {n, m}

  -- `count` blocks from `block` on are full of the letter that comes i after s
  unfoldable pub full_from : (i block count : ℕ) → Bool
  full_from i block count = all (λ b. is_full m marks b (letter Z i)) (range block count)

  -- rule 5.3
  unfoldable pub forward_torn : (b : ℕ) → Row Reading
  forward_torn b = record {
    fits = is_unfinished m marks b && full_from 1 0 b && full_from 0 (b + 1) (n - b);
    gives = record { place = b * (m + 1); to_erase = some b };
  }

  -- rule 5.4
  unfoldable pub backward_torn : (b : ℕ) → Row Reading
  backward_torn b = record {
    fits = is_unfinished m marks b && full_from 1 0 b && full_from 2 (b + 1) (n - b);
    gives = record { place = (2 * n - b) * (m + 1); to_erase = some b };
  }

  -- rule 5.5
  unfoldable pub forward_full : (i : ℕ) → Row Reading
  forward_full i = record {
    fits = full_from 1 0 i && full_from 0 i (n + 1 - i);
    gives = record { place = (i - 1) * (m + 1) + m; to_erase = none };
  }

  -- rule 5.6
  unfoldable pub backward_full : (b : ℕ) → Row Reading
  backward_full b = record {
    fits = full_from 1 0 b && full_from 2 b (n + 1 - b);
    gives = record { place = (2 * n - b) * (m + 1) + m; to_erase = none };
  }

  -- Each of the four rules for all its blocks. Two that fit give the same answer (rule 5.7, Claims.LinesAgree).
  unfoldable pub lines : List (Row Reading)
  lines =
      map forward_torn (range 0 (n + 1)) ++ (map backward_torn (range 0 (n + 1))
      ++ (map forward_full (range 1 n) ++ map backward_full (range 1 n)))

-- rule 5.2: the marks as mend and read see them, which count one that is no letter as 255
unfoldable pub seen : (marks : List ℕ) → List ℕ
seen marks = map (λ mark. cond (is_letter mark) mark erased) marks

-- rule 5.2: what the marks tell, or none where they fit no moment
unfoldable pub reading : Sizes → (marks : List ℕ) → Option Reading
reading Z marks = first_fit (lines Z (seen marks))
