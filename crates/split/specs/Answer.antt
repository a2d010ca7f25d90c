-- The split call: its refusals and its whole answer.
use Rattle.std.specs.Prelude.{cond, not, List, [], ◌∷◌, ℕ, eqb}
use Rattle.flash.specs.Tables.{Row, refusal}
use Rattle.flash.specs.Geometry.{in_range, original_count}
use Rattle.split.specs.OneToOne.{bad_list}
use Rattle.split.specs.Drops.{completed}
use Rattle.split.specs.Pins.{moves_pinned}
use Rattle.split.specs.Rule.{split_by_rule}
use Rattle.split.specs.Request.{Request, bad_request}

-- rule 7.9: the rows of the table that the split call gives, in its order
unfoldable pub split_rows : Request → List (Row ℕ)
split_rows R =
    record { fits = not (in_range R.sizes); gives = 1 }
    ∷ record { fits = bad_request R; gives = 2 }
    ∷ record { fits = bad_list (original_count R.sizes) R.list; gives = 3 }
    ∷ record { fits = moves_pinned R.pins R.list; gives = 11 }
    ∷ []

-- what the split call returns and leaves
pub record SplitAnswer : Type 0 where
  pub number : ℕ
  pub sets : List ℕ

unfoldable pub split_answer : Request → SplitAnswer
split_answer R =
    let number = refusal (split_rows R) in
    -- rule 7.8: a refusal leaves them
    record { number = number; sets = cond (eqb number 0) (split_by_rule R.sizes.n R.sizes.m (completed R.list)) R.sets }
