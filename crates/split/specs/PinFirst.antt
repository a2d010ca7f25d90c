-- Rule 1.18: a pin is looked at before a drop. Once it was the other way round, and row 11 passed over a pinned original that the list drops. That test is
-- kept here, to say exactly which answers are other ones now, and is used for nothing else.
use Rattle.std.specs.Prelude.{◌≡◌, Bool, true, false, cond, ◌&&◌, not, List, [], ◌∷◌, ℕ, eqb, length, get_or}
use Rattle.flash.specs.Lists.{range, any}
use Rattle.flash.specs.Tables.{Row, refusal}
use Rattle.flash.specs.Geometry.{in_range, original_count}
use Rattle.split.specs.OneToOne.{bad_list}
use Rattle.split.specs.Drops.{is_dropped, completed}
use Rattle.split.specs.Pins.{is_pinned}
use Rattle.split.specs.Rule.{split_by_rule}
use Rattle.split.specs.Request.{Request, bad_request}
use Rattle.split.specs.Answer.{split_rows, SplitAnswer, split_answer}

-- a page is both pinned and dropped
unfoldable pub drops_pinned : Request → Bool
drops_pinned R = any (λ k. is_pinned R.pins k && is_dropped R.list k) (range 0 (length R.list))

-- the test of row 11 as it was
unfoldable pub moves_pinned_kept : (pins list : List ℕ) → Bool
moves_pinned_kept pins list = any (λ k. is_pinned pins k && not (is_dropped list k) && not (eqb (get_or list k 0) k)) (range 0 (length list))

-- a call's rows with that test
unfoldable pub rows_once : Request → List (Row ℕ) → List (Row ℕ)
rows_once R [] = []
rows_once R (row ∷ rows) =
    record { fits = cond (eqb row.gives 11) (moves_pinned_kept R.pins R.list) row.fits; gives = row.gives } ∷ rows_once R rows

-- what the split call answered
unfoldable pub split_answer_once : Request → SplitAnswer
split_answer_once R =
    let number = refusal (rows_once R (split_rows R)) in
    record { number = number; sets = cond (eqb number 0) (split_by_rule R.sizes.n R.sizes.m (completed R.list)) R.sets }

-- A list with no such page is answered as it was; with one it is refused, with 1, 2 or 3 if these fit, and else with 11.
abbrev pub SplitPinFirst : Type 0
SplitPinFirst =
    (R : Request)
    → (drops_pinned R ≡ false → split_answer R ≡ split_answer_once R)
    × (drops_pinned R ≡ true
    → split_answer R
    ≡ record {
      number = cond (not (in_range R.sizes)) 1 (cond (bad_request R) 2 (cond (bad_list (original_count R.sizes) R.list) 3 11));
      sets = R.sets;
    })
