-- The numbers that the functions of the refusals give, before those of the marks.
use Rattle.std.specs.Prelude.{cond, ◌&&◌, ◌||◌, not, List, ℕ, ◌*◌, eqb}
use Rattle.flash.specs.declared.sizes.Sizes.{Sizes}
use Rattle.flash.specs.Geometry.{in_range}
use Rattle.flash.specs.Chip.{Chip}
use Rattle.split.specs.OneToOne.{is_one_to_one}
use Rattle.split.specs.Split.{is_split}
use Rattle.split.specs.Pins.{moves_pinned}
use Rattle.split.specs.Request.{Request, bad_request}
use Rattle.method.specs.Answers.{bad_chip}
use Rattle.method.specs.Rebuild.{bad_areas}

-- of the list and the split
abbrev pub sets_number : Sizes → (list sets : List ℕ) → ℕ
sets_number Z list sets = cond (is_one_to_one (Z.n * Z.m) list) (cond (is_split Z.n Z.m list sets) 0 4) 3

-- of a list that drops nothing
unfoldable pub kept_number : Sizes → (list pins sets : List ℕ) → ℕ
kept_number Z list pins sets = cond (not (eqb (sets_number Z list sets) 3) && moves_pinned pins list) 11 (sets_number Z list sets)

unfoldable pub rebuild_number : Request → Chip → (area flags : List ℕ) → ℕ
rebuild_number R chip area flags =
    cond (not (in_range R.sizes)) 1
    (cond (bad_request R || bad_chip R.sizes chip || bad_areas R.sizes area flags) 2 (kept_number R.sizes R.list R.pins R.sets))
