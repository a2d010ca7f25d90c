-- What split, run and read are asked to do: the sizes, and the lent parts that say where each page goes. Only the rows of the table and
-- the answers of the calls see it.
use Rattle.std.specs.Prelude.{Bool, ◌||◌, not, List, ℕ, eqb, length, replicate}
use Rattle.flash.specs.declared.sizes.Sizes.{Sizes}
use Rattle.flash.specs.Geometry.{list_len, pins_len, sets_len}

pub record Request : Type 0 where
  pub sizes : Sizes
  -- rule 1.13: where each original goes
  pub list : List ℕ
  -- rule 1.18: which originals have to end where they lay
  pub pins : List ℕ
  -- rule 1.14: the set of each original; split fills them
  pub sets : List ℕ

abbrev pub request_of : Sizes → (list pins sets : List ℕ) → Request
request_of sizes list pins sets = record { sizes = sizes; list = list; pins = pins; sets = sets }

-- with no page pinned
abbrev pub unpinned : Sizes → (list sets : List ℕ) → Request
unpinned sizes list sets = request_of sizes list (replicate (pins_len sizes) 0) sets

-- number 2, of split; run and read are lent more
unfoldable pub bad_request : Request → Bool
bad_request R =
    not (eqb (length R.list) (list_len R.sizes)) || not (eqb (length R.pins) (pins_len R.sizes))
    || not (eqb (length R.sets) (sets_len R.sizes))
