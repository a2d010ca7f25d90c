-- What a step is lent: the tables of its pass, and the dropped pages as bits.
use Rattle.std.specs.Prelude.{◌≡◌, Bool, true, false, List, ℕ, ◌-◌, ◌<◌, min, get_or}
use Rattle.flash.specs.declared.sizes.Sizes.{Sizes}
use Rattle.flash.specs.Geometry.{slot, number_at, original_count}
use Rattle.split.specs.Split.{set_of}
use Rattle.split.specs.inner.Rows.{ByDestination}
use Rattle.split.specs.inner.Mask.{is_marked}
use Rattle.method.specs.Move.{Move}
use Rattle.method.specs.Cycle.{sent_to}
use Rattle.method.specs.Place.{filling, filled}
use Rattle.walk.specs.inner.Rows.{SourcesTable, PagesRow, SourcesRow}

-- the bits of the places where dropped pages go are those of the pages
pub record DropsIn (M : Move) (drops places : List ℕ) : Type 0 where
  pub places-tell : (k : ℕ) → k < original_count M.sizes → is_marked places (get_or M.list k 0) ≡ is_marked drops k

-- the table that a pass needs besides that of the pages: the sources, or the sets by destination
pub record OtherTable (M : Move) (is_backward : Bool) (other : List ℕ) : Type 0 where
  pub sources-tell : is_backward ≡ false → SourcesTable M other
  pub sets-tell : is_backward ≡ true → ByDestination M.list M.sets other

-- the set of a page that is written: its number, or the set of the original that the list sends there
abbrev pub SetWritten : (M : Move) (is_backward : Bool) (block page set : ℕ) → Type 0
SetWritten M is_backward block page set =
    (is_backward ≡ false → set ≡ page) × (is_backward ≡ true → set ≡ set_of M.sets (sent_to M (number_at M.sizes.m block page)))

-- the rows of that set
pub record SetRows (M : Move) (is_backward : Bool) (block page set : ℕ) (pages sources : List ℕ) : Type 0 where
  pub set_in : set < M.sizes.m
  pub written : SetWritten M is_backward block page set
  pub pages-tell : PagesRow M set pages
  pub sources-tell : is_backward ≡ false → SourcesRow M set sources

-- the slot of the last write, told by the step: its own, or that of the block's last page where the step is the erase behind it
abbrev pub last_slot : Sizes → (at : ℕ) → ℕ
last_slot Z at = slot Z.m (filling Z at) (min (filled Z at) (Z.m - 1))
