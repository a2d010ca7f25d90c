-- The originals of a write as the code tells them.
use Rattle.std.specs.Prelude.{List, [], ◌∷◌, ℕ, ◌<◌}
use Rattle.steplist.specs.declared.originals.Originals.{Originals}
use Rattle.steplist.specs.declared.originals.Originals.TheVariants.{One, Two}

abbrev pub originals_as : Originals → List ℕ
originals_as (One original) = original ∷ []
originals_as (Two low high) = low ∷ high ∷ []

-- each is below `count`
abbrev pub Within : (count : ℕ) → Originals → Type 0
Within count (One original) = original < count
Within count (Two low high) = (low < count) × (high < count)
