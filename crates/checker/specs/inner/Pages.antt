-- What pages hold, and the first half of what a list asks for.
use Rattle.std.specs.Prelude.{Bool, List, ℕ, ◌^◌, ◌<◌, eqb, length, get_or}
use Rattle.flash.specs.Lists.{range, all}
use Rattle.flash.specs.Geometry.{slot_of}

abbrev pub are_placed : (m : ℕ) → (list pages : List ℕ) → Bool
are_placed m list pages = all (λ k. eqb (get_or pages (slot_of m (get_or list k 0)) 0) (2 ^ k)) (range 0 (length list))

-- each page is a sum of originals below `count`
abbrev pub Masks : (count : ℕ) → (pages : List ℕ) → Type 0
Masks count pages = (t : ℕ) → get_or pages t 0 < 2 ^ count
