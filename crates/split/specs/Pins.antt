-- Rule 1.18: pages that have to end where they lay.
use Rattle.std.specs.Prelude.{Bool, ◌&&◌, not, List, ℕ, eqb, length, get_or}
use Rattle.flash.specs.Lists.{range, any}

-- a byte that is not 0 pins the original of its number
unfoldable pub is_pinned : (pins : List ℕ) → (k : ℕ) → Bool
is_pinned pins k = not (eqb (get_or pins k 0) 0)

-- number 11: the entry of a pinned original is not its own number, so that it is sent elsewhere or dropped
unfoldable pub moves_pinned : (pins list : List ℕ) → Bool
moves_pinned pins list = any (λ k. is_pinned pins k && not (eqb (get_or list k 0) k)) (range 0 (length list))
