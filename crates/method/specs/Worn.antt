-- Rules 12.2 to 12.4: what the erases of a call add to the counters, and whether a move would wear a block out.
use Rattle.std.specs.Prelude.{Bool, cond, ◌&&◌, ◌||◌, List, [], ◌∷◌, ℕ, ◌+◌, eqb, ltb}
use Rattle.flash.specs.Lists.{range, any}
use Rattle.flash.specs.declared.wear.Wear.{Wear}
use Rattle.flash.specs.Wear.{counter_at, risen}
use Rattle.method.specs.Place.{Operation, write, erase, done}

-- an erase adds one to its block
unfoldable pub worn_once : Operation → Wear → Wear
worn_once (write pass block page) wear = wear
worn_once (erase block) wear = risen block wear
worn_once done wear = wear

-- one operation after the other
unfoldable pub worn_by : List Operation → Wear → Wear
worn_by [] wear = wear
worn_by (operation ∷ operations) wear = worn_by operations (worn_once operation wear)

-- the erases of a block in a whole move that nothing cuts
unfoldable pub erases_of : (n block : ℕ) → ℕ
erases_of n block = cond (eqb block 0 || eqb block n) 1 2

-- for some block of the store they would take the counter past the limit
unfoldable pub wears_out : (n : ℕ) → Wear → (limit : ℕ) → Bool
wears_out n wear limit = any (λ block. ltb limit (counter_at wear block + erases_of n block)) (range 0 (n + 1))

-- number 12: looked for where a move begins, and nowhere else
unfoldable pub is_worn_out : (n : ℕ) → Wear → (place limit : ℕ) → Bool
is_worn_out n wear place limit = eqb place 0 && wears_out n wear limit
