-- The list in the C calls.
use Rattle.std.specs.Prelude.{Bool, cond, ◌||◌, List, [], ◌∷◌, ◌++◌, ℕ, ◌+◌, ◌*◌, ◌/◌, ◌%◌, eqb, ltb, length, drop}

-- rule 1.13
unfoldable pub entries_of : List ℕ → List ℕ
entries_of [] = []
entries_of (low ∷ []) = low ∷ []
entries_of (low ∷ high ∷ bytes) = (low + high * 256) ∷ entries_of bytes

-- an odd number of bytes is no list: it is not of its exact length, whatever the sizes
unfoldable pub is_odd : List ℕ → Bool
is_odd bytes = eqb (length bytes % 2) 1

-- What is decoded where there is room for so many entries: those of the list, or none where the bytes are no list or a longer
-- one. No sizes have an empty list, so a call refuses it as it does such bytes.
unfoldable pub entries_within : (room : ℕ) → List ℕ → List ℕ
entries_within room bytes = cond (is_odd bytes || ltb room (length bytes / 2)) [] (entries_of bytes)

-- an area that a list was decoded into: its entries stand first, and behind them the area is as it was
abbrev pub decoded_into : (area bytes : List ℕ) → List ℕ
decoded_into area bytes = let entries = entries_within (length area) bytes in entries ++ drop (length entries) area
