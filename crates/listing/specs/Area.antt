-- A lent area of which the front was written.
use Rattle.std.specs.Prelude.{◌≡◌, List, ◌++◌, ℕ, length, drop}

-- the front is new, and behind it the area is as it was
abbrev pub over : (front area : List ℕ) → List ℕ
over front area = front ++ drop (length front) area

-- as many as the front has were written, and nothing else
abbrev pub Written : (front before after : List ℕ) → (count : ℕ) → Type 0
Written front before after count = (count ≡ length front) × (after ≡ over front before)
