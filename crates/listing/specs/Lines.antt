-- Rule 9.6: the lines that the step program writes, each ended by a line feed.
use Rattle.std.specs.Prelude.{◌≡◌, List, [], ◌∷◌, ◌++◌, ℕ, ◌+◌, ◌≤◌, length, take, drop}
use Rattle.flash.specs.Lists.{concat_map}
use Rattle.listing.specs.Digits.{small, decimal, hex}

-- what the line of a write starts with: 32 is a space, 87 `W`
abbrev pub write_head : (step block page : ℕ) → List ℕ
write_head step block page = decimal step ++ (32 ∷ 87 ∷ 32 ∷ decimal block) ++ (32 ∷ decimal page)

-- the line of a write and that of an erase: 10 is the line feed, 69 `E`
unfoldable pub write_line : (step block page : ℕ) → (bytes : List ℕ) → List ℕ
write_line step block page bytes = write_head step block page ++ (32 ∷ concat_map (hex small) bytes) ++ (10 ∷ [])

unfoldable pub erase_line : (step block : ℕ) → List ℕ
erase_line step block = decimal step ++ (32 ∷ 69 ∷ 32 ∷ decimal block) ++ (10 ∷ [])

-- Rule 13.2: a write in the form that names, in place of bytes, the originals that the page is the sum of.
unfoldable pub originals_line : (step block page : ℕ) → (originals : List ℕ) → List ℕ
originals_line step block page originals = write_head step block page ++ concat_map (λ k. 32 ∷ decimal k) originals ++ (10 ∷ [])

-- the last line: `end `, the writes and the erases
unfoldable pub end_line : (writes erases : ℕ) → List ℕ
end_line writes erases = (101 ∷ 110 ∷ 100 ∷ 32 ∷ decimal writes) ++ (32 ∷ decimal erases) ++ (10 ∷ [])

-- `refused ` and the number
unfoldable pub refused_line : (number : ℕ) → List ℕ
refused_line number = (114 ∷ 101 ∷ 102 ∷ 117 ∷ 115 ∷ 101 ∷ 100 ∷ 32 ∷ decimal number) ++ (10 ∷ [])

-- `unreadable`
unfoldable pub unreadable_line : List ℕ
unreadable_line = 117 ∷ 110 ∷ 114 ∷ 101 ∷ 97 ∷ 100 ∷ 97 ∷ 98 ∷ 108 ∷ 101 ∷ 10 ∷ []

-- A text was printed into a lent part at a position: the next position is behind it, and all but the text is as it was.
pub record Printed (text before : List ℕ) (at : ℕ) (after : List ℕ) (next : ℕ) : Type 0 where
  pub next-is : next ≡ at + length text
  pub fits : next ≤ length before
  pub text-is : after ≡ take at before ++ (text ++ drop next before)
