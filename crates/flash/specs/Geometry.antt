-- Rules 1.1 to 1.4 and 1.11 to 1.15: the sizes, where a page lies, and how long each lent part is.
use Rattle.std.specs.Prelude.{Bool, ◌&&◌, ℕ, ◌+◌, ◌-◌, ◌*◌, ◌/◌, ◌%◌, ◌≤◌, ◌<◌, leb, ltb}
use Rattle.flash.specs.declared.sizes.Sizes.{Sizes}

-- Rule 1.4. A letter is a phase tag: it tells in which phase of the move a page was written.
unfoldable pub is_letter : ℕ → Bool
is_letter mark = ltb mark 3

-- rule 1.4: the letter that comes i after s
unfoldable pub letter : Sizes → (i : ℕ) → ℕ
letter Z i = (Z.s + i) % 3

unfoldable pub in_range : Sizes → Bool
in_range Z =
    leb 1 Z.n && leb Z.n 64 && leb 1 Z.m && leb Z.m 64 && leb 1 Z.p && leb Z.p 4096 && is_letter Z.s

-- the same as facts about the numbers
pub record Bounds (Z : Sizes) : Type 0 where
  pub n-low : 1 ≤ Z.n
  pub n-high : Z.n ≤ 64
  pub m-low : 1 ≤ Z.m
  pub m-high : Z.m ≤ 64
  pub p-low : 1 ≤ Z.p
  pub p-high : Z.p ≤ 4096
  pub s-high : Z.s < 3

-- rule 1.3
abbrev pub slot : (m block page : ℕ) → ℕ
slot m block page = block * m + page

-- rules 1.11 and 1.12: the block and the page of a page number
abbrev pub block_of : (m k : ℕ) → ℕ
block_of m k = k / m + 1

abbrev pub page_of : (m k : ℕ) → ℕ
page_of m k = k % m

abbrev pub slot_of : (m k : ℕ) → ℕ
slot_of m k = slot m (block_of m k) (page_of m k)

-- the original that is page `page` of data block `block`
abbrev pub number_at : (m block page : ℕ) → ℕ
number_at m block page = (block - 1) * m + page

abbrev pub original_count : Sizes → ℕ
original_count Z = Z.n * Z.m

abbrev pub slot_count : Sizes → ℕ
slot_count Z = (Z.n + 1) * Z.m

-- rule 1.3
abbrev pub store_len : Sizes → ℕ
store_len Z = slot_count Z * Z.p

-- rule 1.3
abbrev pub marks_len : Sizes → ℕ
marks_len Z = slot_count Z

-- rule 1.13
abbrev pub list_len : Sizes → ℕ
list_len Z = original_count Z

-- rule 1.14
abbrev pub sets_len : Sizes → ℕ
sets_len Z = original_count Z

-- rule 1.18
abbrev pub pins_len : Sizes → ℕ
pins_len Z = original_count Z

-- rule 1.15
abbrev pub work_len : Sizes → ℕ
work_len Z = Z.p
