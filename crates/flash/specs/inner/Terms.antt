-- The sum as the code takes it, four pages a pass.
use Rattle.std.specs.Prelude.{Bool, cond, List, [], map, ℕ, ◌+◌, ◌*◌, ltb, length, get_or}
use Rattle.std.specs.Int.Bits.{bit_xor}
use Rattle.flash.specs.Lists.{range}
use Rattle.flash.specs.PageSum.{◌⊕◌}
use Rattle.flash.specs.declared.slots.Terms.{Terms}

-- the slot at an index, or the first behind the last
abbrev pub slot_at : (slots : List ℕ) (at : ℕ) → ℕ
slot_at slots at = get_or slots at (get_or slots 0 0)

abbrev pub terms_of : (slots : List ℕ) → Terms
terms_of slots = record { count = length slots; one = slot_at slots 0; two = slot_at slots 1; three = slot_at slots 2; four = slot_at slots 3 }

-- what holds of all four slots
pub record EachTerm (P : ℕ → Type 0) (terms : Terms) : Type 0 where
  pub first : P terms.one
  pub second : P terms.two
  pub third : P terms.three
  pub fourth : P terms.four

-- the sum of the first of four bytes
abbrev pub byte_sum : (terms a b c d : ℕ) → ℕ
byte_sum terms a b c d =
    cond (ltb terms 2) a (cond (ltb terms 3) (bit_xor a b) (cond (ltb terms 4) (bit_xor (bit_xor a b) c) (bit_xor (bit_xor (bit_xor a b) c) d)))

-- byte i of the sum of the terms' pages
abbrev pub sum_at : (store : List ℕ) (p : ℕ) (terms : Terms) (i : ℕ) → ℕ
sum_at store p terms i =
    byte_sum terms.count
    (get_or store (terms.one * p + i) 0) (get_or store (terms.two * p + i) 0) (get_or store (terms.three * p + i) 0) (get_or store (terms.four * p + i) 0)

-- the sum of the terms' pages
unfoldable pub sum_of : (store : List ℕ) (p : ℕ) (terms : Terms) → List ℕ
sum_of store p terms = map (λ i. sum_at store p terms i) (range 0 p)

-- what a pass makes of a page: that sum, or the page with it added
abbrev pub passed : (store : List ℕ) (p : ℕ) (terms : Terms) (add : Bool) (page : List ℕ) → List ℕ
passed store p terms add page = cond add page [] ⊕ sum_of store p terms
