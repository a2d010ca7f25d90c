-- Rules 1.10 and 1.17: the sum of pages, and what of a page is programmed.
use Rattle.std.specs.Prelude.{not, List, [], ◌∷◌, ℕ, eqb}
use Rattle.std.specs.Int.Bits.{bit_xor}
use Rattle.flash.specs.Lists.{count}
use Rattle.flash.specs.Chip.{erased}

infixl 40 ◌⊕◌
-- Of two pages of one length. A shorter list counts as filled up with zeros, so that the empty list is the sum of no pages.
unfoldable pub ◌⊕◌ : List ℕ → List ℕ → List ℕ
◌⊕◌ [] ys = ys
◌⊕◌ (x ∷ xs) [] = x ∷ xs
◌⊕◌ (x ∷ xs) (y ∷ ys) = bit_xor x y ∷ (xs ⊕ ys)

-- the sum of the pages that `page` gives for the elements of a list
unfoldable pub sum : {A : Type 0} → (page : A → List ℕ) → List A → List ℕ
sum page [] = []
sum page (t ∷ ts) = page t ⊕ sum page ts

-- How many bytes of a page a write programs: those that are not as an erase leaves them.
unfoldable pub written_bytes : List ℕ → ℕ
written_bytes page = count (λ byte. not (eqb byte erased)) page
