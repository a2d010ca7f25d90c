-- A page as pages of slots and perhaps one of 255s add up to it.
use Rattle.std.specs.Prelude.{Bool, cond, List, ℕ, replicate}
use Rattle.flash.specs.Lists.{part}
use Rattle.flash.specs.PageSum.{◌⊕◌, sum}

-- where nothing adds to it, it is all zeros
abbrev pub total_page : (p : ℕ) (filler : Bool) (store slots : List ℕ) → List ℕ
total_page p filler store slots = replicate p (cond filler 255 0) ⊕ sum (λ t. part p t store) slots
