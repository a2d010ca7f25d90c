-- Rules 3.1 to 3.3: the blocks of a set, their cycles and the coded pages. Data blocks are numbered from 1.
use Rattle.std.specs.Prelude.{Bool, cond, List, [], ◌∷◌, ℕ, ◌-◌, ◌*◌, max, eqb, get_or}
use Rattle.flash.specs.Lists.{range, iterates, first}
use Rattle.flash.specs.Geometry.{original_count}
use Rattle.split.specs.Split.{dest_block, set_of}
use Rattle.method.specs.Move.{Move}

-- the highest of x and the numbers of a list
unfoldable pub highest : (x : ℕ) → List ℕ → ℕ
highest x [] = x
highest x (y ∷ ys) = highest (max x y) ys

module _ (M : Move) where
  open M.sizes use {n, m}

  -- rule 3.1: the number of the original of a set that comes from block i
  unfoldable pub D : (set i : ℕ) → ℕ
  D set i = first (λ k. eqb (set_of M.sets k) set) (range ((i - 1) * m) m) 0

  -- the block where D(i) goes
  unfoldable pub dest : (set i : ℕ) → ℕ
  dest set i = dest_block m M.list (D set i)

  -- rule 3.1
  unfoldable pub pred : (set i : ℕ) → ℕ
  pred set i = first (λ j. eqb (dest set j) i) (range 1 n) 0

  -- the blocks of i's cycle; it has at most n of them, so n iterates meet each
  unfoldable pub cycle : (set i : ℕ) → List ℕ
  cycle set i = iterates (dest set) n i

  -- Rule 3.2. The paper calls it the tail of a semi-cycle.
  unfoldable pub top : (set i : ℕ) → ℕ
  top set i = highest i (cycle set i)

  unfoldable pub is_top : (set i : ℕ) → Bool
  is_top set i = eqb (top set i) i

  -- rule 3.3: the originals that c(i) is the sum of
  unfoldable pub coded : (set i : ℕ) → List ℕ
  coded set i = cond (is_top set i) (D set i ∷ []) (D set i ∷ D set (pred set i) ∷ [])

  -- the original that the list sends to a page number
  unfoldable pub sent_to : (number : ℕ) → ℕ
  sent_to number = first (λ k. eqb (get_or M.list k 0) number) (range 0 (original_count M.sizes)) 0
