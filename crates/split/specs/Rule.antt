-- Rules 2.3 and 2.4: how the split call fills the set bytes. Nothing above this crate relies on it.
use Rattle.std.specs.Prelude.{Bool, cond, ◌&&◌, not, List, [], ◌∷◌, ◌++◌, map, ℕ, zero, suc, ◌*◌, eqb, ltb, length}
use Rattle.flash.specs.Lists.{range, any, first}
use Rattle.split.specs.Split.{source_block, dest_block, set_of}

-- the two ends of a move
pub data End : Type 0 where
  source : End
  destination : End

unfoldable pub other_end : End → End
other_end source = destination
other_end destination = source

-- a for b and b for a
unfoldable pub swapped : (a b set : ℕ) → ℕ
swapped a b set = cond (eqb set a) b (cond (eqb set b) a set)

module _ (m : ℕ) (list : List ℕ) where
  unfoldable pub block_at : End → (k : ℕ) → ℕ
  block_at source k = source_block m k
  block_at destination k = dest_block m list k

  -- Pages get their sets in the order of their numbers: `given` has those of the pages 0, 1, .. that have one by now.
  module _ (given : List ℕ) where
    -- the page has this block at this end, and this set
    unfoldable pub is_page_of : End → (block set k : ℕ) → Bool
    is_page_of end block set k = eqb (block_at end k) block && eqb (set_of given k) set

    -- a page that has the block at this end has the set
    unfoldable pub is_used : End → (block set : ℕ) → Bool
    is_used end block set = any (is_page_of end block set) (range 0 (length given))

    -- the lowest set that none of them has; m if there is none
    unfoldable pub lowest_unused : End → (block : ℕ) → ℕ
    lowest_unused end block = first (λ set. not (is_used end block set)) (range 0 m) m

    -- The alternating path: the pages met from a block at one end on, of one set and of the other in turn. No page is met twice, so
    -- that `bound` is enough.
    unfoldable pub pages_met : (bound : ℕ) → End → (block set other : ℕ) → List ℕ
    pages_met zero end block set other = []
    pages_met (suc bound) end block set other =
        let met = first (is_page_of end block set) (range 0 (length given)) (length given) in
        cond (ltb met (length given)) (met ∷ pages_met bound (other_end end) (block_at (other_end end) met) other set) []

    -- a and b exchanged on the pages met
    unfoldable pub exchange : (a b : ℕ) → (met : List ℕ) → List ℕ
    exchange a b met =
        map (λ k. cond (any (eqb k) met) (swapped a b (set_of given k)) (set_of given k)) (range 0 (length given))

    -- the sets once the next page has one
    unfoldable pub give_next : List ℕ
    give_next =
        let k = length given in
        let a = lowest_unused source (block_at source k) in
        let b = lowest_unused destination (block_at destination k) in
        -- page k gets a, after an exchange where a page with its destination block has a already
        cond (is_used destination (block_at destination k) a)
        (exchange a b (pages_met k destination (block_at destination k) a b) ++ (a ∷ []))
        (given ++ (a ∷ []))

  -- the sets of the first `count` pages
  unfoldable pub sets_given : (count : ℕ) → List ℕ
  sets_given zero = []
  sets_given (suc count) = give_next (sets_given count)

-- the set bytes that the split call leaves
unfoldable pub split_by_rule : (n m : ℕ) → List ℕ → List ℕ
split_by_rule n m list = sets_given m list (n * m)
