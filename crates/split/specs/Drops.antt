-- Rule 1.19: pages that are thrown away, and the list that is split and moved in place of the lent one.
use Rattle.std.specs.Prelude.{Bool, cond, not, List, [], ◌∷◌, ℕ, eqb, length, get_or, drop}
use Rattle.flash.specs.Lists.{range, any, filter}
use Rattle.split.specs.OneToOne.{dropped, kept_entries}

unfoldable pub is_dropped : (list : List ℕ) → (k : ℕ) → Bool
is_dropped list k = eqb (get_or list k 0) dropped

-- the places that no page is sent to, ascending
unfoldable pub free_places : List ℕ → List ℕ
free_places list = filter (λ place. not (any (eqb place) (kept_entries list))) (range 0 (length list))

-- the dropped pages, ascending, get the free places, ascending
unfoldable pub paired : (list free : List ℕ) → List ℕ
paired [] free = []
paired (entry ∷ entries) free =
    cond (eqb entry dropped) (get_or free 0 0 ∷ paired entries (drop 1 free)) (entry ∷ paired entries free)

-- the completed list
unfoldable pub completed : List ℕ → List ℕ
completed list = paired list (free_places list)

-- What a call leaves of the list, which it completes in place once numbers 1, 2, 3 and 11 are ruled out. The calls for C lend it a copy.
unfoldable pub list_left : (number : ℕ) → List ℕ → List ℕ
list_left number list = cond (any (eqb number) (1 ∷ 2 ∷ 3 ∷ 11 ∷ [])) list (completed list)
