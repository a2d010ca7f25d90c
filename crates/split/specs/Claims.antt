-- What is claimed of the split, as types. The proofs are in proofs/, and `claims` of src/ asks for them.
use Rattle.std.specs.Prelude.{◌≡◌, true, false, ◌||◌, List, [], ◌∷◌, ℕ, ◌+◌, ◌-◌, ◌*◌, ◌≤◌, ◌<◌, eqb, leb, length, get_or}
use Rattle.flash.specs.Lists.{range, any}
use Rattle.flash.specs.Geometry.{original_count, pins_len, sets_len}
use Rattle.split.specs.OneToOne.{met_twice, is_one_to_one, dropped, kept_entries, bad_list}
use Rattle.split.specs.Drops.{is_dropped, completed}
use Rattle.split.specs.Split.{is_split}
use Rattle.split.specs.Pins.{moves_pinned}
use Rattle.split.specs.PinFirst.{moves_pinned_kept}
use Rattle.split.specs.Rule.{source, destination, block_at, lowest_unused, pages_met, sets_given, split_by_rule}
use Rattle.split.specs.Request.{Request}
use Rattle.split.specs.Answer.{split_answer}

-- the rule splits every accepted list
abbrev pub SplitEnds : Type 0
SplitEnds =
    (n m : ℕ) (list : List ℕ) → length list ≡ n * m → is_one_to_one (n * m) list ≡ true → is_split n m list (split_by_rule n m list) ≡ true

-- the pages that the walk for page k meets, within a bound
unfoldable pub walk_of : (m : ℕ) → List ℕ → (k bound : ℕ) → List ℕ
walk_of m list k bound =
    let given = sets_given m list k in
    let a = lowest_unused m list given source (block_at m list source k) in
    let b = lowest_unused m list given destination (block_at m list destination k) in
    pages_met m list given bound destination (block_at m list destination k) a b

-- The rule's walk is bounded by k, and a larger bound gives the same pages: the bound is never what stops it.
abbrev pub WalkEnds : Type 0
WalkEnds =
    (n m : ℕ) (list : List ℕ) → length list ≡ n * m → is_one_to_one (n * m) list ≡ true
    → (k more : ℕ) → k < n * m → walk_of m list k (k + more) ≡ walk_of m list k k

abbrev pub WalkIsShort : Type 0
WalkIsShort =
    (n m : ℕ) (list : List ℕ) → length list ≡ n * m → is_one_to_one (n * m) list ≡ true
    → (k : ℕ) → k < n * m → length (walk_of m list k k) ≤ 2 * n - 2

-- The bound is met: by page 4 of six, of three blocks.
abbrev pub WalkBoundMet : Type 0
WalkBoundMet = length (walk_of 2 (0 ∷ 2 ∷ 1 ∷ 4 ∷ 3 ∷ 5 ∷ []) 4 4) ≡ 2 * 3 - 2

-- A list that is not refused as 3 is completed to a permutation of the page numbers: a page that is kept goes where it is sent, and those
-- that are dropped, ascending, get places that no kept page is sent to, ascending.
abbrev pub Completes : Type 0
Completes =
    (list : List ℕ) → bad_list (length list) list ≡ false
    → (length (completed list) ≡ length list)
    × (is_one_to_one (length list) (completed list) ≡ true)
    × ((k : ℕ) → is_dropped list k ≡ false → get_or (completed list) k 0 ≡ get_or list k 0)
    × ((k : ℕ) → k < length list → is_dropped list k ≡ true → any (eqb (get_or (completed list) k 0)) (kept_entries list) ≡ false)
    × ((i j : ℕ) → i < j → j < length list → is_dropped list i ≡ true → is_dropped list j ≡ true
    → get_or (completed list) i 0 < get_or (completed list) j 0)

-- Of a list that drops no page all is as it was: it is complete, and an entry out of range or met twice is 3.
abbrev pub NoDrops : Type 0
NoDrops =
    (list : List ℕ) → any (eqb dropped) list ≡ false
    → (completed list ≡ list)
    × ((originals : ℕ) → bad_list originals list ≡ (any (leb originals) list || met_twice list))

-- Two pages of four are dropped, and both of two. Page 0 is pinned: dropped or sent elsewhere it is refused as 11; once only the latter was.
abbrev pub DropCases : Type 0
DropCases =
    (completed (65535 ∷ 2 ∷ 65535 ∷ 0 ∷ []) ≡ 1 ∷ 2 ∷ 3 ∷ 0 ∷ [])
    × (completed (65535 ∷ 65535 ∷ []) ≡ 0 ∷ 1 ∷ [])
    × (bad_list 2 (65535 ∷ 65535 ∷ []) ≡ false)
    × (bad_list 3 (1 ∷ 65535 ∷ 1 ∷ []) ≡ true)
    × (completed (65535 ∷ 0 ∷ []) ≡ 1 ∷ 0 ∷ [])
    × (moves_pinned (1 ∷ 0 ∷ []) (65535 ∷ 0 ∷ []) ≡ true)
    × (moves_pinned_kept (1 ∷ 0 ∷ []) (65535 ∷ 0 ∷ []) ≡ false)
    × (moves_pinned (1 ∷ 0 ∷ []) (1 ∷ 0 ∷ []) ≡ true)

-- What a split call filled passes the tests of run and read: their numbers 2, 3, 11 and 4 are not given for it.
abbrev pub FilledFits : Type 0
FilledFits =
    (R : Request) → (split_answer R).number ≡ 0
    → (length (split_answer R).sets ≡ sets_len R.sizes)
    × (length R.pins ≡ pins_len R.sizes)
    × (bad_list (original_count R.sizes) R.list ≡ false)
    × (moves_pinned R.pins R.list ≡ false)
    × (is_split R.sizes.n R.sizes.m (completed R.list) (split_answer R).sets ≡ true)
