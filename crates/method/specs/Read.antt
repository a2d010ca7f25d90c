-- Rules 6.1 to 6.6: the slots whose pages are summed for an original, and what each of them adds. They follow from the sizes, the marks, the
-- list, the split, s and k alone.
use Rattle.std.specs.Prelude.{Bool, cond, ◌&&◌, ◌||◌, List, [], ◌∷◌, map, ℕ, zero, suc, ◌+◌, ◌-◌, eqb, get_or, replicate}
use Rattle.flash.specs.Lists.{range, any}
use Rattle.flash.specs.Geometry.{slot, block_of, slot_of, letter}
use Rattle.flash.specs.PageSum.{sum}
use Rattle.flash.specs.Chip.{Chip, erased, page_at, mark_at, is_full}
use Rattle.split.specs.Split.{set_of}
use Rattle.method.specs.Move.{Move, Plan}
use Rattle.method.specs.Cycle.{D, dest, pred, top, is_top}

module _ (M : Move) (marks : List ℕ) where
  open M.sizes use {n, m}

  -- block `block` is full of the letter that comes i after s
  unfoldable pub full_of : (i block : ℕ) → Bool
  full_of i block = is_full m marks block (letter M.sizes i)

  -- c(v) is page `set` of the block below v, by rule 4.1
  unfoldable pub coded_slot : (set v : ℕ) → ℕ
  coded_slot set v = slot m (v - 1) set

  -- where original k lies before the move, and after it
  unfoldable pub plain_slot : (k : ℕ) → ℕ
  plain_slot k = slot_of m k

  unfoldable pub final_slot : (k : ℕ) → ℕ
  final_slot k = slot_of m (get_or M.list k 0)

  -- Rule 6.3, from block v on. The top is met within n turns.
  unfoldable pub go_back : (set bound v : ℕ) → List ℕ
  go_back set zero v = []
  go_back set (suc bound) v =
      let u = pred M set v in
      coded_slot set v
      ∷ cond (is_top M set v) [] (cond (full_of 0 u) (plain_slot (D M set u) ∷ []) (go_back set bound u))

  -- Rule 6.4, from block v on. A block that is full of s + 2 is met within n turns.
  unfoldable pub go_on : (set bound v : ℕ) → List ℕ
  go_on set zero v = []
  go_on set (suc bound) v =
      let u = dest M set v in
      coded_slot set u ∷ cond (full_of 2 (dest M set u)) (final_slot (D M set u) ∷ []) (go_on set bound u)

  -- the first rule that applies, for v the block that k came from
  unfoldable pub read_slots : (k : ℕ) → List ℕ
  read_slots k =
      let v = block_of m k in
      let set = set_of M.sets k in
      -- 6.1
      cond (full_of 0 v) (plain_slot k ∷ [])
      -- 6.2
      (cond (full_of 2 (dest M set v)) (final_slot k ∷ [])
      -- 6.3
      (cond (full_of 1 (top M set v - 1) || any (full_of 0) (range 0 (n + 1))) (go_back set n v)
      -- 6.4
      (go_on set n v)))

-- A term of a sum: the page of a slot, or the page of 255s that a dropped original counts as.
pub data Term : Type 0 where
  stored : (t : ℕ) → Term
  filler : Term

unfoldable pub filler_page : (P : ℕ) → List ℕ
filler_page P = replicate P erased

unfoldable pub term_page : (P : ℕ) → Chip → Term → List ℕ
term_page P chip (stored t) = page_at P chip t
term_page P chip filler = filler_page P

-- the slots among the terms: how many there are is the count of stored pages summed
unfoldable pub stored_slots : List Term → List ℕ
stored_slots [] = []
stored_slots (stored t ∷ terms) = t ∷ stored_slots terms
stored_slots (filler ∷ terms) = stored_slots terms

module _ (X : Plan) (marks : List ℕ) where
  open X.move.sizes use {m}

  -- Rule 6.6: a slot adds its page; but while it is marked s, it holds an original of its own, which counts as 255s if it is dropped.
  unfoldable pub term_at : (t : ℕ) → Term
  term_at t = cond (eqb (mark_at marks t) (letter X.move.sizes 0) && X.is_dropped (t - m)) filler (stored t)

  -- rule 6.6: an original that is dropped is not looked for
  unfoldable pub read_terms : (k : ℕ) → List Term
  read_terms k = cond (X.is_dropped k) (filler ∷ []) (map term_at (read_slots X.move marks k))

-- rule 7.5: what read leaves in the work page
unfoldable pub read_page : Plan → Chip → (k : ℕ) → List ℕ
read_page X chip k = sum (term_page X.move.sizes.p chip) (read_terms X chip.marks k)
