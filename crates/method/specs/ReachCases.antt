-- Worked cases of the reach of one page, as those of Cases.antt: the program's case with one page changed, after each of its steps. The bound of
-- three pages is met, with the page still in its place and with it at its destination.
use Rattle.std.specs.Prelude.{◌≡◌, List, [], ◌∷◌, map, ℕ}
use Rattle.flash.specs.Lists.{range}
use Rattle.flash.specs.Chip.{Chip}
use Rattle.split.specs.Request.{Request}
use Rattle.flash.specs.Wear.{counter_end, unworn}
use Rattle.method.specs.Move.{move}
use Rattle.method.specs.Reach.{reached, slots_apart, Changed, Lends, Lasting, moved}
use Rattle.method.specs.Cases.{chip, junk, runs, three, three_at_rest, half, half_at_rest}
use Rattle.method.specs.DropCases.{thrown}

-- the program's case with another page 0, page 1 or page 2
abbrev changed_to : (store : List ℕ) → Chip
changed_to store = chip (255 ∷ store) (255 ∷ 0 ∷ 0 ∷ 0 ∷ [])

-- the slots that differ after so many steps
abbrev apart_after : Request → (one other : Chip) → (steps : ℕ) → List ℕ
apart_after R one other steps =
    slots_apart R.sizes (runs R one (junk R.sizes.p) 0 steps).chip (runs R other (junk R.sizes.p) 0 steps).chip

-- at rest and after each of twelve steps
abbrev Touches : Request → (store : List ℕ) → (slots : List (List ℕ)) → Type 0
Touches R store slots = map (apart_after R three_at_rest (changed_to store)) (range 0 13) ≡ slots

-- what the move is lent, with these budgets
abbrev in_parts : (budgets : List ℕ) → Lends
in_parts budgets = record { work = junk 1; wear = unworn; limit = counter_end; budgets = budgets }

-- two blocks change places, and of the first page the second byte is another
abbrev half_changed : Chip
half_changed = chip (255 ∷ 255 ∷ 255 ∷ 7 ∷ 255 ∷ 255 ∷ []) (255 ∷ 0 ∷ 0 ∷ [])

pub record ReachCasesHold : Type 0 where
  -- the premises can be met
  pub changed : Changed three three_at_rest (changed_to (1 ∷ 2 ∷ 6 ∷ [])) 2
  pub lasting : Lasting three.sizes (in_parts (5 ∷ 0 ∷ 4 ∷ []))
  -- page 2 goes from block 3, the top, to block 1: three pages are c(1), c(3) and its own
  pub from-the-top : Touches three (1 ∷ 2 ∷ 6 ∷ [])
      ((3 ∷ []) ∷ (0 ∷ 3 ∷ []) ∷ (0 ∷ 3 ∷ []) ∷ (0 ∷ 3 ∷ []) ∷ (0 ∷ 3 ∷ []) ∷ (0 ∷ 2 ∷ 3 ∷ []) ∷ (0 ∷ 2 ∷ []) ∷ (0 ∷ 2 ∷ [])
      ∷ (0 ∷ []) ∷ (0 ∷ []) ∷ (0 ∷ []) ∷ (0 ∷ 1 ∷ []) ∷ (1 ∷ []) ∷ [])
  -- page 0 goes from block 1 to block 2: three pages are c(1), c(2) and its last
  pub between : Touches three (3 ∷ 2 ∷ 4 ∷ [])
      ((1 ∷ []) ∷ (0 ∷ 1 ∷ []) ∷ (0 ∷ []) ∷ (0 ∷ 1 ∷ []) ∷ (0 ∷ 1 ∷ []) ∷ (0 ∷ 1 ∷ []) ∷ (0 ∷ 1 ∷ []) ∷ (0 ∷ 1 ∷ [])
      ∷ (0 ∷ 1 ∷ []) ∷ (0 ∷ 1 ∷ 2 ∷ []) ∷ (0 ∷ 2 ∷ []) ∷ (0 ∷ 2 ∷ []) ∷ (2 ∷ []) ∷ [])
  -- page 1 goes to the top, so that one coded page has it
  pub to-the-top : Touches three (1 ∷ 3 ∷ 4 ∷ [])
      ((2 ∷ []) ∷ (2 ∷ []) ∷ (2 ∷ []) ∷ (1 ∷ 2 ∷ []) ∷ (1 ∷ []) ∷ (1 ∷ []) ∷ (1 ∷ []) ∷ (1 ∷ 3 ∷ [])
      ∷ (1 ∷ 3 ∷ []) ∷ (1 ∷ 3 ∷ []) ∷ (3 ∷ []) ∷ (3 ∷ []) ∷ (3 ∷ []) ∷ [])
  -- the definition gives the same
  pub told : map (λ place. reached (move three) place 2) (range 0 13) ≡ map (apart_after three three_at_rest (changed_to (1 ∷ 2 ∷ 6 ∷ []))) (range 0 13)
  -- a list that drops page 2 leads page 0 the same way; the dropped page, of which nothing is claimed, is gone with its block
  pub dropped : Touches thrown (1 ∷ 2 ∷ 6 ∷ [])
      ((3 ∷ []) ∷ (3 ∷ []) ∷ (3 ∷ []) ∷ (3 ∷ []) ∷ (3 ∷ []) ∷ (3 ∷ []) ∷ [] ∷ [] ∷ [] ∷ [] ∷ [] ∷ [] ∷ [] ∷ [])
      × (map (apart_after thrown three_at_rest (changed_to (3 ∷ 2 ∷ 4 ∷ []))) (range 0 13)
      ≡ map (apart_after three three_at_rest (changed_to (3 ∷ 2 ∷ 4 ∷ []))) (range 0 13))
  -- the first byte of the coded page stays
  pub offsets : ((runs half half_at_rest (junk 2) 0 1).chip.store ≡ 0 ∷ 252 ∷ 255 ∷ 3 ∷ 255 ∷ 255 ∷ [])
      × ((runs half half_changed (junk 2) 0 1).chip.store ≡ 0 ∷ 248 ∷ 255 ∷ 7 ∷ 255 ∷ 255 ∷ [])
  -- budgets of 5, 0 and 4 lead to place 9, and one of 99 to the finish
  pub budgets : ((moved three three_at_rest (in_parts (5 ∷ 0 ∷ 4 ∷ []))).place ≡ 9) × ((moved three three_at_rest (in_parts (99 ∷ []))).finished ≡ 1)
