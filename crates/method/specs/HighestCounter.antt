-- What is claimed of the pair in the record, the count of the most worn block and the lowest such block.
use Rattle.std.specs.Prelude.{◌≡◌, List, [], ◌∷◌, ◌++◌, ℕ, ◌≤◌, ◌<◌, replicate}
use Rattle.flash.specs.Chip.{Chip}
use Rattle.flash.specs.declared.wear.Wear.{Wear}
use Rattle.flash.specs.Wear.{counter_end, counter_at, raised, risen, refreshed, PairCorrect, unworn}
use Rattle.method.specs.Worn.{worn_by}
use Rattle.method.specs.Answers.{run_answer, mend_answer}
use Rattle.method.specs.Events.{Call, Event, History, steps_of, wear_given, wear_returned, wear_at_end}
use Rattle.method.specs.WearCounts.{Counters, Carried}
use Rattle.method.specs.Cases.{junk, worn, two, two_at_rest, three, three_torn}

-- The update rule: what an erase makes of the pair. The count is the one that its block has then, also where it has stayed at its end.
module _ (block : ℕ) (wear back : Wear) where
  abbrev count : ℕ
  count = raised (counter_at wear block)

  pub record Updates : Type 0 where
    pub higher : wear.highest < count → (back.highest ≡ count) × (back.block ≡ block)
    pub equal-below : count ≡ wear.highest → block < wear.block → (back.highest ≡ wear.highest) × (back.block ≡ block)
    pub equal-above : count ≡ wear.highest → wear.block ≤ block → (back.highest ≡ wear.highest) × (back.block ≡ wear.block)
    pub lower : count < wear.highest → (back.highest ≡ wear.highest) × (back.block ≡ wear.block)

-- by computing; pairs that are wrong among them
pub record PairCases : Type 0 where
  pub whole-move : (run_answer two two_at_rest (junk 1) unworn 0 99 counter_end).wear ≡ worn (1 ∷ 2 ∷ 1 ∷ []) 2 1
  -- the erases are of blocks 1, 2, 1 and 0; none comes to 5
  pub too-high : (run_answer two two_at_rest (junk 1) (worn [] 5 200) 0 99 counter_end).wear ≡ worn (1 ∷ 2 ∷ 1 ∷ []) 5 200
  pub equal-below : (run_answer two two_at_rest (junk 1) (worn [] 1 200) 0 6 counter_end).wear ≡ worn (0 ∷ 1 ∷ 1 ∷ []) 1 1
  -- block 0 was never erased, but the rule does not look there
  pub equal-above : (run_answer two two_at_rest (junk 1) (worn [] 1 0) 0 6 counter_end).wear ≡ worn (0 ∷ 1 ∷ 1 ∷ []) 1 0
  pub refused : (run_answer two two_at_rest (junk 1) (worn [] 5 200) 0 99 0).wear ≡ worn [] 5 200
  -- mend erases block 2, whose counter stays at its end
  pub at-the-end : (mend_answer three.sizes (three_torn 255) (worn (0 ∷ 0 ∷ counter_end ∷ counter_end ∷ []) counter_end 3)).wear
      ≡ worn (0 ∷ 0 ∷ counter_end ∷ counter_end ∷ []) counter_end 2
  pub afresh : (refreshed (worn [] 5 200) ≡ unworn) × (refreshed (worn (3 ∷ 7 ∷ 7 ∷ 1 ∷ []) 9 255) ≡ worn (3 ∷ 7 ∷ 7 ∷ 1 ∷ []) 7 1)
      × (refreshed (worn (replicate 64 2 ++ (9 ∷ [])) 0 0) ≡ worn (replicate 64 2 ++ (9 ∷ [])) 9 64)

pub record HighestCounter : Type 0 where
  pub rule : (block : ℕ) (wear : Wear) → Updates block wear (risen block wear)
  -- from any pair, run and mend do what the rule does at each of their erases; a refused one has none
  pub by-rule : (call : Call) (chip : Chip) (kept : Wear) → wear_returned call chip kept ≡ worn_by (steps_of call chip) (wear_given call kept)
  -- from a correct pair they give a correct pair, and so does any list of calls with cuts
  pub call-keeps : (call : Call) (chip : Chip) (kept : Wear) → Counters (wear_given call kept) → PairCorrect (wear_given call kept)
      → PairCorrect (wear_returned call chip kept)
  pub list-keeps : (events : List Event) (h : History) (kept : Wear) → Counters kept → Carried events h kept → PairCorrect kept
      → PairCorrect (wear_at_end events h kept)
  -- refresh gives a correct pair from any, and leaves the counters
  pub afresh : (wear : Wear) → PairCorrect (refreshed wear) × ((refreshed wear).counters ≡ wear.counters)
  -- there is one correct pair, so from it refresh changes nothing
  pub one-pair : (one other : Wear) → one.counters ≡ other.counters → PairCorrect one → PairCorrect other → one ≡ other
  pub call-fresh : (call : Call) (chip : Chip) (kept : Wear) → Counters (wear_given call kept) → PairCorrect (wear_given call kept)
      → refreshed (wear_returned call chip kept) ≡ wear_returned call chip kept
  pub new : PairCorrect unworn
  pub cases : PairCases
