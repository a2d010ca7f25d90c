-- Worked cases with counters of erases, as those of Cases.antt: the program's case, of which blocks 0 and 3 are erased once and the others twice.
use Rattle.std.specs.Prelude.{◌≡◌, List, [], ◌∷◌, ℕ}
use Rattle.flash.specs.Chip.{Chip}
use Rattle.flash.specs.Wear.{counter_end, unworn}
use Rattle.method.specs.Answers.{run_answer, mend_answer}
use Rattle.method.specs.Events.{run, mend, uncut, inside, Event, starting, wear_at_end, erases_reported}
use Rattle.method.specs.WearCounts.{Carried}
use Rattle.method.specs.Cases.{chip, junk, counts, wears, ran, recovered, resting, three, three_at_rest, three_finished, three_before_erase}
use Rattle.method.specs.Cases.{three_torn}

-- from rest, with these counters and this limit, the whole move is made and leaves these
abbrev Lasts : (counters : List ℕ) → (limit : ℕ) → (left : List ℕ) → Type 0
Lasts counters limit left =
    run_answer three three_at_rest (junk 1) (wears counters) 0 99 limit ≡ ran 12 (counts 12 6 6 6 13) 1 three_finished (4 ∷ []) left

-- a run is refused with this number, and leaves the counters
abbrev Refused : (number : ℕ) → Chip → (counters : List ℕ) → (place budget limit : ℕ) → Type 0
Refused number lent counters place budget limit =
    run_answer three lent (junk 1) (wears counters) place budget limit
    ≡ record { number = number; place = 0; tally = counts 0 0 0 0 0; finished = 0; chip = lent; work = junk 1; wear = wears counters }

abbrev WearsOut : (counters : List ℕ) → (limit : ℕ) → Type 0
WearsOut counters limit = Refused 12 three_at_rest counters 0 99 limit

-- after one step, and after two: the second is the erase of block 1
abbrev three_begun : Chip
three_begun = chip (5 ∷ 1 ∷ 2 ∷ 4 ∷ []) (1 ∷ 0 ∷ 0 ∷ 0 ∷ [])

abbrev three_erased : Chip
three_erased = chip (5 ∷ 255 ∷ 2 ∷ 4 ∷ []) (1 ∷ 255 ∷ 0 ∷ 0 ∷ [])

-- the step from place 1, with any limit
abbrev ErasesOne : (counters : List ℕ) → (limit : ℕ) → (left : List ℕ) → Type 0
ErasesOne counters limit left =
    run_answer three three_begun (junk 1) (wears counters) 1 1 limit ≡ ran 2 (counts 1 0 1 0 0) 0 three_erased (junk 1) left

-- two steps, a run that is cut inside its second, which is the erase of block 2, and a recovery, which erases that block
abbrev cut_once : List Event
cut_once =
    record { call = run three (junk 1) unworn 0 2 2; cut = uncut }
    ∷ record { call = run three (junk 1) (wears (0 ∷ 1 ∷ [])) 2 9 2; cut = inside 1 (three_torn 0) }
    ∷ record { call = mend three.sizes (wears (0 ∷ 1 ∷ [])); cut = uncut } ∷ []

pub record WearCasesHold : Type 0 where
  -- the limit is met exactly, and passed by one
  pub limit-met : Lasts [] 2 (1 ∷ 2 ∷ 2 ∷ 1 ∷ []) × WearsOut [] 1
  -- blocks 0 and 3 have one erase, and each block is looked at
  pub each-block : Lasts (9 ∷ 8 ∷ 8 ∷ 9 ∷ []) 10 (10 ∷ 10 ∷ 10 ∷ 10 ∷ [])
      × WearsOut (10 ∷ 8 ∷ 8 ∷ 9 ∷ []) 10 × WearsOut (9 ∷ 9 ∷ 8 ∷ 9 ∷ []) 10
      × WearsOut (9 ∷ 8 ∷ 9 ∷ 9 ∷ []) 10 × WearsOut (9 ∷ 8 ∷ 8 ∷ 10 ∷ []) 10
  -- blocks that the module does not have
  pub above : Lasts (0 ∷ 0 ∷ 0 ∷ 0 ∷ counter_end ∷ []) 2 (1 ∷ 2 ∷ 2 ∷ 1 ∷ counter_end ∷ [])
  -- sums do not wrap
  pub no_wrap : WearsOut (counter_end ∷ []) counter_end × WearsOut (0 ∷ counter_end ∷ []) counter_end
  -- whatever the budget, but where the move begins and nowhere else; and behind number 5
  pub begins : Refused 12 three_at_rest [] 0 0 1 × ErasesOne [] 0 (0 ∷ 1 ∷ []) × Refused 5 three_finished [] 0 9 0
  -- a counter stays at its end, and the erase is reported
  pub ended : ErasesOne (0 ∷ counter_end ∷ 7 ∷ []) counter_end (0 ∷ counter_end ∷ 7 ∷ [])
  -- mend counts its erase, and none where it erases nothing
  pub mended : (mend_answer three.sizes (three_torn 0) (wears (5 ∷ 6 ∷ 7 ∷ [])) ≡ recovered 4 1 (three_torn 255) (5 ∷ 6 ∷ 8 ∷ []))
      × (mend_answer three.sizes three_before_erase (wears (5 ∷ 6 ∷ 7 ∷ [])) ≡ recovered 3 0 three_before_erase (5 ∷ 6 ∷ 7 ∷ []))
  -- a limit that was just kept refuses the move where a cut first write led recovery back to place 0, and the next higher one takes it on
  pub again : Lasts (1 ∷ []) 2 (2 ∷ 2 ∷ 2 ∷ 1 ∷ [])
      × (mend_answer three.sizes (chip (9 ∷ 1 ∷ 2 ∷ 4 ∷ []) (254 ∷ 0 ∷ 0 ∷ 0 ∷ [])) (wears (1 ∷ [])) ≡ recovered 0 1 three_at_rest (2 ∷ []))
      × WearsOut (2 ∷ []) 2 × Lasts (2 ∷ []) 3 (3 ∷ 2 ∷ 2 ∷ 1 ∷ [])
  -- refused calls leave the counters
  pub left : Refused 5 three_finished (5 ∷ 6 ∷ 7 ∷ []) 11 9 99
      × (mend_answer three.sizes (resting 2) (wears (5 ∷ []))
      ≡ record { number = 2; place = 0; erases = 0; chip = resting 2; wear = wears (5 ∷ []) })
  -- what a cut call erased is in no record
  pub cut : Carried cut_once (starting three_at_rest) unworn
      × (wear_at_end cut_once (starting three_at_rest) unworn ≡ wears (0 ∷ 1 ∷ 1 ∷ [])) × (erases_reported cut_once (starting three_at_rest) ≡ 2)
