-- A second list of events for demand 3, with two pages a block: what a cut may leave page by page, calls that are refused, and the
-- finish with what comes after it. Every history is written out, so that another rule of the cut or of the events is noticed.
use Rattle.std.specs.Prelude.{Bool, true, false, ◌≡◌, List, [], ◌∷◌, map, ℕ, length, take, drop}
use Rattle.flash.specs.Lists.{range, count}
use Rattle.flash.specs.Chip.{Chip}
use Rattle.flash.specs.Wear.{counter_end, unworn}
use Rattle.split.specs.Request.{Request, request_of, unpinned}
use Rattle.method.specs.Move.{plan}
use Rattle.method.specs.State.{state_of}
use Rattle.method.specs.Step.{is_erase}
use Rattle.method.specs.Runs.{Start}
use Rattle.method.specs.Answers.{read_answer}
use Rattle.method.specs.Events.{run, mend, read, between, Event, History, number_of, starting, after, moments}
use Rattle.method.specs.Demand3.{AllAllowed, AtEach, Keeps}
use Rattle.method.specs.Cases.{chip, junk, two, two_at_rest, two_halfway, two_finished}
use Rattle.method.specs.Example.{whole, cut_inside}

-- the same request for a chip of three blocks
abbrev other_sizes : Request
other_sizes = unpinned (record { n = 3; m = 2; p = 1; s = 0 }) two.list two.sets

-- the same move with its first and its last page pinned, which stay
abbrev pinned_ends : Request
pinned_ends = request_of two.sizes two.list (1 ∷ 0 ∷ 0 ∷ 1 ∷ []) two.sets

-- before page 0 of block 1 is written, and before block 2 is erased
abbrev at3 : Chip
at3 = chip (6 ∷ 1 ∷ 255 ∷ 255 ∷ 4 ∷ 8 ∷ []) (1 ∷ 1 ∷ 255 ∷ 255 ∷ 0 ∷ 0 ∷ [])

abbrev at5 : Chip
at5 = chip (6 ∷ 1 ∷ 4 ∷ 8 ∷ 4 ∷ 8 ∷ []) (1 ∷ 1 ∷ 1 ∷ 1 ∷ 0 ∷ 0 ∷ [])

-- what is written down of a history: all of it, but of the operations begun their number and the erases among them
pub data Noted : Type 0 where
  note : (begun erases mends cuts : ℕ) → (unmended finished : Bool) → Chip → Noted

unfoldable pub noted : History → Noted
noted h = note (length h.begun) (count is_erase h.begun) h.mends h.cuts h.unmended h.finished h.chip

-- after each event of a list
unfoldable pub histories : List Event → History → List History
histories [] h = []
histories (event ∷ events) h = after event h ∷ histories events (after event h)

-- the number that each call would return
unfoldable pub numbers : List Event → History → List ℕ
numbers [] h = []
numbers (event ∷ events) h = number_of event.call h.chip ∷ numbers events (after event h)

-- `byte` is what a cut leaves on each torn page; the marks that it leaves differ
module _ (byte : ℕ) where
  -- inside the erase of block 1: page 0 is kept, page 1 is torn
  abbrev upper_torn : Chip
  upper_torn = chip (6 ∷ 1 ∷ 1 ∷ byte ∷ 4 ∷ 8 ∷ []) (1 ∷ 1 ∷ 0 ∷ 100 ∷ 0 ∷ 0 ∷ [])

  -- inside mend's erase of the same block: page 0 is torn as well
  abbrev both_torn : Chip
  both_torn = chip (6 ∷ 1 ∷ byte ∷ byte ∷ 4 ∷ 8 ∷ []) (1 ∷ 1 ∷ 3 ∷ 255 ∷ 0 ∷ 0 ∷ [])

  -- inside the write of page 1 of block 1
  abbrev write_torn : Chip
  write_torn = chip (6 ∷ 1 ∷ 4 ∷ byte ∷ 4 ∷ 8 ∷ []) (1 ∷ 1 ∷ 1 ∷ 254 ∷ 0 ∷ 0 ∷ [])

  -- inside the erase of block 2: page 0 is torn, page 1 is kept
  abbrev lower_torn : Chip
  lower_torn = chip (6 ∷ 1 ∷ 4 ∷ 8 ∷ byte ∷ 8 ∷ []) (1 ∷ 1 ∷ 1 ∷ 1 ∷ 255 ∷ 0 ∷ [])

  -- after the finish, inside mend's erase of the spare
  abbrev spare_torn : Chip
  spare_torn = chip (byte ∷ 255 ∷ 1 ∷ 4 ∷ 2 ∷ 8 ∷ []) (200 ∷ 255 ∷ 2 ∷ 2 ∷ 2 ∷ 2 ∷ [])

  unfoldable pub events : List Event
  events =
      cut_inside (run two (junk 1) unworn 0 5 counter_end) 2 upper_torn
      -- block 1 is torn: a read, a read that is cut, and a run that is refused, for the lengths of what is lent
      ∷ whole (read two (junk 1) 1)
      ∷ record { call = read two (junk 1) 3; cut = between 0 }
      ∷ whole (run other_sizes (junk 1) unworn 0 5 counter_end)
      -- mend is cut as well, and called again
      ∷ cut_inside (mend two.sizes unworn) 0 both_torn
      ∷ whole (mend two.sizes unworn)
      -- after a torn write, a mend for other sizes is refused and changes nothing, but it is a mend
      ∷ cut_inside (run two (junk 1) unworn 3 9 counter_end) 1 write_torn
      ∷ whole (mend other_sizes.sizes unworn)
      ∷ whole (mend two.sizes unworn)
      -- cut when all its steps are finished, before it returns
      ∷ record { call = run two (junk 1) unworn 3 2 counter_end; cut = between 2 }
      ∷ whole (mend two.sizes unworn)
      ∷ cut_inside (run two (junk 1) unworn 5 1 counter_end) 0 lower_torn
      ∷ whole (mend two.sizes unworn)
      -- the finish, and what comes after it; pins need not be those of the calls before
      ∷ whole (run pinned_ends (junk 1) unworn 6 99 counter_end)
      ∷ whole (read pinned_ends (junk 1) 2)
      ∷ cut_inside (mend two.sizes unworn) 0 spare_torn
      ∷ whole (mend two.sizes unworn)
      ∷ []

  abbrev starts : History
  starts = starting two_at_rest

  abbrev all-moments : List History
  all-moments = moments events starts

  -- what the list does, written out
  pub record WrittenOut : Type 0 where
    pub answers : numbers events starts ≡ 0 ∷ 0 ∷ 0 ∷ 2 ∷ 0 ∷ 0 ∷ 0 ∷ 2 ∷ 0 ∷ 0 ∷ 0 ∷ 0 ∷ 0 ∷ 0 ∷ 0 ∷ 0 ∷ 0 ∷ []
    pub after-each : map noted (histories events starts)
        ≡ note 3 1 0 1 true false upper_torn
        ∷ note 3 1 0 1 true false upper_torn
        ∷ note 3 1 0 2 true false upper_torn
        ∷ note 3 1 0 2 true false upper_torn
        ∷ note 4 2 1 3 true false both_torn
        ∷ note 5 3 2 3 false false at3
        ∷ note 7 3 2 4 true false write_torn
        ∷ note 7 3 3 4 false false write_torn
        ∷ note 8 4 4 4 false false at3
        ∷ note 10 4 4 5 true false at5
        ∷ note 10 4 5 5 false false at5
        ∷ note 11 5 5 6 true false lower_torn
        ∷ note 12 6 6 6 false false two_halfway
        ∷ note 18 8 6 6 false true two_finished
        ∷ note 18 8 6 6 false true two_finished
        ∷ note 19 9 7 7 true true spare_torn
        ∷ note 20 10 8 7 false true two_finished
        ∷ []
    -- how many operations are begun at each moment, those inside a call included
    pub moments-are : map (λ h. length h.begun) all-moments
        ≡ 0 ∷ 1 ∷ 2 ∷ 3 ∷ 3 ∷ 3 ∷ 3 ∷ 4 ∷ 5 ∷ 5 ∷ 6 ∷ 7 ∷ 7 ∷ 8 ∷ 8 ∷ 9 ∷ 10 ∷ 10 ∷ 10 ∷ 11
        ∷ 12 ∷ 12 ∷ 13 ∷ 14 ∷ 15 ∷ 16 ∷ 17 ∷ 18 ∷ 18 ∷ 18 ∷ 19 ∷ 20 ∷ 20 ∷ []
    -- inside the first call, and inside the run to the finish, the chip goes through the states of the places
    pub first-call : map (λ h. h.chip) (take 3 all-moments) ≡ map (state_of (plan two) (1 ∷ 2 ∷ 4 ∷ 8 ∷ [])) (range 0 3)
    pub last-run : map (λ h. h.chip) (take 7 (drop 21 all-moments)) ≡ map (state_of (plan two) (1 ∷ 2 ∷ 4 ∷ 8 ∷ [])) (range 6 7)
    -- a read while page 1 of block 1 is torn: it sums n pages, which is the bound
    pub read-torn : read_answer two upper_torn (junk 1) 1 ≡ record { number = 0; count = two.sizes.n; bytes = 1; work = 2 ∷ [] }

  pub record TwoPagesHold : Type 0 where
    pub start : Start two two_at_rest
    pub allowed : AllAllowed two events starts
    pub written_out : WrittenOut
    pub kept : AtEach (Keeps two two_at_rest) all-moments
