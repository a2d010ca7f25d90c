-- The worked cases (docs/RULES.md, section 10): P1 to P11, the program's case step by step, and the paper's example of eight blocks.
-- Each is an equation between a call, with all that it is given, and its whole answer; proofs/examples/Cases.antt computes it.
use Rattle.std.specs.Prelude.{true, false, ◌≡◌, List, [], ◌∷◌, ◌++◌, map, ℕ, zero, suc, ◌+◌, ◌-◌, ◌^◌, length, replicate}
use Rattle.flash.specs.Lists.{range}
use Rattle.flash.specs.declared.sizes.Sizes.{Sizes}
use Rattle.flash.specs.Chip.{Chip}
use Rattle.flash.specs.declared.wear.Wear.{Wear}
use Rattle.flash.specs.Wear.{counter_end, counter_count, refreshed, unworn}
use Rattle.split.specs.OneToOne.{is_one_to_one}
use Rattle.split.specs.Request.{Request, request_of, unpinned}
use Rattle.split.specs.Answer.{split_answer}
use Rattle.method.specs.declared.tally.Tally.{Tally}
use Rattle.method.specs.Move.{Plan, plan}
use Rattle.method.specs.Place.{Operation, write, erase, done, operation_at, marks_of}
use Rattle.method.specs.Read.{stored_slots}
use Rattle.method.specs.State.{chip_at_rest, state_of}
use Rattle.method.specs.Step.{Running, originals_of, write_terms, step}
use Rattle.method.specs.Cut.{CutInside}
use Rattle.method.specs.Answers.{RunAnswer, run_answer, MendAnswer, mend_answer, read_answer}

-- rule 9.6: what a line tells, a write's or an erase's
pub data Line : Type 0 where
  W : (step block page : ℕ) → (bytes : List ℕ) → Line
  E : (step block : ℕ) → Line

unfoldable pub line_of : (place : ℕ) → Operation → (after : Running) → List Line
line_of place (write pass block page) after = W place block page after.work ∷ []
line_of place (erase block) after = E place block ∷ []
line_of place done after = []

-- the lines of `count` steps from a place on
unfoldable pub listing : Plan → (count place : ℕ) → Running → List Line
listing X zero place run = []
listing X (suc count) place run =
    let after = step X place run in
    line_of place (operation_at X.move.sizes place) after ++ listing X count (suc place) after

-- A row of the paper's Fig. 2, which has one page a block: the block written, the originals that its page is the sum
-- of, and the blocks that the page is made from.
pub data Written : Type 0 where
  written : (block : ℕ) → (originals blocks : List ℕ) → Written

-- The figure calls the original from block i by i.
unfoldable pub written_at : Plan → (place : ℕ) → Operation → List Written
written_at X place (write pass block page) =
    written block (map (λ k. k + 1) (originals_of X.move pass block page))
    (stored_slots (write_terms X pass block page (marks_of X.move.sizes place))) ∷ []
written_at X place (erase block) = []
written_at X place done = []

unfoldable pub figure : Plan → (count place : ℕ) → List Written
figure X zero place = []
figure X (suc count) place = written_at X place (operation_at X.move.sizes place) ++ figure X count (suc place)

-- the chip after 0, 1, .. steps from a place on
unfoldable pub chips_from : Plan → (count place : ℕ) → Running → List Chip
chips_from X zero place run = run.chip ∷ []
chips_from X (suc count) place run = run.chip ∷ chips_from X count (suc place) (step X place run)

-- from rest on, the steps lead to the state of each place
abbrev pub Reaches : Request → (originals : List ℕ) → (count : ℕ) → Type 0
Reaches R originals count =
    chips_from (plan R) count 0 (record { chip = chip_at_rest R.sizes originals; work = [] }) ≡ map (state_of (plan R) originals) (range 0 (count + 1))

-- short forms for what the cases are made of
abbrev pub sizes : (n m : ℕ) → Sizes
sizes n m = record { n = n; m = m; p = 1; s = 0 }

abbrev pub chip : (store marks : List ℕ) → Chip
chip store marks = record { store = store; marks = marks }

-- what a lent part holds before the call
abbrev pub junk : ℕ → List ℕ
junk length = replicate length 7

abbrev pub counts : (steps writes erases bytes reads : ℕ) → Tally
counts steps writes erases bytes reads = record { steps = steps; writes = writes; erases = erases; bytes = bytes; reads = reads }

-- the counters of the blocks from 0 on, and of all others 0; the pair as it is given, or a correct one
abbrev pub worn : (counters : List ℕ) → (highest block : ℕ) → Wear
worn counters highest block = record { counters = counters ++ replicate (counter_count - length counters) 0; highest = highest; block = block }

abbrev pub wears : (counters : List ℕ) → Wear
wears counters = refreshed (worn counters 0 0)

-- with a module whose blocks were never erased, and the highest limit
abbrev pub runs : Request → Chip → (work : List ℕ) → (place budget : ℕ) → RunAnswer
runs R chip work place budget = run_answer R chip work unworn place budget counter_end

-- what the step at a place reads, in a move from rest
abbrev pub reads_at : Request → (originals : List ℕ) → (place : ℕ) → ℕ
reads_at R originals place = (runs R (state_of (plan R) originals place) (junk R.sizes.p) place 1).tally.reads

abbrev pub mends : Sizes → Chip → MendAnswer
mends Z chip = mend_answer Z chip unworn

abbrev pub ran : (place : ℕ) → Tally → (finished : ℕ) → Chip → (work counters : List ℕ) → RunAnswer
ran place tally finished chip work counters =
    record { number = 0; place = place; tally = tally; finished = finished; chip = chip; work = work; wear = wears counters }

abbrev pub recovered : (place erases : ℕ) → Chip → (counters : List ℕ) → MendAnswer
recovered place erases chip counters = record { number = 0; place = place; erases = erases; chip = chip; wear = wears counters }

-- what a refusal gives: zeros, and all that was lent as it was
abbrev pub refused_run : (number : ℕ) → Chip → (work : List ℕ) → RunAnswer
refused_run number lent work =
    record { number = number; place = 0; tally = counts 0 0 0 0 0; finished = 0; chip = lent; work = work; wear = unworn }

abbrev pub refused_mend : (number : ℕ) → Chip → MendAnswer
refused_mend number lent = record { number = number; place = 0; erases = 0; chip = lent; wear = unworn }

-- the move of P1 to P3
abbrev pub two : Request
two = unpinned (sizes 2 2) (0 ∷ 2 ∷ 1 ∷ 3 ∷ []) (1 ∷ 0 ∷ 0 ∷ 1 ∷ [])

abbrev pub two_at_rest : Chip
two_at_rest = chip_at_rest (sizes 2 2) (1 ∷ 2 ∷ 4 ∷ 8 ∷ [])

abbrev pub two_halfway : Chip
two_halfway = chip (6 ∷ 1 ∷ 4 ∷ 8 ∷ 255 ∷ 255 ∷ []) (1 ∷ 1 ∷ 1 ∷ 1 ∷ 255 ∷ 255 ∷ [])

abbrev pub two_finished : Chip
two_finished = chip (255 ∷ 255 ∷ 1 ∷ 4 ∷ 2 ∷ 8 ∷ []) (255 ∷ 255 ∷ 2 ∷ 2 ∷ 2 ∷ 2 ∷ [])

-- one page a block
abbrev pub small : (n : ℕ) → (list : List ℕ) → Request
small n list = unpinned (sizes n 1) list (replicate n 0)

abbrev pub resting : (n : ℕ) → Chip
resting n = chip (255 ∷ range 1 n) (255 ∷ replicate n 0)

-- the calls that are given a list refuse this one
abbrev pub ListRefused : (number n : ℕ) → (list : List ℕ) → Type 0
ListRefused number n list =
    (split_answer (unpinned (sizes n 1) list (junk n)) ≡ record { number = number; sets = junk n })
    × (runs (small n list) (resting n) (junk 1) 0 9 ≡ refused_run number (resting n) (junk 1))
    × (read_answer (small n list) (resting n) (junk 1) 0 ≡ record { number = number; count = 0; bytes = 0; work = junk 1 })

abbrev MendRefused : (number n : ℕ) → Type 0
MendRefused number n = mends (sizes n 1) (resting n) ≡ refused_mend number (resting n)

-- the program's case, `3 1 1 0 1 2 0 1 2 4`
abbrev pub three : Request
three = small 3 (1 ∷ 2 ∷ 0 ∷ [])

abbrev pub three_at_rest : Chip
three_at_rest = chip (255 ∷ 1 ∷ 2 ∷ 4 ∷ []) (255 ∷ 0 ∷ 0 ∷ 0 ∷ [])

abbrev pub three_finished : Chip
three_finished = chip (255 ∷ 4 ∷ 1 ∷ 2 ∷ []) (255 ∷ 2 ∷ 2 ∷ 2 ∷ [])

-- before step 3, and cut inside it: the erase of block 2
abbrev pub three_before_erase : Chip
three_before_erase = chip (5 ∷ 3 ∷ 2 ∷ 4 ∷ []) (1 ∷ 1 ∷ 0 ∷ 0 ∷ [])

abbrev three_marked : (mark byte : ℕ) → Chip
three_marked mark byte = chip (5 ∷ 3 ∷ byte ∷ 4 ∷ []) (1 ∷ 1 ∷ mark ∷ 0 ∷ [])

abbrev pub three_torn : (byte : ℕ) → Chip
three_torn = three_marked 255

-- P9 with this mark instead of 255: mend and read do the same, and a run is refused even where the page is as an erase leaves it
abbrev HalfWritten : (mark byte : ℕ) → Type 0
HalfWritten mark byte =
    CutInside three.sizes (operation_at three.sizes 3) three_before_erase (three_marked mark byte)
    × (read_answer three (three_marked mark byte) (junk 1) 1 ≡ record { number = 0; count = 3; bytes = 1; work = 2 ∷ [] })
    × (mends three.sizes (three_marked mark byte) ≡ recovered 4 1 (three_torn 255) (0 ∷ 0 ∷ 1 ∷ []))
    × (runs three (three_marked mark 255) (junk 1) 4 1 ≡ refused_run 5 (three_marked mark 255) (junk 1))

-- with a set byte that is none of its sets, and with two blocks unfinished
abbrev three_badly : Request
three_badly = unpinned three.sizes three.list (0 ∷ 1 ∷ 0 ∷ [])

abbrev three_unfit : (mark : ℕ) → Chip
three_unfit mark = chip (255 ∷ 1 ∷ 2 ∷ 4 ∷ []) (mark ∷ 0 ∷ mark ∷ 0 ∷ [])

abbrev Unfit : (mark : ℕ) → Type 0
Unfit mark =
    (mends three.sizes (three_unfit mark) ≡ refused_mend 6 (three_unfit mark))
    × (read_answer three (three_unfit mark) (junk 1) 0 ≡ record { number = 6; count = 0; bytes = 0; work = junk 1 })

-- two blocks change places, two bytes a page: the first page is half as an erase leaves it, the second is nothing else
abbrev pub half : Request
half = unpinned (record { n = 2; m = 1; p = 2; s = 0 }) (1 ∷ 0 ∷ []) (0 ∷ 0 ∷ [])

abbrev pub half_at_rest : Chip
half_at_rest = chip (255 ∷ 255 ∷ 255 ∷ 3 ∷ 255 ∷ 255 ∷ []) (255 ∷ 0 ∷ 0 ∷ [])

-- two blocks of two pages, with pins
abbrev pub two_pinned : (list pins sets : List ℕ) → Request
two_pinned list pins sets = request_of (sizes 2 2) list pins sets

-- The paper's example 3: α = (3, 6, 8, 1, 2, 5, 4, 7). Each original is one bit, so that a byte shows what it sums.
abbrev eight : Request
eight = small 8 (2 ∷ 5 ∷ 7 ∷ 0 ∷ 1 ∷ 4 ∷ 3 ∷ 6 ∷ [])

abbrev eight_bits : List ℕ
eight_bits = map (λ i. 2 ^ (i - 1)) (range 1 8)

unfoldable pub sum_of_bits : List ℕ → ℕ
sum_of_bits [] = 0
sum_of_bits (i ∷ is) = 2 ^ (i - 1) + sum_of_bits is

abbrev eight_coded : List (List ℕ)
eight_coded = (1 ∷ 4 ∷ []) ∷ (2 ∷ 5 ∷ []) ∷ (3 ∷ 1 ∷ []) ∷ (4 ∷ 7 ∷ []) ∷ (5 ∷ 6 ∷ []) ∷ (6 ∷ []) ∷ (7 ∷ 8 ∷ []) ∷ (8 ∷ []) ∷ []

abbrev eight_final : List (List ℕ)
eight_final = (4 ∷ []) ∷ (5 ∷ []) ∷ (1 ∷ []) ∷ (7 ∷ []) ∷ (6 ∷ []) ∷ (2 ∷ []) ∷ (8 ∷ []) ∷ (3 ∷ []) ∷ []

-- `byte` is what a cut leaves on the page of P9: any
pub record CasesHold (byte : ℕ) : Type 0 where
  -- page 2 forces the exchange
  pub p1 : split_answer (unpinned (sizes 2 2) (0 ∷ 2 ∷ 1 ∷ 3 ∷ []) (junk 4)) ≡ record { number = 0; sets = 1 ∷ 0 ∷ 0 ∷ 1 ∷ [] }
  pub p2 : split_answer (unpinned (sizes 2 2) (0 ∷ 3 ∷ 2 ∷ 1 ∷ []) (junk 4)) ≡ record { number = 0; sets = 0 ∷ 1 ∷ 0 ∷ 1 ∷ [] }
  -- the forward pass, then the backward pass
  pub p3 : (runs two two_at_rest (junk 1) 0 6 ≡ ran 6 (counts 6 4 2 4 5) 0 two_halfway (8 ∷ []) (0 ∷ 1 ∷ 1 ∷ []))
      × (runs two two_halfway (junk 1) 6 6 ≡ ran 12 (counts 6 4 2 4 6) 1 two_finished (4 ∷ []) (1 ∷ 1 ∷ []))
  pub p4 : runs (small 1 (0 ∷ [])) (resting 1) (junk 1) 0 9 ≡ ran 4 (counts 4 2 2 2 2) 1 (chip (255 ∷ 1 ∷ []) (255 ∷ 2 ∷ [])) (1 ∷ []) (1 ∷ 1 ∷ [])
  pub p5 : (is_one_to_one 2 (0 ∷ 0 ∷ []) ≡ false) × ListRefused 3 2 (0 ∷ 0 ∷ [])
  pub p6 : ListRefused 1 0 [] × MendRefused 1 0
  pub p7 : ListRefused 1 65 (range 0 65) × MendRefused 1 65
      × (is_one_to_one 64 (range 0 64) ≡ true)
      × (split_answer (unpinned (sizes 64 1) (range 0 64) (junk 64)) ≡ record { number = 0; sets = replicate 64 0 })
      × (runs (small 64 (range 0 64)) (resting 64) (junk 1) 0 0 ≡ ran 0 (counts 0 0 0 0 0) 0 (resting 64) (junk 1) [])
      × (mends (sizes 64 1) (resting 64) ≡ recovered 0 1 (resting 64) (1 ∷ []))
      × (read_answer (small 64 (range 0 64)) (resting 64) (junk 1) 63 ≡ record { number = 0; count = 1; bytes = 1; work = 64 ∷ [] })
  pub p8 : (runs three three_finished (junk 1) 12 5 ≡ ran 12 (counts 0 0 0 0 0) 1 three_finished (junk 1) [])
      × (runs three three_finished (junk 1) 13 5 ≡ refused_run 5 three_finished (junk 1))
  pub p9 : (runs three three_at_rest (junk 1) 0 3 ≡ ran 3 (counts 3 2 1 2 5) 0 three_before_erase (3 ∷ []) (0 ∷ 1 ∷ []))
      × CutInside three.sizes (operation_at three.sizes 3) three_before_erase (three_torn byte)
      × (read_answer three (three_torn byte) (junk 1) 1 ≡ record { number = 0; count = 3; bytes = 1; work = 2 ∷ [] })
      × (mends three.sizes (three_torn byte) ≡ recovered 4 1 (three_torn 255) (0 ∷ 0 ∷ 1 ∷ []))
  -- a run at that place is refused while the page marked 255 is not blank, and goes on once it is
  pub p9-on : (runs three (three_torn 0) (junk 1) 4 1 ≡ refused_run 5 (three_torn 0) (junk 1))
      × (runs three (three_torn 255) (junk 1) 4 1 ≡ ran 5 (counts 1 1 0 1 1) 0 (chip (5 ∷ 3 ∷ 4 ∷ 4 ∷ []) (1 ∷ 1 ∷ 1 ∷ 0 ∷ [])) (4 ∷ []) [])
  pub half-written : HalfWritten 3 byte × HalfWritten 254 byte
  pub p10 : mends three.sizes three_finished ≡ recovered 12 1 three_finished (1 ∷ [])
  pub p11 : runs three three_at_rest (junk 1) 0 0 ≡ ran 0 (counts 0 0 0 0 0) 0 three_at_rest (junk 1) []
  -- the numbers that no P gives: a part one byte short
  pub number-2 : (split_answer (unpinned (sizes 2 1) (0 ∷ 1 ∷ []) (junk 1)) ≡ record { number = 2; sets = junk 1 })
      × (runs three three_at_rest [] 0 9 ≡ refused_run 2 three_at_rest [])
      × (mends (sizes 3 1) (resting 2) ≡ refused_mend 2 (resting 2))
      × (read_answer three three_at_rest [] 0 ≡ record { number = 2; count = 0; bytes = 0; work = [] })
  -- set bytes that are no split
  pub number-4 : (runs three_badly three_at_rest (junk 1) 0 9 ≡ refused_run 4 three_at_rest (junk 1))
      × (read_answer three_badly three_at_rest (junk 1) 0 ≡ record { number = 4; count = 0; bytes = 0; work = junk 1 })
  -- two blocks unfinished
  pub number-6 : Unfit 255 × Unfit 3 × Unfit 254
  -- an original too many
  pub number-7 : read_answer three three_at_rest (junk 1) 3 ≡ record { number = 7; count = 0; bytes = 0; work = junk 1 }
  -- of the four pages written the first, the sum of both, programs two bytes, and of the others one and none
  pub bytes : (runs half half_at_rest (junk 2) 0 1
      ≡ ran 1 (counts 1 1 0 2 2) 0 (chip (0 ∷ 252 ∷ 255 ∷ 3 ∷ 255 ∷ 255 ∷ []) (1 ∷ 0 ∷ 0 ∷ [])) (0 ∷ 252 ∷ []) [])
      × (runs half half_at_rest (junk 2) 0 99
      ≡ ran 8 (counts 8 4 4 3 7) 1 (chip (255 ∷ 255 ∷ 255 ∷ 255 ∷ 255 ∷ 3 ∷ []) (255 ∷ 2 ∷ 2 ∷ [])) (255 ∷ 255 ∷ []) (1 ∷ 2 ∷ 1 ∷ []))
      × (read_answer half half_at_rest (junk 2) 0 ≡ record { number = 0; count = 1; bytes = 1; work = 255 ∷ 3 ∷ [] })
      × (read_answer half half_at_rest (junk 2) 1 ≡ record { number = 0; count = 1; bytes = 0; work = 255 ∷ 255 ∷ [] })
  -- number 11: a pinned page that is sent elsewhere, whatever its byte, behind 3 and before 4; one that stays is no ground
  pub pins : (split_answer (two_pinned (0 ∷ 2 ∷ 1 ∷ 3 ∷ []) (1 ∷ 0 ∷ 0 ∷ 200 ∷ []) (junk 4)) ≡ record { number = 0; sets = 1 ∷ 0 ∷ 0 ∷ 1 ∷ [] })
      × (split_answer (two_pinned (0 ∷ 2 ∷ 1 ∷ 3 ∷ []) (0 ∷ 2 ∷ 0 ∷ 0 ∷ []) (junk 4)) ≡ record { number = 11; sets = junk 4 })
      × (split_answer (two_pinned (0 ∷ 2 ∷ 2 ∷ 3 ∷ []) (0 ∷ 2 ∷ 0 ∷ 0 ∷ []) (junk 4)) ≡ record { number = 3; sets = junk 4 })
      × (split_answer (two_pinned (0 ∷ 2 ∷ 2 ∷ 3 ∷ []) (0 ∷ 2 ∷ 0 ∷ []) (junk 4)) ≡ record { number = 2; sets = junk 4 })
      × (runs (two_pinned (0 ∷ 2 ∷ 1 ∷ 3 ∷ []) (0 ∷ 0 ∷ 1 ∷ 0 ∷ []) (junk 4)) two_at_rest (junk 1) 0 9 ≡ refused_run 11 two_at_rest (junk 1))
      × (read_answer (two_pinned (0 ∷ 2 ∷ 1 ∷ 3 ∷ []) (0 ∷ 0 ∷ 1 ∷ 0 ∷ []) (junk 4)) two_at_rest (junk 1) 9
      ≡ record { number = 11; count = 0; bytes = 0; work = junk 1 })
  -- the program's case, with its end line
  pub program : listing (plan three) 12 0 (record { chip = three_at_rest; work = [] })
      ≡ W 0 0 0 (5 ∷ []) ∷ E 1 1 ∷ W 2 1 0 (3 ∷ []) ∷ E 3 2 ∷ W 4 2 0 (4 ∷ []) ∷ E 5 3
      ∷ W 6 3 0 (2 ∷ []) ∷ E 7 2 ∷ W 8 2 0 (1 ∷ []) ∷ E 9 1 ∷ W 10 1 0 (4 ∷ []) ∷ E 11 0 ∷ []
  pub program-end : runs three three_at_rest (junk 1) 0 99 ≡ ran 12 (counts 12 6 6 6 13) 1 three_finished (4 ∷ []) (1 ∷ 2 ∷ 2 ∷ 1 ∷ [])
  -- what each page that it writes costs, in the forward pass and in the backward pass
  pub program-reads : (map (reads_at three (1 ∷ 2 ∷ 4 ∷ [])) (0 ∷ 2 ∷ 4 ∷ []) ≡ 2 ∷ 3 ∷ 1 ∷ [])
      × (map (reads_at three (1 ∷ 2 ∷ 4 ∷ [])) (6 ∷ 8 ∷ 10 ∷ []) ≡ 3 ∷ 2 ∷ 2 ∷ [])
  -- the paper's Fig. 2: each page written, and what it is made from, in the forward pass and in the backward pass
  pub figure-2 : figure (plan eight) 32 0
      ≡ written 0 (1 ∷ 4 ∷ []) (1 ∷ 4 ∷ []) ∷ written 1 (2 ∷ 5 ∷ []) (2 ∷ 5 ∷ [])
      ∷ written 2 (3 ∷ 1 ∷ []) (3 ∷ 0 ∷ 4 ∷ []) ∷ written 3 (4 ∷ 7 ∷ []) (4 ∷ 7 ∷ [])
      ∷ written 4 (5 ∷ 6 ∷ []) (5 ∷ 6 ∷ []) ∷ written 5 (6 ∷ []) (6 ∷ [])
      ∷ written 6 (7 ∷ 8 ∷ []) (7 ∷ 8 ∷ []) ∷ written 7 (8 ∷ []) (8 ∷ [])
      ∷ written 8 (3 ∷ []) (2 ∷ 0 ∷ 3 ∷ 6 ∷ 7 ∷ []) ∷ written 7 (8 ∷ []) (6 ∷ 3 ∷ 0 ∷ 2 ∷ 8 ∷ [])
      ∷ written 6 (2 ∷ []) (1 ∷ 4 ∷ 5 ∷ []) ∷ written 5 (6 ∷ []) (4 ∷ 1 ∷ 6 ∷ [])
      ∷ written 4 (7 ∷ []) (3 ∷ 0 ∷ 2 ∷ 8 ∷ []) ∷ written 3 (1 ∷ []) (2 ∷ 8 ∷ [])
      ∷ written 2 (5 ∷ []) (1 ∷ 6 ∷ []) ∷ written 1 (4 ∷ []) (0 ∷ 3 ∷ []) ∷ []
  -- and as bytes: after the forward pass, and at the end
  pub figure-bytes : (runs eight (chip_at_rest (sizes 8 1) eight_bits) (junk 1) 0 16
      ≡ ran 16 (counts 16 8 8 8 15) 0 (chip (map sum_of_bits eight_coded ++ (255 ∷ [])) (replicate 8 1 ++ (255 ∷ []))) (sum_of_bits (8 ∷ []) ∷ [])
      (0 ∷ replicate 8 1))
      × (runs eight (chip_at_rest (sizes 8 1) eight_bits) (junk 1) 0 32
      ≡ ran 32 (counts 32 16 16 16 41) 1 (chip (255 ∷ map sum_of_bits eight_final) (255 ∷ replicate 8 2)) (sum_of_bits (4 ∷ []) ∷ [])
      (1 ∷ replicate 7 2 ++ (1 ∷ [])))
  -- the states of the places, in the moves above
  pub states : Reaches two (1 ∷ 2 ∷ 4 ∷ 8 ∷ []) 12 × Reaches three (1 ∷ 2 ∷ 4 ∷ []) 12 × Reaches eight eight_bits 32
