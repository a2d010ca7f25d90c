-- The theorems of this crate, each a statement about the definitions; `claims` in src/lib.rt demands their proofs.
use Rattle.std.specs.Prelude.{true, false, ◌||◌, ◌≡◌, ◌≢◌, ◌⊎◌, ℕ, ◌+◌, ◌-◌, ◌*◌, ◌/◌, ◌≤◌, ◌<◌, eqb, length, get_or}
use mathlib.Core.List.{List, Memᴰ}
use Rattle.std.proofs.Math.Option.{some}
use Rattle.flash.specs.Lists.{range, any, count}
use Rattle.flash.specs.Tables.{Row, First, refusal}
use Rattle.flash.specs.declared.sizes.Sizes.{Sizes}
use Rattle.flash.specs.Geometry.{in_range, block_of, original_count, slot_count}
use Rattle.flash.specs.Chip.{Chip, erased, is_whole, is_unfinished}
use Rattle.flash.specs.declared.wear.Wear.{Wear}
use Rattle.split.specs.Split.{set_of}
use Rattle.split.specs.Request.{Request}
use Rattle.split.specs.Answer.{split_rows}
use Rattle.method.specs.Move.{Move, AcceptedMove}
use Rattle.method.specs.Cycle.{dest, top}
use Rattle.method.specs.Read.{full_of, go_back, go_on, read_slots}
use Rattle.method.specs.Place.{Pass, Operation, write, erase, done, operations, last_place, operation_at, pass_at, blank, held_at, marks_of}
use Rattle.method.specs.Step.{is_write, is_erase, erases_block}
use Rattle.method.specs.Cut.{CutLeaves, CutInside}
use Rattle.method.specs.Mend.{Reading, lines, reading}
use Rattle.method.specs.Answers.{order, run_rows, mend_rows, read_rows}
use Rattle.method.specs.Rebuild.{rebuild_rows}
use Rattle.method.specs.Runs.{RunsAddUp, StatesReached}
use Rattle.method.specs.Counts.{RunsCount}
use Rattle.method.specs.PagesRead.{ReadsCounted}
use Rattle.method.specs.Demand3.{Demand3}
use Rattle.method.specs.Unreadable.{TornLosesNothing, RebuiltRight, LostExactly, OnlyOther, LostFew}
use Rattle.method.specs.WearCounts.{WearCounts}
use Rattle.method.specs.HighestCounter.{HighestCounter}
use Rattle.method.specs.PinsStay.{PinsStay}
use Rattle.method.specs.PinFirst.{PinFirst}
use Rattle.method.specs.NoDrops.{NoDrops}
use Rattle.method.specs.Reach.{ReachOfOne}
use Rattle.method.specs.Example.{ExampleHolds, BoundsMet}
use Rattle.method.specs.TwoPages.{TwoPagesHold}
use Rattle.method.specs.Cases.{CasesHold}
use Rattle.method.specs.DropCases.{DropCasesHold}
use Rattle.method.specs.WearCases.{WearCasesHold}
use Rattle.method.specs.ReachCases.{ReachCasesHold}
use Rattle.method.specs.RebuildCases.{RebuildCasesHold}

-- rule 4.3: there are as many steps as the last place says
unfoldable pub StepsCounted : Type 0
StepsCounted = (Z : Sizes) → length (operations Z) ≡ last_place Z

-- The marks tell the place, since no two places have the same.
unfoldable pub PlacesDiffer : Type 0
PlacesDiffer =
    (Z : Sizes) → in_range Z ≡ true → (p q : ℕ) → p ≤ last_place Z → q ≤ last_place Z → marks_of Z p ≡ marks_of Z q → p ≡ q

-- 2 × n erases, each page written twice: block 0 and block n are erased once, every block between twice.
pub record ErasesCounted : Type 0 where
  pub spare : (Z : Sizes) → in_range Z ≡ true → count (erases_block 0) (operations Z) ≡ 1
  pub highest : (Z : Sizes) → in_range Z ≡ true → count (erases_block Z.n) (operations Z) ≡ 1
  pub between : (Z : Sizes) (b : ℕ) → 1 ≤ b → b < Z.n → count (erases_block b) (operations Z) ≡ 2
  pub all-erases : (Z : Sizes) → count is_erase (operations Z) ≡ 2 * Z.n
  pub all-writes : (Z : Sizes) → count is_write (operations Z) ≡ 2 * Z.n * Z.m

-- Pages are written from the lowest up, and are blank before: of two writes to a block with no erase of it between them, the
-- later is to the higher page.
pub record PagesRise : Type 0 where
  pub ascending : (Z : Sizes) (p q : ℕ) (one other : Pass) (b i j : ℕ)
      → operation_at Z p ≡ write one b i → operation_at Z q ≡ write other b j → p < q
      → ((r : ℕ) → p < r → r < q → operation_at Z r ≢ erase b) → i < j
  pub only-blank : (Z : Sizes) (place : ℕ) (pass : Pass) (b q : ℕ) → operation_at Z place ≡ write pass b q → held_at Z place b q ≡ blank

-- the blocks of i's cycle: i, the block where its page goes, and so on
pub data InCycle (M : Move) (set i : ℕ) : (j : ℕ) → Type 0 where
  start : InCycle M set i i
  next : {j : ℕ} → InCycle M set i j → InCycle M set i (dest M set j)

-- rule 3.2: the top is on the cycle, and no block of the cycle is higher
pub record TopIsHighest : Type 0 where
  pub in-cycle : (M : Move) → AcceptedMove M → (set i : ℕ) → set < M.sizes.m → 1 ≤ i → i ≤ M.sizes.n → InCycle M set i (top M set i)
  pub highest : (M : Move) → AcceptedMove M → (set i j : ℕ) → set < M.sizes.m → 1 ≤ i → i ≤ M.sizes.n → InCycle M set i j → j ≤ top M set i

-- The slots that read sums: 1 to n of the store's, none twice, all whole and none in an unfinished block.
pub record SlotsSummed (Z : Sizes) (marks slots : List ℕ) : Type 0 where
  pub some : 1 ≤ length slots
  pub few : length slots ≤ Z.n
  pub once : (i j : ℕ) → i < length slots → j < length slots → get_or slots i 0 ≡ get_or slots j 0 → i ≡ j
  pub inside : (i : ℕ) → i < length slots → get_or slots i 0 < slot_count Z
  pub whole : (i : ℕ) → i < length slots → is_whole marks (get_or slots i 0) ≡ true
  pub finished : (i : ℕ) → i < length slots → is_unfinished Z.m marks (get_or slots i 0 / Z.m) ≡ false

-- Read's walks for original k end by their rules and never by their bound n: a wider one changes nothing.
module _ (M : Move) (marks : List ℕ) (k : ℕ) where
  open M.sizes use {n, m}

  -- where the rules of reading start
  abbrev v : ℕ
  v = block_of m k

  abbrev set : ℕ
  set = set_of M.sets k

  pub record WalksOf : Type 0 where
    pub slots : SlotsSummed M.sizes marks (read_slots M marks k)
    pub back : (extra : ℕ) → go_back M marks set (n + extra) v ≡ go_back M marks set n v
    -- where neither the destination page is copied nor rule 2 holds
    pub on : full_of M marks 2 (dest M set v) ≡ false → (full_of M marks 1 (top M set v - 1) || any (full_of M marks 0) (range 0 (n + 1))) ≡ false
        → (extra : ℕ) → go_on M marks set (n + extra) v ≡ go_on M marks set n v

-- for all marks that fit a moment
unfoldable pub WalksEnd : Type 0
WalksEnd =
    (M : Move) → AcceptedMove M → (marks : List ℕ) (found : Reading) → reading M.sizes marks ≡ some found
    → (k : ℕ) → k < original_count M.sizes → WalksOf M marks k

-- Cuts that leave 255 on a page and no other mark are among those of rule 5.1: what is claimed of these is claimed of them.
unfoldable pub OldCuts : Type 0
OldCuts =
    (Z : Sizes) (operation : Operation) (before after : Chip)
    → CutLeaves (λ mark. eqb mark erased) Z operation before after → CutInside Z operation before after

-- rule 5.2: of marks that fit a moment, at most one block is unfinished
unfoldable pub OneUnfinished : Type 0
OneUnfinished =
    (Z : Sizes) → in_range Z ≡ true → (marks : List ℕ) (found : Reading) → reading Z marks ≡ some found → (b c : ℕ) → b ≤ Z.n → c ≤ Z.n
    → is_unfinished Z.m marks b ≡ true → is_unfinished Z.m marks c ≡ true → b ≡ c

-- Two of mend's lines that fit the same marks give the same answer: it does not matter which is tried first.
unfoldable pub LinesAgree : Type 0
LinesAgree =
    (Z : Sizes) → in_range Z ≡ true → (marks : List ℕ) (one other : Row Reading)
    → Memᴰ one (lines Z marks) → Memᴰ other (lines Z marks)
    → one.fits ≡ true → other.fits ≡ true → one.gives ≡ other.gives

-- The block is written next from its page 0 on; or no step is left, and it is the spare.
unfoldable pub WrittenNext : Sizes → (place block : ℕ) → Type 0
WrittenNext Z place block = (operation_at Z place ≡ write (pass_at Z place) block 0) ⊎ ((operation_at Z place ≡ done) × (block ≡ 0))

-- The block that mend erases is the one that the step at its place speaks of: so a program that drives a chip knows which it is.
unfoldable pub ErasesNext : Type 0
ErasesNext =
    (Z : Sizes) → in_range Z ≡ true → (marks : List ℕ) (place block : ℕ)
    → reading Z marks ≡ some (record { place = place; to_erase = some block }) → WrittenNext Z place block

-- rule 7.8: every call gives the first number that applies, in the one order of all calls
pub record FirstReturned : Type 0 where
  pub by-split : (R : Request) → First order (split_rows R) (refusal (split_rows R))
  pub by-run : (R : Request) (chip : Chip) (work : List ℕ) (wear : Wear) (place limit : ℕ)
      → First order (run_rows R chip work wear place limit) (refusal (run_rows R chip work wear place limit))
  pub by-mend : (Z : Sizes) (chip : Chip) → First order (mend_rows Z chip) (refusal (mend_rows Z chip))
  pub by_read : (R : Request) (chip : Chip) (work : List ℕ) (k : ℕ) → First order (read_rows R chip work k) (refusal (read_rows R chip work k))
  pub by-rebuild : (R : Request) (chip : Chip) (area flags : List ℕ) (bad : ℕ)
      → First order (rebuild_rows R chip area flags bad) (refusal (rebuild_rows R chip area flags bad))

pub record Claims : Type 0 where
  pub cases : (byte : ℕ) → CasesHold byte
  pub drop-cases : DropCasesHold
  pub wear-cases : WearCasesHold
  pub reach-cases : ReachCasesHold
  pub rebuild-cases : (byte : ℕ) → RebuildCasesHold byte
  pub runs : RunsAddUp
  pub states : StatesReached
  pub counts : RunsCount
  pub reads : ReadsCounted
  pub steps : StepsCounted
  pub places : PlacesDiffer
  pub erases : ErasesCounted
  pub pages : PagesRise
  pub tops : TopIsHighest
  pub walks : WalksEnd
  pub old-cuts : OldCuts
  pub one-unfinished : OneUnfinished
  pub lines : LinesAgree
  pub erases-next : ErasesNext
  pub first : FirstReturned
  pub demand-3 : Demand3
  pub torn-loses-nothing : TornLosesNothing
  pub rebuilt-right : RebuiltRight
  pub lost-exactly : LostExactly
  pub only-other : OnlyOther
  pub lost-few : LostFew
  pub wear : WearCounts
  pub highest : HighestCounter
  pub pins : PinsStay
  pub pin-first : PinFirst
  pub no-drops : NoDrops
  pub reach : ReachOfOne
  pub bounds : BoundsMet
  pub example : ExampleHolds
  pub two-pages : (byte : ℕ) → TwoPagesHold byte
