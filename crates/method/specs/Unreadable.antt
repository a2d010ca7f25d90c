-- What is claimed of a page that the chip gives up: which originals are lost, by which sum the others are rebuilt, and that they are right.
use Rattle.std.specs.Prelude.{Bool, true, false, ◌≡◌, ◌≢◌, List, ℕ, ◌/◌, ◌%◌, ◌<◌, eqb, length, get_or}
use Rattle.flash.specs.Lists.{any, all, part}
use Rattle.flash.specs.Geometry.{slot_of, original_count, slot_count}
use Rattle.flash.specs.PageSum.{sum}
use Rattle.flash.specs.Chip.{Chip, page_at, is_unfinished}
use Rattle.flash.specs.declared.wear.Wear.{Wear}
use Rattle.split.specs.Split.{set_of}
use Rattle.split.specs.Request.{Request}
use Rattle.method.specs.Move.{plan}
use Rattle.method.specs.Place.{filling, held_at}
use Rattle.method.specs.Read.{read_slots, filler_page}
use Rattle.method.specs.State.{originals_in, held_originals, state_of}
use Rattle.method.specs.Mend.{seen}
use Rattle.method.specs.Answers.{mend_answer}
use Rattle.method.specs.Rebuild.{whole_move, RebuildAnswer, rebuild_answer}
use Rattle.method.specs.Runs.{Start}
use Rattle.method.specs.Events.{Event, starting, moments}
use Rattle.method.specs.Demand3.{AllAllowed, AtEach}

-- the flag and the page of original k
abbrev pub flag_of : RebuildAnswer → (k : ℕ) → ℕ
flag_of answer k = get_or answer.flags k 255

-- ---- a slot of the unfinished block loses nothing
unfoldable pub TornLosesNothing : Type 0
TornLosesNothing =
    (R : Request) (chip : Chip) (area flags : List ℕ) (bad : ℕ) → (rebuild_answer R chip area flags bad).number ≡ 0
    → is_unfinished R.sizes.m chip.marks (bad / R.sizes.m) ≡ true
    → (k : ℕ) → k < original_count R.sizes → flag_of (rebuild_answer R chip area flags bad) k ≡ 1

-- ---- from demand 3's stores a page that is said to be rebuilt is the original, and one that is lost is 255s
pub record Rebuilds (R : Request) (chip₀ chip : Chip) (area flags : List ℕ) (bad k : ℕ) : Type 0 where
  pub right : flag_of (rebuild_answer R chip area flags bad) k ≡ 1
      → part R.sizes.p k (rebuild_answer R chip area flags bad).area ≡ page_at R.sizes.p chip₀ (slot_of R.sizes.m k)
  pub lost : flag_of (rebuild_answer R chip area flags bad) k ≢ 1
      → (flag_of (rebuild_answer R chip area flags bad) k ≡ 0)
      × (part R.sizes.p k (rebuild_answer R chip area flags bad).area ≡ filler_page R.sizes.p)

unfoldable pub RebuiltRight : Type 0
RebuiltRight =
    (R : Request) (chip₀ : Chip) → Start R chip₀ → (events : List Event) → AllAllowed R events (starting chip₀)
    → AtEach (λ h. (area flags : List ℕ) (bad : ℕ) → (rebuild_answer R h.chip area flags bad).number ≡ 0
    → (k : ℕ) → k < original_count R.sizes → Rebuilds R chip₀ h.chip area flags bad k) (moments events (starting chip₀))

-- ---- which originals are lost
-- Two stores at rest that differ in original k lead, at a place, to the same pages of the blocks that these marks show full, slot `bad` left out.
pub record Unseen (R : Request) (marks : List ℕ) (place bad k : ℕ) : Type 0 where
  pub one : Chip
  pub other : Chip
  pub one-starts : Start R one
  pub other-starts : Start R other
  pub differ : page_at R.sizes.p one (slot_of R.sizes.m k) ≢ page_at R.sizes.p other (slot_of R.sizes.m k)
  pub same : (t : ℕ) → t < slot_count R.sizes → t ≢ bad → is_unfinished R.sizes.m marks (t / R.sizes.m) ≡ false
      → page_at R.sizes.p (state_of (plan R) (originals_in R.sizes one) place) t
      ≡ page_at R.sizes.p (state_of (plan R) (originals_in R.sizes other) place) t

-- exactly these are lost; the place is mend's
pub record LostExactly : Type 0 where
  pub unseen : (R : Request) (chip : Chip) (area flags : List ℕ) (bad : ℕ) → (rebuild_answer R chip area flags bad).number ≡ 0 → (wear : Wear)
      → (k : ℕ) → k < original_count R.sizes → flag_of (rebuild_answer R chip area flags bad) k ≡ 0
      → Unseen R chip.marks (mend_answer R.sizes chip wear).place bad k
  pub lost : (R : Request) (chip : Chip) (area flags : List ℕ) (bad : ℕ) → (rebuild_answer R chip area flags bad).number ≡ 0 → (wear : Wear)
      → (k : ℕ) → k < original_count R.sizes → Unseen R chip.marks (mend_answer R.sizes chip wear).place bad k
      → flag_of (rebuild_answer R chip area flags bad) k ≡ 0

-- ---- by which sum an original is rebuilt
module _ (R : Request) (place : ℕ) where
  open R.sizes use {m, p as P}

  -- the originals whose sum the page of a slot holds at a place
  unfoldable pub held_in : (t : ℕ) → List ℕ
  held_in t = held_originals (whole_move R) (held_at R.sizes place (t / m) (t % m)) (t / m) (t % m)

  -- all of them are of the set of original k
  unfoldable pub is_of_set : (k t : ℕ) → Bool
  is_of_set k t = all (λ j. eqb (set_of R.sets j) (set_of R.sets k)) (held_in t)

  -- Slots of blocks that these marks show full, none twice and `bad` left out, whose pages are of the set of original k and at the place sum to
  -- it, whatever the store held at rest.
  pub record SumOf (marks : List ℕ) (bad k : ℕ) (slots : List ℕ) : Type 0 where
    pub once : (i j : ℕ) → i < length slots → j < length slots → get_or slots i 0 ≡ get_or slots j 0 → i ≡ j
    pub inside : (t : ℕ) → any (eqb t) slots ≡ true → t < slot_count R.sizes
    pub full : (t : ℕ) → any (eqb t) slots ≡ true → is_unfinished m marks (t / m) ≡ false
    pub left_out : any (eqb bad) slots ≡ false
    pub own-set : (t : ℕ) → any (eqb t) slots ≡ true → is_of_set k t ≡ true
    pub gives : (chip : Chip) → Start R chip → sum (page_at P (state_of (plan R) (originals_in R.sizes chip) place)) slots ≡ page_at P chip (slot_of m k)

-- A page that is said to be rebuilt is such a sum of stored pages, whatever they are: read's if that leaves the slot out, and else the only one.
pub record RebuiltBy (R : Request) (chip : Chip) (area flags : List ℕ) (place bad k : ℕ) : Type 0 where
  pub slots : List ℕ
  pub page : part R.sizes.p k (rebuild_answer R chip area flags bad).area ≡ sum (page_at R.sizes.p chip) slots
  pub gives : SumOf R place chip.marks bad k slots
  pub by_read : any (eqb bad) (read_slots (whole_move R) (seen chip.marks) k) ≡ false → slots ≡ read_slots (whole_move R) (seen chip.marks) k
  pub only : any (eqb bad) (read_slots (whole_move R) (seen chip.marks) k) ≡ true
      → (other : List ℕ) → SumOf R place chip.marks bad k other → (t : ℕ) → any (eqb t) other ≡ any (eqb t) slots

unfoldable pub OnlyOther : Type 0
OnlyOther =
    (R : Request) (chip : Chip) (area flags : List ℕ) (bad : ℕ) → (rebuild_answer R chip area flags bad).number ≡ 0 → (wear : Wear)
    → (k : ℕ) → k < original_count R.sizes → flag_of (rebuild_answer R chip area flags bad) k ≡ 1
    → RebuiltBy R chip area flags (mend_answer R.sizes chip wear).place bad k

-- ---- a slot loses only originals of its own set, and none if it is of the block that is filled at the place
pub record LostFew : Type 0 where
  pub own-set : (R : Request) (chip : Chip) (area flags : List ℕ) (bad : ℕ) → (rebuild_answer R chip area flags bad).number ≡ 0 → (wear : Wear)
      → (k : ℕ) → k < original_count R.sizes → flag_of (rebuild_answer R chip area flags bad) k ≡ 0
      → is_of_set R (mend_answer R.sizes chip wear).place k bad ≡ true
  pub filled-last : (R : Request) (chip : Chip) (area flags : List ℕ) (bad : ℕ) → (rebuild_answer R chip area flags bad).number ≡ 0 → (wear : Wear)
      → filling R.sizes (mend_answer R.sizes chip wear).place ≡ bad / R.sizes.m
      → (k : ℕ) → k < original_count R.sizes → flag_of (rebuild_answer R chip area flags bad) k ≡ 1
