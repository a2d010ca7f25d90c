-- Demand 3: one claim over any list of runs, recoveries and reads, with cuts anywhere.
use Rattle.std.specs.Prelude.{true, false, ◌≡◌, ◌⊎◌, List, [], ◌∷◌, ℕ, ◌+◌, ◌*◌, ◌≤◌, ◌<◌, length, get_or}
use Rattle.flash.specs.Lists.{count}
use Rattle.flash.specs.Tables.{refusal}
use Rattle.flash.specs.Geometry.{slot_of, original_count, slot_count, work_len}
use Rattle.flash.specs.PageSum.{◌⊕◌, sum}
use Rattle.flash.specs.Chip.{Chip, page_at, is_whole}
use Rattle.flash.specs.declared.wear.Wear.{Wear}
use Rattle.split.specs.Drops.{is_dropped}
use Rattle.split.specs.Request.{Request}
use Rattle.method.specs.Move.{move, plan}
use Rattle.method.specs.Place.{done, last_place}
use Rattle.method.specs.Read.{Term, filler_page, term_page, stored_slots, read_terms}
use Rattle.method.specs.State.{originals_in, state_of}
use Rattle.method.specs.Step.{is_erase, erases_block}
use Rattle.method.specs.Runs.{Start}
use Rattle.method.specs.Cut.{CutInside}
use Rattle.method.specs.Worn.{is_worn_out}
use Rattle.method.specs.Answers.{run_rows, run_answer, mend_answer, read_gives, read_answer}
use Rattle.method.specs.Events.{Call, run, mend, read, CutPoint, uncut, between, inside, Event, History, sizes_given, number_of}
use Rattle.method.specs.Events.{steps_of, chip_after, starting, after, moments}

-- ---- the premises, a line for each sentence; the first is `Start` of Runs.antt
-- rule 8.2: the same sizes, list and split; the pins, which only refuse, may be others
abbrev pub Shares : Request → Call → Type 0
Shares R (run N work wear place budget limit) = plan N ≡ plan R
Shares R (mend Z wear) = Z ≡ R.sizes
Shares R (read N work k) = plan N ≡ plan R

-- rule 8.4
abbrev pub Mended : Call → History → Type 0
Mended (run R work wear place budget limit) h = h.unmended ≡ false
Mended (mend Z wear) h = Unit {0}
Mended (read R work k) h = Unit {0}

-- a cut lies within the call's steps, and leaves what the rule of the cut allows
abbrev pub CutObeys : Call → CutPoint → Chip → Type 0
CutObeys call uncut chip = Unit {0}
CutObeys call (between finished) chip = finished ≤ length (steps_of call chip)
CutObeys call (inside finished left) chip =
    (finished < length (steps_of call chip)) × CutInside (sizes_given call) (get_or (steps_of call chip) finished done) (chip_after call chip finished) left

pub record Allowed (R : Request) (event : Event) (h : History) : Type 0 where
  -- asked only of calls that are not refused
  pub shares : number_of event.call h.chip ≡ 0 → Shares R event.call
  pub mended : number_of event.call h.chip ≡ 0 → Mended event.call h
  pub cut-obeys : CutObeys event.call event.cut h.chip

-- each event of a list is allowed where it comes
unfoldable pub AllAllowed : Request → List Event → History → Type 0
AllAllowed R [] h = Unit {0}
AllAllowed R (event ∷ events) h = Allowed R event h × AllAllowed R events (after event h)

-- ---- the claim
-- the stored pages that a read of k sums
abbrev pub slots_read : Request → Chip → (k : ℕ) → List ℕ
slots_read R chip k = stored_slots (read_terms (plan R) chip.marks k)

-- Of one original that is kept, whose bytes are `page`, at a moment: it is the sum of at most n whole pages, or of these and a page of 255s, and a
-- read gives it.
pub record Stays (R : Request) (chip : Chip) (k : ℕ) (page : List ℕ) : Type 0 where
  pub few : length (slots_read R chip k) ≤ R.sizes.n
  pub stored : (i : ℕ) → i < length (slots_read R chip k) → get_or (slots_read R chip k) i 0 < slot_count R.sizes
  pub whole : (i : ℕ) → i < length (slots_read R chip k) → is_whole chip.marks (get_or (slots_read R chip k) i 0) ≡ true
  pub total : (sum (page_at R.sizes.p chip) (slots_read R chip k) ≡ page)
      ⊎ (sum (page_at R.sizes.p chip) (slots_read R chip k) ⊕ filler_page R.sizes.p ≡ page)
  pub read-gives : (work : List ℕ) → length work ≡ work_len R.sizes → read_answer R chip work k ≡ read_gives (length (slots_read R chip k)) page

-- what holds at every moment; the pages of `chip₀`, the store at rest, are the originals
pub record Keeps (R : Request) (chip₀ : Chip) (h : History) : Type 0 where
  pub stays : (k : ℕ) → k < original_count R.sizes → is_dropped R.list k ≡ false
      → Stays R h.chip k (page_at R.sizes.p chip₀ (slot_of R.sizes.m k))
  -- a dropped original is read as 255s, and nothing is summed for it
  pub dropped : (k : ℕ) → k < original_count R.sizes → is_dropped R.list k ≡ true
      → (work : List ℕ) → length work ≡ work_len R.sizes → read_answer R h.chip work k ≡ read_gives 0 (filler_page R.sizes.p)
  -- at most 2 × n erases, and one more for each recovery call
  pub erases : count is_erase h.begun ≤ 2 * R.sizes.n + h.mends
  -- where there was neither cut nor recovery, no block is erased three times
  pub block-erases : h.cuts ≡ 0 → h.mends ≡ 0 → (b : ℕ) → count (erases_block b) h.begun ≤ 2
  -- once finished, every page that is kept stays where the list sends it, and 255s stay where the dropped ones are sent
  pub final : h.finished ≡ true → (k : ℕ) → k < original_count R.sizes → is_dropped R.list k ≡ false
      → page_at R.sizes.p h.chip (slot_of R.sizes.m (get_or R.list k 0)) ≡ page_at R.sizes.p chip₀ (slot_of R.sizes.m k)
  pub final-dropped : h.finished ≡ true → (k : ℕ) → k < original_count R.sizes → is_dropped R.list k ≡ true
      → page_at R.sizes.p h.chip (slot_of R.sizes.m (get_or (move R).list k 0)) ≡ filler_page R.sizes.p
  -- whenever a run is not refused, store and marks are those of its place (demand 2 along the list)
  pub placed : (work : List ℕ) (wear : Wear) (place limit : ℕ) → refusal (run_rows R h.chip work wear place limit) ≡ 0
      → h.chip ≡ state_of (plan R) (originals_in R.sizes chip₀) place
  -- Recovery always succeeds, and the run after it is accepted, but for number 12 where the move begins anew; with budget enough it
  -- reaches the finish.
  pub recovers : (wear : Wear) → (mend_answer R.sizes h.chip wear).number ≡ 0
  pub goes_on : (worn : Wear) → (let mended = mend_answer R.sizes h.chip worn in
      (work : List ℕ) → length work ≡ work_len R.sizes → (wear : Wear) (limit : ℕ) → is_worn_out R.sizes.n wear mended.place limit ≡ false
      → (budget : ℕ) → last_place R.sizes ≤ budget → (run_answer R mended.chip work wear mended.place budget limit).finished ≡ 1)

unfoldable pub AtEach : (History → Type 0) → List History → Type 0
AtEach P [] = Unit {0}
AtEach P (h ∷ hs) = P h × AtEach P hs

-- One claim: what holds at every moment of a list of events, and that equal marks mean the same pages summed.
pub record Demand3 : Type 0 where
  pub kept : (R : Request) (chip₀ : Chip) → Start R chip₀ → (events : List Event) → AllAllowed R events (starting chip₀)
      → AtEach (Keeps R chip₀) (moments events (starting chip₀))
  -- The terms are chosen by the plan, the marks and k alone, before any store is seen; a read of every chip with these marks sums them.
  pub same-slots : (R : Request) (marks : List ℕ) (k : ℕ)
      → (terms : List Term)
      × ((chip : Chip) → chip.marks ≡ marks → (work : List ℕ) → (read_answer R chip work k).number ≡ 0
      → read_answer R chip work k ≡ read_gives (length (stored_slots terms)) (sum (term_page R.sizes.p chip) terms))
