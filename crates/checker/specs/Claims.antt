-- What is claimed of the checker: its lines are those that are printed, it accepts just what the request asks for, the first faulty line decides, and
-- the paper's method passes.
use Rattle.std.specs.Prelude.{◌≡◌, ◌≢◌, ◌⊎◌, Bool, true, false, cond, List, [], ◌∷◌, ◌++◌, ℕ, suc, ◌+◌, ◌*◌, ◌^◌, ◌≤◌, ◌<◌, length}
use Rattle.std.specs.Int.Bits.{bit_xor}
use Rattle.flash.specs.Lists.{count}
use Rattle.flash.specs.Tables.{refusal}
use Rattle.flash.specs.Geometry.{slot}
use Rattle.split.specs.Split.{is_split}
use Rattle.listing.specs.Lines.{originals_line, erase_line, end_line}
use Rattle.checker.specs.Lines.{are_originals, Line, write, erase, end, other, read_line}
use Rattle.checker.specs.Pages.{mask_of, is_blank, resting_pages, page_written, block_erased, is_sum, is_requested}
use Rattle.checker.specs.Answer.{faulty, said, check_rows, check_answer}
use Rattle.checker.specs.Method.{method_text}

-- ---- lines
-- what is printed for a line with the number `step`
unfoldable pub printed : (step : ℕ) → Line → List ℕ
printed step (write block page originals) = originals_line step block page originals
printed step (erase block) = erase_line step block
printed step (end writes erases) = end_line writes erases
printed step other = []

-- its numbers lie within the sizes, and originals rise
abbrev pub Named : (n m : ℕ) → Line → Type 0
Named n m (write block page originals) = (block ≤ n) × (page < m) × (are_originals (n * m) originals ≡ true)
Named n m (erase block) = block ≤ n
Named n m (end writes erases) = Unit {0}
Named n m other = ⊥

-- Lines have the exact form in which they are printed: what is printed is read as itself, and nothing else is read as a line.
pub record LinesAsPrinted : Type 0 where
  pub read : (n m step : ℕ) (line : Line) (rest : List ℕ) → Named n m line
      → read_line n m step (printed step line ++ rest) ≡ record { line = line; rest = rest }
  pub only : (n m step : ℕ) (text : List ℕ)
      → ((read_line n m step text).line ≡ other)
      ⊎ (Named n m (read_line n m step text).line × (text ≡ printed step (read_line n m step text).line ++ (read_line n m step text).rest))

-- A written page never holds the sum of no originals, so that 0 stands for a blank page alone.
unfoldable pub NeverBlank : Type 0
NeverBlank = (most : ℕ) (originals : List ℕ) → are_originals most originals ≡ true → mask_of originals ≢ 0

-- ---- determined
-- the sum of the chosen pages: `chosen` says yes or no to the number of a page, from 0
unfoldable pub sum_of : (chosen : ℕ → Bool) → (pages : List ℕ) → ℕ
sum_of chosen [] = 0
sum_of chosen (page ∷ pages) = bit_xor (cond (chosen 0) page 0) (sum_of (λ i. chosen (suc i)) pages)

-- some choice of the pages sums to the mask
pub record Chosen (pages : List ℕ) (mask : ℕ) : Type 0 where
  pub chosen : ℕ → Bool
  pub sum : sum_of chosen pages ≡ mask

pub record SumsAreChoices : Type 0 where
  pub choice : (pages : List ℕ) (mask : ℕ) → is_sum pages mask ≡ true → Chosen pages mask
  pub sum : (pages : List ℕ) (mask : ℕ) → Chosen pages mask → is_sum pages mask ≡ true

-- ---- the clauses of the request
module _ (n m : ℕ) (list : List ℕ) where
  -- every write meets a blank page
  abbrev pub MeetsBlank : (pages : List ℕ) → (block page : ℕ) → Type 0
  MeetsBlank pages block page = is_blank pages (slot m block page) ≡ true

  -- pages rise within a block: no higher one is written
  abbrev pub PagesRise : (pages : List ℕ) → (block page : ℕ) → Type 0
  PagesRise pages block page = (q : ℕ) → page < q → q < m → is_blank pages (slot m block q) ≡ true

  -- the originals are determined by the whole pages
  abbrev pub Determined : (pages : List ℕ) → Type 0
  Determined pages = (k : ℕ) → k < n * m → Chosen pages (2 ^ k)

  -- the pages after a line
  unfoldable pub pages_after : Line → (pages : List ℕ) → List ℕ
  pages_after (write block page originals) pages = page_written m pages block page (mask_of originals)
  pages_after (erase block) pages = block_erased m pages block
  pages_after (end writes erases) pages = pages
  pages_after other pages = pages

  -- and without the page or the block that the line touched
  unfoldable pub pages_lost : Line → (pages : List ℕ) → List ℕ
  pages_lost (write block page originals) pages = page_written m pages block page 0
  pages_lost (erase block) pages = block_erased m pages block
  pages_lost (end writes erases) pages = pages
  pages_lost other pages = pages

  -- the line of a write that 14 is not given for, or of an erase
  abbrev pub Allowed : Line → (pages : List ℕ) → Type 0
  Allowed (write block page originals) pages = MeetsBlank pages block page × PagesRise pages block page
  Allowed (erase block) pages = Unit {0}
  Allowed (end writes erases) pages = ⊥
  Allowed other pages = ⊥

  pub record Sound (line : Line) (pages : List ℕ) : Type 0 where
    pub named : Named n m line
    pub allowed : Allowed line pages
    pub after : Determined (pages_after line pages)
    pub lost : Determined (pages_lost line (pages_after line pages))

  -- each of the lines is sound where it comes, and the pages end as `final` says
  unfoldable pub AllSound : (final : List ℕ → Type 0) → List Line → (pages : List ℕ) → Type 0
  AllSound final [] pages = final pages
  AllSound final (line ∷ lines) pages = Sound line pages × AllSound final lines (pages_after line pages)

  -- the lines, numbered from `step` on
  unfoldable pub listed : (step : ℕ) → List Line → List ℕ
  listed step [] = []
  listed step (line ∷ lines) = printed step line ++ listed (suc step) lines

  unfoldable pub is_write : Line → Bool
  is_write (write block page originals) = true
  is_write (erase block) = false
  is_write (end writes erases) = false
  is_write other = false

  unfoldable pub is_erase : Line → Bool
  is_erase (write block page originals) = false
  is_erase (erase block) = true
  is_erase (end writes erases) = false
  is_erase other = false

  pub record Accepted (text : List ℕ) : Type 0 where
    pub lines : List Line
    -- the end counts are true, and nothing stands behind the end line
    pub text-is : text ≡ listed 0 lines ++ end_line (count is_write lines) (count is_erase lines)
    -- the pages end as the list asks
    pub sound : AllSound (λ pages. is_requested m list pages ≡ true) lines (resting_pages n m)

-- the checker accepts exactly if every clause holds
pub record AcceptsExactly : Type 0 where
  pub accepts : (n m : ℕ) (list text : List ℕ) → refusal (check_rows n m list) ≡ 0 → Accepted n m list text → check_answer n m list text ≡ said true
  pub accepted : (n m : ℕ) (list text : List ℕ) → check_answer n m list text ≡ said true → Accepted n m list text

-- ---- the first faulty line
-- the pages after some lines
unfoldable pub pages_after_all : (n m : ℕ) → (list : List ℕ) → List Line → (pages : List ℕ) → List ℕ
pages_after_all n m list [] pages = pages
pages_after_all n m list (line ∷ lines) pages = pages_after_all n m list lines (pages_after n m list line pages)

-- Behind lines that are sound, so that none of them decides, the next line does. Lines are counted from 1.
module _ (n m : ℕ) (list : List ℕ) (lines : List Line) (rest : List ℕ) where
  abbrev pub reached : List ℕ
  reached = pages_after_all n m list lines (resting_pages n m)

  abbrev pub Gives : (number line : ℕ) → Type 0
  Gives number line = check_answer n m list (listed n m list 0 lines ++ rest) ≡ faulty number line

  pub record Decides : Type 0 where
    -- it is none that is printed
    pub no_line : 0 < length rest → ((line : Line) (more : List ℕ) → Named n m line → rest ≢ printed (length lines) line ++ more)
        → Gives 13 (length lines + 1)
    -- it is the end line, and another follows
    pub after-end : (writes erases : ℕ) (more : List ℕ) → 0 < length more → rest ≡ end_line writes erases ++ more → Gives 13 (length lines + 2)
    -- a write to a page that is not blank, or below one that is not
    pub bad-write : (block page : ℕ) (originals more : List ℕ) → Named n m (write block page originals)
        → rest ≡ printed (length lines) (write block page originals) ++ more
        → (Allowed n m list (write block page originals) reached → ⊥) → Gives 14 (length lines + 1)
    -- an original is no longer determined
    pub lost : (line : Line) (more : List ℕ) → Named n m line → Allowed n m list line reached → rest ≡ printed (length lines) line ++ more
        → (Determined n m list (pages_after n m list line reached)
        → Determined n m list (pages_lost n m list line (pages_after n m list line reached)) → ⊥)
        → Gives 15 (length lines + 1)

unfoldable pub FirstDecides : Type 0
FirstDecides = (n m : ℕ) (list : List ℕ) (lines : List Line) (rest : List ℕ) → refusal (check_rows n m list) ≡ 0
    → AllSound n m list (λ pages. Unit {0}) lines (resting_pages n m) → Decides n m list lines rest

-- ---- the method
-- for every list that rows 1 to 3 let pass, and every split of it
unfoldable pub MethodPasses : Type 0
MethodPasses = (n m : ℕ) (list sets : List ℕ) → refusal (check_rows n m list) ≡ 0 → length sets ≡ n * m → is_split n m list sets ≡ true
    → check_answer n m list (method_text n m list sets) ≡ said true
