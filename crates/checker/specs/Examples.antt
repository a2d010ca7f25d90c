-- Worked cases: the method's own listing, one for each number, for "yes" and for "no", and the exact form of a line.
use Rattle.std.specs.Prelude.{◌≡◌, List, [], ◌∷◌, ◌++◌, ℕ}
use Rattle.flash.specs.Lists.{range}
use Rattle.listing.specs.Lines.{originals_line, erase_line, end_line}
use Rattle.checker.specs.Answer.{CheckAnswer, check_answer}

abbrev answered_yes : CheckAnswer
answered_yes = record { number = 0; line = 0; accepted = 1 }

abbrev answered_no : CheckAnswer
answered_no = record { number = 0; line = 0; accepted = 0 }

abbrev gives : (number line : ℕ) → CheckAnswer
gives number line = record { number = number; line = line; accepted = 0 }

-- one original a line
abbrev copy : (step block original : ℕ) → List ℕ
copy step block original = originals_line step block 0 (original ∷ [])

-- three blocks of one page, 1 2 0: what the method does
abbrev three : (text : List ℕ) → CheckAnswer
three text = check_answer 3 1 (1 ∷ 2 ∷ 0 ∷ []) text

abbrev forward : List ℕ
forward =
    originals_line 0 0 0 (0 ∷ 2 ∷ []) ++ erase_line 1 1 ++ originals_line 2 1 0 (0 ∷ 1 ∷ []) ++ erase_line 3 2 ++ copy 4 2 2 ++ erase_line 5 3

abbrev backward : List ℕ
backward = copy 6 3 1 ++ erase_line 7 2 ++ copy 8 2 0 ++ erase_line 9 1 ++ copy 10 1 2 ++ erase_line 11 0

-- with the lowest block of the cycle for its top
abbrev lowest_top : List ℕ
lowest_top =
    copy 0 0 0 ++ erase_line 1 1 ++ originals_line 2 1 0 (0 ∷ 1 ∷ []) ++ erase_line 3 2 ++ originals_line 4 2 0 (1 ∷ 2 ∷ []) ++ erase_line 5 3
    ++ copy 6 3 1 ++ erase_line 7 2

-- one block of one page, which stays
abbrev alone : (text : List ℕ) → CheckAnswer
alone text = check_answer 1 1 (0 ∷ []) text

-- one block of two pages, which stay
abbrev pair : (text : List ℕ) → CheckAnswer
pair text = check_answer 1 2 (0 ∷ 1 ∷ []) text

-- 2 to the 64th
abbrev large : List ℕ
large = 49 ∷ 56 ∷ 52 ∷ 52 ∷ 54 ∷ 55 ∷ 52 ∷ 52 ∷ 48 ∷ 55 ∷ 51 ∷ 55 ∷ 48 ∷ 57 ∷ 53 ∷ 53 ∷ 49 ∷ 54 ∷ 49 ∷ 54 ∷ []

pub record Examples : Type 0 where
  pub method : three (forward ++ backward ++ end_line 6 6) ≡ answered_yes
  pub other-counts : three (forward ++ backward ++ end_line 6 5) ≡ answered_no
  pub no_end : three (forward ++ backward) ≡ answered_no
  pub half : three (forward ++ end_line 3 3) ≡ answered_no
  pub lowest-top : three lowest_top ≡ gives 15 8
  pub last-copy : three (erase_line 0 1) ≡ gives 15 1
  -- page 0 is written in place of page 1: the write comes first
  pub not-blank : three (copy 0 1 1) ≡ gives 14 1
  pub below : pair (originals_line 0 0 1 (0 ∷ []) ++ originals_line 1 0 0 (1 ∷ [])) ≡ gives 14 2
  -- pages may be left out; the spare is not blank then
  pub left_out : pair (originals_line 0 0 1 (0 ∷ []) ++ end_line 1 0) ≡ answered_no
  pub again : pair (originals_line 0 0 1 (0 ∷ []) ++ erase_line 1 0 ++ originals_line 2 0 0 (0 ∷ 1 ∷ []) ++ erase_line 3 0 ++ end_line 2 2) ≡ answered_yes
  pub at_rest : alone (end_line 0 0) ≡ answered_yes
  pub blank-erased : alone (erase_line 0 0 ++ end_line 0 1) ≡ answered_yes
  pub not-asked : check_answer 2 1 (1 ∷ 0 ∷ []) (end_line 0 0) ≡ answered_no
  pub empty : alone [] ≡ answered_no
  pub after-end : alone (end_line 0 0 ++ end_line 0 0) ≡ gives 13 2
  pub after-end-unended : alone (end_line 0 0 ++ (120 ∷ [])) ≡ gives 13 2
  -- 13 before 14
  pub twice : alone (originals_line 0 1 0 (0 ∷ 0 ∷ [])) ≡ gives 13 1
  pub falling : pair (originals_line 0 0 0 (1 ∷ 0 ∷ [])) ≡ gives 13 1
  pub none : alone (originals_line 0 0 0 []) ≡ gives 13 1
  pub another-step : alone (erase_line 1 0) ≡ gives 13 1
  pub outside-block : alone (erase_line 0 2) ≡ gives 13 1
  pub outside-page : alone (originals_line 0 0 1 (0 ∷ [])) ≡ gives 13 1
  pub outside-original : alone (originals_line 0 0 0 (1 ∷ [])) ≡ gives 13 1
  -- `00 E 0`, `0 E 00`, `0  E 0`, `0 E 0 `, a carriage return, no line feed, an empty line
  pub leading-zero : alone (48 ∷ 48 ∷ 32 ∷ 69 ∷ 32 ∷ 48 ∷ 10 ∷ []) ≡ gives 13 1
  pub zero-zero : alone (48 ∷ 32 ∷ 69 ∷ 32 ∷ 48 ∷ 48 ∷ 10 ∷ []) ≡ gives 13 1
  pub two-spaces : alone (48 ∷ 32 ∷ 32 ∷ 69 ∷ 32 ∷ 48 ∷ 10 ∷ []) ≡ gives 13 1
  pub last-space : alone (48 ∷ 32 ∷ 69 ∷ 32 ∷ 48 ∷ 32 ∷ 10 ∷ []) ≡ gives 13 1
  pub returned : alone (48 ∷ 32 ∷ 69 ∷ 32 ∷ 48 ∷ 13 ∷ 10 ∷ []) ≡ gives 13 1
  pub unended : alone (48 ∷ 32 ∷ 69 ∷ 32 ∷ 48 ∷ []) ≡ gives 13 1
  pub empty-line : alone (10 ∷ []) ≡ gives 13 1
  -- no block, and as a count merely untrue
  pub large-block : alone ((48 ∷ 32 ∷ 69 ∷ 32 ∷ []) ++ large ++ (10 ∷ [])) ≡ gives 13 1
  pub large-count : alone ((101 ∷ 110 ∷ 100 ∷ 32 ∷ 48 ∷ 32 ∷ []) ++ large ++ (10 ∷ [])) ≡ answered_no
  pub no_blocks : check_answer 0 1 [] [] ≡ gives 1 0
  pub too_many : check_answer 9 8 [] [] ≡ gives 1 0
  pub another-length : check_answer 1 1 (0 ∷ 0 ∷ []) [] ≡ gives 2 0
  pub met-twice : check_answer 2 1 (0 ∷ 0 ∷ []) [] ≡ gives 3 0
  pub dropped : check_answer 1 1 (65535 ∷ []) (end_line 0 0) ≡ gives 3 0
  pub sixty-four : check_answer 8 8 (range 0 64) [] ≡ answered_no
