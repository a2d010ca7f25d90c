-- Rules 13.1 and 13.8 to 13.10: what a line leads to, and the whole answer.
use Rattle.std.specs.Prelude.{Bool, false, cond, ◌&&◌, not, List, [], ◌∷◌, ℕ, zero, suc, ◌+◌, ◌*◌, eqb, leb, length}
use Rattle.flash.specs.Tables.{Row, refusal}
use Rattle.split.specs.OneToOne.{is_one_to_one}
use Rattle.checker.specs.Lines.{Line, write, erase, end, other, read_line}
use Rattle.checker.specs.Pages.{mask_of, resting_pages, is_bad_write, page_written, block_erased, survives, is_requested}

-- what the call returns
pub record CheckAnswer : Type 0 where
  pub number : ℕ
  -- the faulty line, counted from 1; 0 where none is
  pub line : ℕ
  -- 1 is "yes", 0 "no"
  pub accepted : ℕ

abbrev pub refused : (number : ℕ) → CheckAnswer
refused number = record { number = number; line = 0; accepted = 0 }

abbrev pub faulty : (number line : ℕ) → CheckAnswer
faulty number line = record { number = number; line = line; accepted = 0 }

abbrev pub said : (good : Bool) → CheckAnswer
said good = record { number = 0; line = 0; accepted = cond good 1 0 }

-- how far the listing is: the lines that were good, and what the pages hold after them
pub record Progress : Type 0 where
  pub writes : ℕ
  pub erases : ℕ
  pub pages : List ℕ

-- the number of the next step
abbrev pub step_of : Progress → ℕ
step_of P = P.writes + P.erases

-- a line leads on, or the answer is known
pub data Turn : Type 0 where
  on : Progress → Turn
  stop : CheckAnswer → Turn

module _ (n m : ℕ) (list : List ℕ) where
  -- lines are counted from 1, steps from 0
  abbrev pub fault : (number : ℕ) → Progress → Turn
  fault number P = stop (faulty number (step_of P + 1))

  -- rules 13.5 to 13.9, where `rest` stands behind the line
  unfoldable pub turn : Line → (rest : List ℕ) → Progress → Turn
  turn other rest P = fault 13 P
  turn (write block page originals) rest P =
      let after = page_written m P.pages block page (mask_of originals) in
      cond (is_bad_write m P.pages block page) (fault 14 P)
      (cond (survives (n * m) after (page_written m after block page 0))
      (on (record { writes = P.writes + 1; erases = P.erases; pages = after }))
      (fault 15 P))
  turn (erase block) rest P =
      let after = block_erased m P.pages block in
      cond (survives (n * m) after (block_erased m after block))
      (on (record { writes = P.writes; erases = P.erases + 1; pages = after }))
      (fault 15 P)
  turn (end writes erases) rest P =
      cond (eqb (length rest) 0)
      (stop (said (eqb writes P.writes && eqb erases P.erases && is_requested m list P.pages)))
      -- the line behind it is faulty, however it is formed
      (stop (faulty 13 (step_of P + 2)))

  unfoldable pub then_check : Turn → (Progress → CheckAnswer) → CheckAnswer
  then_check (on P) more = more P
  then_check (stop answer) more = answer

  -- Rule 13.10: line by line. A text has no more lines than bytes, so that `most` is enough.
  unfoldable pub check_from : (most : ℕ) → (text : List ℕ) → Progress → CheckAnswer
  check_from zero text P = said false
  check_from (suc most) text P =
      let read = read_line n m (step_of P) text in
      cond (eqb (length text) 0) (said false) (then_check (turn read.line read.rest P) (λ Q. check_from most read.rest Q))

  abbrev pub start : Progress
  start = record { writes = 0; erases = 0; pages = resting_pages n m }

-- rule 13.1
unfoldable pub are_sizes : (n m : ℕ) → Bool
are_sizes n m = leb 1 n && leb n 64 && leb 1 m && leb m 64 && leb (n * m) 64

unfoldable pub check_rows : (n m : ℕ) → (list : List ℕ) → List (Row ℕ)
check_rows n m list =
    record { fits = not (are_sizes n m); gives = 1 }
    ∷ record { fits = not (eqb (length list) (n * m)); gives = 2 }
    ∷ record { fits = not (is_one_to_one (n * m) list); gives = 3 }
    ∷ []

unfoldable pub check_answer : (n m : ℕ) → (list text : List ℕ) → CheckAnswer
check_answer n m list text =
    let number = refusal (check_rows n m list) in
    cond (eqb number 0) (check_from n m list (length text) text (start n m list)) (refused number)
