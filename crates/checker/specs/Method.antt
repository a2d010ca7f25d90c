-- Rule 13.11: the steps of the method in this form. They do not depend on the bytes of a page nor on the start letter.
use Rattle.std.specs.Prelude.{cond, List, [], ◌∷◌, ◌++◌, ℕ, suc, ltb}
use Rattle.flash.specs.Lists.{count}
use Rattle.method.specs.Move.{Move, move_of}
use Rattle.method.specs.Place.{Operation, write, erase, done, operations}
use Rattle.method.specs.Step.{is_write, is_erase, originals_of}
use Rattle.listing.specs.Lines.{originals_line, erase_line, end_line}

-- a number put into its place among rising ones, and numbers put into that order
unfoldable pub inserted : (k : ℕ) → List ℕ → List ℕ
inserted k [] = k ∷ []
inserted k (x ∷ xs) = cond (ltb k x) (k ∷ x ∷ xs) (x ∷ inserted k xs)

unfoldable pub ascending : List ℕ → List ℕ
ascending [] = []
ascending (k ∷ ks) = inserted k (ascending ks)

-- the line of a step: what a write stores, by its originals
unfoldable pub step_text : Move → (place : ℕ) → Operation → List ℕ
step_text M place (write pass block page) = originals_line place block page (ascending (originals_of M pass block page))
step_text M place (erase block) = erase_line place block
step_text M place done = []

-- the lines of steps, of which the first has the number `place`
unfoldable pub steps_text : Move → (place : ℕ) → List Operation → List ℕ
steps_text M place [] = []
steps_text M place (operation ∷ later) = step_text M place operation ++ steps_text M (suc place) later

-- the move of a list by a split
abbrev pub move_by : (n m : ℕ) → (list sets : List ℕ) → Move
move_by n m list sets = move_of (record { n = n; m = m; p = 1; s = 0 }) list sets

-- the lines of all steps, and the end line
unfoldable pub method_text : (n m : ℕ) → (list sets : List ℕ) → List ℕ
method_text n m list sets =
    let M = move_by n m list sets in
    let steps = operations M.sizes in
    steps_text M 0 steps ++ end_line (count is_write steps) (count is_erase steps)
