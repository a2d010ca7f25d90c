-- Rules 9.1 to 9.7: the whole output of an input, in either form.
use Rattle.std.specs.Prelude.{◌≡◌, Bool, true, false, cond, List, [], ◌++◌, ℕ, zero, suc, ◌≤◌, eqb, length, take, replicate}
use Rattle.flash.specs.Lists.{count}
use Rattle.flash.specs.Tables.{refusal}
use Rattle.flash.specs.declared.sizes.Sizes.{Sizes}
use Rattle.flash.specs.Geometry.{original_count}
use Rattle.split.specs.OneToOne.{bad_list}
use Rattle.split.specs.Drops.{completed}
use Rattle.split.specs.Rule.{split_by_rule}
use Rattle.split.specs.Request.{unpinned}
use Rattle.method.specs.Move.{Plan, plan}
use Rattle.method.specs.Place.{Operation, write, erase, done, operations, operation_at, last_place}
use Rattle.method.specs.State.{chip_at_rest}
use Rattle.method.specs.Step.{Running, step, is_write, is_erase}
use Rattle.listing.specs.Input.{Input, unreadable, refused, request, input_of, within_limit}
use Rattle.listing.specs.Lines.{write_line, erase_line, end_line, refused_line, unreadable_line}
use Rattle.checker.specs.Answer.{check_rows}
use Rattle.checker.specs.Method.{method_text}

-- the line of a step; after a write the work page is the page written
unfoldable pub step_line : (place : ℕ) → Operation → (work : List ℕ) → List ℕ
step_line place (write pass block page) work = write_line place block page work
step_line place (erase block) work = erase_line place block
step_line place done work = []

-- the lines of `count` steps from a place on
unfoldable pub step_lines : Plan → (count place : ℕ) → Running → List ℕ
step_lines X zero place run = []
step_lines X (suc count) place run =
    let after = step X place run in
    step_line place (operation_at X.move.sizes place) after.work ++ step_lines X count (suc place) after

-- the lines of all steps, and the end line
unfoldable pub move_lines : Plan → Running → List ℕ
move_lines X start =
    let Z = X.move.sizes in
    step_lines X (last_place Z) 0 start ++ end_line (count is_write (operations Z)) (count is_erase (operations Z))

-- rule 9.6: the move of a store at rest, by the split that the split call makes
unfoldable pub listed : Sizes → (list bytes : List ℕ) → List ℕ
listed Z list bytes =
    move_lines (plan (unpinned Z list (split_by_rule Z.n Z.m (completed list)))) (record { chip = chip_at_rest Z bytes; work = replicate Z.p 0 })

-- Rule 9.7: the same steps, where a write names the originals that its page is the sum of. What the check of such a listing refuses is
-- refused with its number.
unfoldable pub listed_by_originals : Sizes → (list : List ℕ) → List ℕ
listed_by_originals Z list =
    let number = refusal (check_rows Z.n Z.m list) in
    cond (eqb number 0) (method_text Z.n Z.m list (split_by_rule Z.n Z.m list)) (refused_line number)

-- Rule 9.5. An entry of 65535 drops its page; one above is as bad as any other that names none.
unfoldable pub answered : (by_originals : Bool) → Input → List ℕ
answered by_originals unreadable = unreadable_line
answered by_originals refused = refused_line 1
answered false (request Z list bytes) = cond (bad_list (original_count Z) list) (refused_line 3) (listed Z list bytes)
answered true (request Z list bytes) = listed_by_originals Z list

unfoldable pub output : (by_originals : Bool) → (input : List ℕ) → List ℕ
output by_originals input = answered by_originals (input_of (within_limit input))

-- A count of bytes at the front of a part. The second follows from the first; both are what lending the front asks for.
abbrev pub Counts : (count : ℕ) → (out : List ℕ) → Type 0
Counts count out = (count ≤ length out) × (count ≡ length (take count out))
