-- Rules 4.1 to 4.4 and 7.2: one step, run as that step repeated, and what is counted of it.
use Rattle.std.specs.Prelude.{Bool, true, false, List, [], ◌∷◌, ℕ, zero, suc, ◌+◌, eqb, length, take, drop}
use Rattle.flash.specs.Lists.{concat_map}
use Rattle.flash.specs.declared.sizes.Sizes.{Sizes}
use Rattle.flash.specs.Geometry.{slot}
use Rattle.flash.specs.PageSum.{sum, written_bytes}
use Rattle.flash.specs.Chip.{Chip, erase_block, write_page}
use Rattle.method.specs.declared.tally.Tally.{Tally}
use Rattle.method.specs.Move.{Move, Plan}
use Rattle.method.specs.Place.{Pass, Operation, write, erase, done, mark_of, written, operations, operation_at}
use Rattle.method.specs.Read.{Term, term_page, stored_slots, read_terms}
use Rattle.method.specs.State.{held_originals}

-- what a run changes: the store and the marks, and the work page
pub record Running : Type 0 where
  pub chip : Chip
  pub work : List ℕ

abbrev pub running_of : (store marks work : List ℕ) → Running
running_of store marks work = record { chip = record { store = store; marks = marks }; work = work }

-- rules 4.1 and 4.2: the originals whose sum is written
unfoldable pub originals_of : Move → Pass → (block page : ℕ) → List ℕ
originals_of M pass block page = held_originals M (written pass) block page

module _ (X : Plan) where
  open X use {move as M}

  -- rule 4.4: what is summed for a write
  unfoldable pub write_terms : Pass → (block page : ℕ) → (marks : List ℕ) → List Term
  write_terms pass block page marks = concat_map (read_terms X marks) (originals_of M pass block page)

  -- rule 4.7: how many stored pages are read for it
  unfoldable pub pages_read : Pass → (block page : ℕ) → (marks : List ℕ) → ℕ
  pages_read pass block page marks = length (stored_slots (write_terms pass block page marks))

  unfoldable pub written_page : Pass → (block page : ℕ) → Chip → List ℕ
  written_page pass block page chip = sum (term_page M.sizes.p chip) (write_terms pass block page chip.marks)

  -- rule 7.2: a write leaves its page in the work page
  unfoldable pub perform : Operation → Running → Running
  perform (write pass block page) run =
      let new = written_page pass block page run.chip in
      record {
        chip = write_page M.sizes.p (slot M.sizes.m block page) new (mark_of M.sizes pass) run.chip;
        work = new;
      }
  perform (erase block) run = record { chip = erase_block M.sizes.m M.sizes.p block run.chip; work = run.work }
  perform done run = run

  -- the step at a place
  unfoldable pub step : (place : ℕ) → Running → Running
  step place run = perform (operation_at M.sizes place) run

  -- as many steps as `count` says, each from the next place
  unfoldable pub steps : (count place : ℕ) → Running → Running
  steps zero place run = run
  steps (suc count) place run = steps count (suc place) (step place run)

-- the step is a write, an erase, or an erase of this block
unfoldable pub is_write : Operation → Bool
is_write (write pass block page) = true
is_write (erase block) = false
is_write done = false

unfoldable pub is_erase : Operation → Bool
is_erase (write pass block page) = false
is_erase (erase block) = true
is_erase done = false

unfoldable pub erases_block : (block : ℕ) → Operation → Bool
erases_block block (write pass b page) = false
erases_block block (erase b) = eqb b block
erases_block block done = false

-- the operations of `count` steps from a place on
unfoldable pub operations_from : Sizes → (place count : ℕ) → List Operation
operations_from Z place count = take count (drop place (operations Z))

-- ---- what is counted
abbrev pub nothing_done : Tally
nothing_done = record { steps = 0; writes = 0; erases = 0; bytes = 0; reads = 0 }

-- One step more, from these marks. Of a write the bytes that it programs are counted too, its page being in the work page after it, and the
-- stored pages that it was made from.
unfoldable pub tallied : Plan → Operation → (marks work : List ℕ) → Tally → Tally
tallied X (write pass block page) marks work t = record {
  steps = t.steps + 1;
  writes = t.writes + 1;
  erases = t.erases;
  bytes = t.bytes + written_bytes work;
  reads = t.reads + pages_read X pass block page marks;
}
tallied X (erase block) marks work t =
    record { steps = t.steps + 1; writes = t.writes; erases = t.erases + 1; bytes = t.bytes; reads = t.reads }
tallied X done marks work t = t

-- of as many steps as `count` says, each from the next place
unfoldable pub tally_of : Plan → (count place : ℕ) → Running → Tally
tally_of X zero place run = nothing_done
tally_of X (suc count) place run =
    let after = step X place run in
    tallied X (operation_at X.move.sizes place) run.chip.marks after.work (tally_of X count (suc place) after)

-- two tallies together
abbrev pub added : Tally → Tally → Tally
added one two = record {
  steps = one.steps + two.steps;
  writes = one.writes + two.writes;
  erases = one.erases + two.erases;
  bytes = one.bytes + two.bytes;
  reads = one.reads + two.reads;
}
