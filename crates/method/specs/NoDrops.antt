-- A list without drops is moved as it is, and every answer is what it is where the method knows nothing of drops.
use Rattle.std.specs.Prelude.{◌≡◌, false, List, ℕ, eqb}
use Rattle.flash.specs.Lists.{any, concat_map, part}
use Rattle.flash.specs.PageSum.{sum}
use Rattle.flash.specs.Chip.{Chip, page_at}
use Rattle.split.specs.OneToOne.{dropped}
use Rattle.split.specs.Request.{Request}
use Rattle.method.specs.Move.{Move, move_of, Plan, plan}
use Rattle.method.specs.Place.{Pass}
use Rattle.method.specs.Read.{stored_slots, read_slots, read_terms, read_page}
use Rattle.method.specs.State.{counts_as}
use Rattle.method.specs.Step.{originals_of, written_page}

-- the plan that drops nothing
abbrev pub undropped : Move → Plan
undropped M = record { move = M; is_dropped = λ k. false }

pub record NoDrops : Type 0 where
  -- the lent list itself is carried out
  pub plan-is : (R : Request) → any (eqb dropped) R.list ≡ false → plan R ≡ undropped (move_of R.sizes R.list R.sets)
  -- a read sums the pages of its slots, all of them
  pub count : (M : Move) (marks : List ℕ) (k : ℕ) → stored_slots (read_terms (undropped M) marks k) ≡ read_slots M marks k
  pub read : (M : Move) (chip : Chip) (k : ℕ) → read_page (undropped M) chip k ≡ sum (page_at M.sizes.p chip) (read_slots M chip.marks k)
  -- and so does a write, of the slots of its originals
  pub written : (M : Move) (pass : Pass) (block page : ℕ) (chip : Chip)
      → written_page (undropped M) pass block page chip
      ≡ sum (page_at M.sizes.p chip) (concat_map (read_slots M chip.marks) (originals_of M pass block page))
  -- the states hold the originals as they are
  pub counts-as : (M : Move) (originals : List ℕ) (k : ℕ) → counts_as (undropped M) originals k ≡ part M.sizes.p k originals
