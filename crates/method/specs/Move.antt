-- A move: where every page goes and in which set, as the move is carried out; and what a request asks for.
use Rattle.std.specs.Prelude.{◌≡◌, Bool, true, List, ℕ, length}
use Rattle.flash.specs.declared.sizes.Sizes.{Sizes}
use Rattle.flash.specs.Geometry.{Bounds, original_count, list_len, sets_len, store_len, marks_len, work_len}
use Rattle.flash.specs.Chip.{Chip}
use Rattle.split.specs.OneToOne.{is_one_to_one}
use Rattle.split.specs.Drops as split
use Rattle.split.specs.Drops.{completed}
use Rattle.split.specs.Split.{is_split}
use Rattle.split.specs.Request.{Request}

pub record Move : Type 0 where
  pub sizes : Sizes
  -- rule 1.13, completed by rule 1.19
  pub list : List ℕ
  -- rule 1.14
  pub sets : List ℕ

abbrev pub move_of : Sizes → (list sets : List ℕ) → Move
move_of sizes list sets = record { sizes = sizes; list = list; sets = sets }

-- the move that is carried out for a request
abbrev pub move : Request → Move
move R = move_of R.sizes (completed R.list) R.sets

-- What is carried out for a request: its move, and which originals are dropped. The move knows nothing of these.
pub record Plan : Type 0 where
  pub move : Move
  pub is_dropped : (k : ℕ) → Bool

abbrev pub plan : Request → Plan
plan R = record { move = move R; is_dropped = split.is_dropped R.list }

-- a move that rows 1 to 4 of the table let pass
pub record AcceptedMove (M : Move) : Type 0 where
  pub ranges : Bounds M.sizes
  pub list_length : length M.list ≡ list_len M.sizes
  pub sets-length : length M.sets ≡ sets_len M.sizes
  pub one-to-one : is_one_to_one (original_count M.sizes) M.list ≡ true
  pub split : is_split M.sizes.n M.sizes.m M.list M.sets ≡ true

-- the other lent parts have their exact lengths
pub record Lent (Z : Sizes) (chip : Chip) (work : List ℕ) : Type 0 where
  pub store_length : length chip.store ≡ store_len Z
  pub marks-length : length chip.marks ≡ marks_len Z
  pub work-length : length work ≡ work_len Z
