-- The terms of a sum as the code gathers them: the slots that an array starts with, and whether 255s are added.
use Rattle.std.specs.Prelude.{◌≡◌, Bool, true, false, cond, ◌&&◌, not, List, ℕ, ◌-◌, ◌*◌, leb, ltb, length, get_or, set, take}
use Rattle.flash.specs.declared.sizes.Sizes.{Sizes}
use Rattle.flash.specs.Geometry.{store_len}
use Rattle.flash.specs.PageSum.{sum}
use Rattle.flash.specs.Chip.{Chip}
use Rattle.flash.specs.inner.Totals.{total_page}
use Rattle.split.specs.inner.Mask.{is_marked}
use Rattle.method.specs.Move.{Plan, move_of}
use Rattle.method.specs.Read.{Term, term_page, stored_slots}
use Rattle.walk.specs.declared.terms.Addends.{Addends}

-- what is carried out, with the dropped pages as bits
abbrev pub plan_by : Sizes → (list sets drops : List ℕ) → Plan
plan_by sizes list sets drops = record { move = move_of sizes list sets; is_dropped = is_marked drops }

-- as many stored pages as the terms have, and they add up to the same page
pub record AddsUp (Z : Sizes) (terms : List Term) (slots : List ℕ) (r : Addends) : Type 0 where
  pub number : length (stored_slots terms) ≡ r.count
  pub page : (chip : Chip) → length chip.store ≡ store_len Z
      → sum (term_page Z.p chip) terms ≡ total_page Z.p r.filler chip.store (take r.count slots)

-- what a dropped original adds
abbrev pub only_filler : Addends
only_filler = record { count = 0; filler = true }

-- a slot from block `plain` on, which holds an original of its own, and that is dropped
abbrev pub drops_plain : (m plain : ℕ) → (drops : List ℕ) → (t : ℕ) → Bool
drops_plain m plain drops t = leb (plain * m) t && is_marked drops (t - m)

-- the slots of one original: the last of them may be such a one
abbrev pub last_left : (m plain : ℕ) → (drops slots : List ℕ) → (count : ℕ) → Addends
last_left m plain drops slots count =
    let is_out = drops_plain m plain drops (get_or slots (count - 1) 0) in
    cond is_out (record { count = count - 1; filler = true }) (record { count = count; filler = false })

-- the first slot, and behind it those of page `number`, if any
abbrev pub rest_left : (m plain : ℕ) → (drops : List ℕ) → (number : ℕ) → (slots : List ℕ) → (count : ℕ) → Addends
rest_left m plain drops number slots count =
    cond (ltb count 2) (record { count = count; filler = false })
    (cond (is_marked drops number) (record { count = 1; filler = true }) (last_left m plain drops slots count))

-- the last slot in place of the first
abbrev pub first_out : (slots : List ℕ) → (count : ℕ) → List ℕ
first_out slots count = set slots 0 (get_or slots (count - 1) 0)

abbrev pub first_left : (is_out : Bool) → Addends → Addends
first_left is_out left = cond is_out (record { count = left.count - 1; filler = not left.filler }) left
