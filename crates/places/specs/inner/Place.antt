-- A place and the operation at it, as the code has them.
use Rattle.std.specs.Prelude.{Bool, true, false, ℕ}
use Rattle.flash.specs.declared.sizes.Sizes.{Sizes}
use Rattle.method.specs.Place.{Pass, forward, backward, Operation, write, erase, done, mark_of, pass_at, filling, filled}
use Rattle.places.specs.declared.place.Place.{Place}
use Rattle.places.specs.declared.place.Op.{Op}
use Rattle.places.specs.declared.place.Op.TheVariants.{Write, Erase, Done}

abbrev pub is_backward : Pass → Bool
is_backward forward = false
is_backward backward = true

abbrev pub pass_of : (is_backward : Bool) → Pass
pass_of true = backward
pass_of false = forward

-- the step number with what it tells: the pass, the block that is being filled, and how many of its pages are written
unfoldable pub place_of : Sizes → (at : ℕ) → Place
place_of Z at = record { at = at; backward = is_backward (pass_at Z at); block = filling Z at; page = filled Z at }

-- the step of rule 4.3, with the mark that a write has
abbrev pub op_of : Sizes → Operation → Op
op_of Z (write pass block page) = Write (is_backward pass) block page (mark_of Z pass)
op_of Z (erase block) = Erase block
op_of Z done = Done
