-- What the search of the marks gathers, and what it tells of that.
use Rattle.std.specs.Prelude.{Bool, cond, ◌||◌, not, List, ℕ, ◌+◌, ◌≤◌, eqb, ltb}
use Rattle.flash.specs.declared.sizes.Sizes.{Sizes}
use Rattle.method.specs.inner.Shape.{Shape}
use Rattle.recovery.specs.declared.marks.MarksRead.{MarksRead}
use Rattle.recovery.specs.declared.marks.MarksRead.TheVariants.{NoMoment, Full, Torn}

-- what `moment` makes of the gathered numbers: rules 5.3 to 5.6
unfoldable pub moment_of : (n : ℕ) (is_backward : Bool) (unfinished torn change : ℕ) → MarksRead
moment_of n is_backward unfinished torn change =
    cond (eqb unfinished 0)
    (cond (eqb change 0 || ltb n change) NoMoment (Full is_backward change))
    (cond (eqb unfinished 2 || not (eqb (torn + 1) change)) NoMoment (Torn is_backward torn))

-- the shape that the marks have in each case: blocks above the change or the unfinished block bear s, or s + 2 in the backward pass
abbrev pub Shown : Sizes → (marks : List ℕ) → MarksRead → Type 0
Shown Z marks NoMoment = Unit
Shown Z marks (Full is_backward change) = (1 ≤ change) × Shape Z marks change change (cond is_backward 2 0)
Shown Z marks (Torn is_backward block) = Shape Z marks block (block + 1) (cond is_backward 2 0)
