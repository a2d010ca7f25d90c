-- `sets_by_destination` enters the sets of all originals, and tells whether those of each source block have each set.
use Rattle.flash.proofs.Kit.{◌*◌, ◌≡◌}
use Rattle.split.specs.inner.Rows.{Entered, rows_have_each}
use Rattle.split.proofs.rows.sets_by_destination.Given as goal

abbrev pub invariant-loop-i : goal.invariant-loop-i
invariant-loop-i l = Entered l.list l.sets (l.i * l.m) l.table × (l.each ≡ rows_have_each l.i l.m l.sets)
