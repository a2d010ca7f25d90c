-- `enter_row` enters the sets of a row by destination, and gathers their bits.
use Rattle.split.specs.inner.Rows.{Entered, Bits}
use Rattle.split.proofs.rows.enter_row.Given as goal

abbrev pub invariant-loop-k : goal.invariant-loop-k
invariant-loop-k l = Entered l.list l.sets l.k l.table × Bits l.sets l.start l.k l.met
