-- `rows_have_each` tells whether each row has each number below m.
use Rattle.flash.proofs.Kit.{◌≡◌}
use Rattle.split.specs.inner.Rows.{rows_have_each}
use Rattle.split.proofs.rows.rows_have_each.Given as goal

abbrev pub invariant-loop-i : goal.invariant-loop-i
invariant-loop-i l = l.each ≡ rows_have_each l.i l.m l.bytes
