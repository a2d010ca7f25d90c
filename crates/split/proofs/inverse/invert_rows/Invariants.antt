-- `invert_rows` leaves the inverse of each row.
use Rattle.split.proofs.InverseLaws.{Turned}
use Rattle.split.proofs.inverse.invert_rows.Given as goal

abbrev pub invariant-loop-i : goal.invariant-loop-i
invariant-loop-i l = Turned l.m l.initial.bytes l.bytes l.i
