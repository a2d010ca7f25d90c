-- `check` tells whether the entries of the kept pages are one-to-one, and leaves their marks.
use Rattle.split.proofs.CheckLaws.{Checked}
use Rattle.split.proofs.list.check.Given as goal

abbrev pub invariant-loop-lent : goal.invariant-loop-lent
invariant-loop-lent l = Checked l.originals l.list l.marks l.lent-index
