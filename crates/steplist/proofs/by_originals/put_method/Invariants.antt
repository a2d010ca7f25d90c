-- The loop over the places prints every step once; with the end line that is the method's listing.
use Rattle.checker.specs.Method.{move_by}
use Rattle.steplist.proofs.MethodLines.{Lists}
use Rattle.steplist.proofs.by_originals.put_method.Given as goal

abbrev pub invariant-loop-place : goal.invariant-loop-place
invariant-loop-place l = Lists (move_by l.n l.m l.list l.sets) l.place l.at l.initial.out l.out
