-- `fill` fills the set bytes by the rule.
use Rattle.split.specs.inner.Work.{Working}
use Rattle.split.proofs.rule.fill.Given as goal

abbrev pub invariant-loop-k : goal.invariant-loop-k
invariant-loop-k l = Working l.m l.list l.k l.sets l.tables.targets l.tables.homes l.tables.destinations
