-- `exchange_along_path` exchanges the two sets along the path and leaves the tables exact.
use Rattle.flash.proofs.Kit.{◌≡◌}
use Rattle.split.proofs.PathLaws.{Walking}
use Rattle.split.proofs.Numbers.{unchanged}
use Rattle.split.proofs.tables.Tables.exchange_along_path.Given as goal

abbrev pub invariant-loop-self : goal.invariant-loop-self
invariant-loop-self l = record {
  walking : Walking l.fn.divisor.by l.list l.k l.a l.b l.numbers l.self.targets l.self.homes l.self.destinations l.block;
  bits-stay : l.self.destinations ≡ l.initial.self.destinations;
}

abbrev pub decreases-loop-self : goal.decreases-loop-self
decreases-loop-self l = unchanged l.initial.numbers l.numbers l.k
