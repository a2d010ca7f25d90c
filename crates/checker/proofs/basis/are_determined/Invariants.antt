-- `are_determined` inserts all pages and counts the rows.
use Rattle.flash.proofs.Kit.{◌≡◌}
use Rattle.checker.specs.inner.Elimination.{filled_rows}
use Rattle.checker.proofs.BasisLaws.{Spans}
use Rattle.checker.proofs.basis.are_determined.Given as goal

-- the basis stands for the pages that are inserted
abbrev pub invariant-loop-page : goal.invariant-loop-page
invariant-loop-page l = (l.filled ≡ filled_rows l.basis) × Spans l.count l.pages l.page-index l.basis
