-- `read_marks` meets its contract: the search knows what it has met, and what that tells at its end.
use Rattle.flash.proofs.Kit.{◌≤◌}
use Rattle.recovery.proofs.Search.{Upto, Block}
use Rattle.recovery.proofs.marks.read_marks.Given as goal

abbrev pub invariant-loop-page : goal.invariant-loop-page
invariant-loop-page l =
    Block l.sizes l.marks l.block l.page l.letter l.initial.unfinished l.initial.torn l.unfinished l.torn l.whole

abbrev pub invariant-search : goal.invariant-search
invariant-search l =
    (l.torn ≤ l.n) × Upto l.sizes l.marks l.block l.unfinished l.torn l.upper l.change
