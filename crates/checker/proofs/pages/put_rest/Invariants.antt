-- `put_rest` writes each slot as it is at rest.
use Rattle.flash.proofs.Kit.{◌≡◌, ◌++◌, take, drop}
use Rattle.checker.specs.Pages.{resting_pages}
use Rattle.checker.proofs.pages.put_rest.Given as goal

abbrev pub invariant-loop-t : goal.invariant-loop-t
invariant-loop-t l = l.pages ≡ take l.t (resting_pages l.n l.m) ++ drop l.t l.initial.pages
