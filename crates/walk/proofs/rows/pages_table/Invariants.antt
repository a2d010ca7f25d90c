-- The table of pages is filled original by original.
use Rattle.flash.proofs.Kit.{◌≡◌, ◌+◌, ◌*◌}
use Rattle.walk.specs.inner.Rows.{pages_by}
use Rattle.walk.proofs.rows.pages_table.Given as goal

abbrev pub invariant-loop-block : goal.invariant-loop-block
invariant-loop-block l = l.pages ≡ pages_by l.m l.moved.sets.now (l.block * l.m) l.initial.pages

abbrev pub invariant-loop-page : goal.invariant-loop-page
invariant-loop-page l = l.pages ≡ pages_by l.m l.moved.sets.now (l.block * l.m + l.page) l.fn.pages
