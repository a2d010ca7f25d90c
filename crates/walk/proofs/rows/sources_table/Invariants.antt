-- The table of sources is filled original by original.
use Rattle.flash.proofs.Kit.{◌≡◌, ◌+◌, ◌*◌}
use Rattle.walk.specs.inner.Rows.{sources_by}
use Rattle.walk.proofs.rows.sources_table.Given as goal

abbrev pub invariant-loop-block : goal.invariant-loop-block
invariant-loop-block l = l.sources ≡ sources_by l.m l.moved.list.now l.moved.sets.now (l.block * l.m) l.initial.sources

abbrev pub invariant-loop-page : goal.invariant-loop-page
invariant-loop-page l = l.sources ≡ sources_by l.m l.moved.list.now l.moved.sets.now (l.block * l.m + l.page) l.fn.sources
