-- The tables of all sets are filled, and every original is made with them.
use Rattle.flash.proofs.Kit.{refl, sym}
use Rattle.method.specs.inner.MoveIn.{move_in}
use Rattle.walk.specs.inner.Rows.{PagesTable, SourcesTable}
use Rattle.walk.proofs.TableLaws.{pages-tell, sources-tell}
use Rattle.mover.proofs.rebuild.rebuild_all.Goals as goal

pub rebuild_pages-requires : goal.rebuild_pages-requires
rebuild_pages-requires c =
    let moved = c.args.moved in
    let pages : PagesTable (move_in moved) c.pages_table.new.pages = rw (c.pages_table.ensures, moved.accepted.sets-length) (pages-tell (move_in moved) moved.accepted _ refl) in
    let sources : SourcesTable (move_in moved) c.sources_table.new.sources = rw (c.sources_table.ensures, moved.accepted.sets-length) (sources-tell (move_in moved) moved.accepted _ refl) in
    (c.requires.0, c.requires.1, c.requires.2, c.requires.3, pages, sources)

pub returns : goal.returns
returns c = c.rebuild_pages.ensures
