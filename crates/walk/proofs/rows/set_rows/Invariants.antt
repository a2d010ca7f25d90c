-- The rows of one set are filled block by block.
use Rattle.flash.proofs.Kit.{◌≡◌, ◌+◌}
use Rattle.method.specs.inner.MoveIn.{move_in}
use Rattle.walk.specs.inner.Rows.{filled_by}
use Rattle.walk.proofs.TableLaws.{page_from, goes_to}
use Rattle.walk.proofs.rows.set_rows.Given as goal

abbrev pub invariant-loop-block : goal.invariant-loop-block
invariant-loop-block l =
    (l.pages ≡ filled_by (λ b. b) (page_from (move_in l.moved) l.set) l.block l.initial.pages)
    × (l.sources ≡ filled_by (goes_to (move_in l.moved) l.set) (λ b. b + 1) l.block l.initial.sources)
