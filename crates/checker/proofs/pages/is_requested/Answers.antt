-- `is_requested` asks for both halves.
use Rattle.flash.proofs.Kit.{sym, ◌∙◌}
use Rattle.checker.specs.Pages.{is_requested}
use Rattle.checker.proofs.pages.is_requested.Goals as goal

pub returns-then-are_placed : goal.returns-then-are_placed
unfolding is_requested
returns-then-are_placed c = rw (sym c.are_placed.ensures ∙ c.if-are_placed.true) c.is_spare_blank.ensures

pub returns-else-are_placed : goal.returns-else-are_placed
unfolding is_requested
returns-else-are_placed c = rw (sym c.are_placed.ensures ∙ c.if-are_placed.false) c.if-are_placed.false
