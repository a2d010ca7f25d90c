-- `complete_list` completes a list: one that drops no page is complete.
use Rattle.flash.proofs.Kit.{sym, ◌∙◌}
use Rattle.split.proofs.DropLaws.{undropped-completed}
use Rattle.split.proofs.drops.complete_list.Goals as goal

pub returns-else-has_drop : goal.returns-else-has_drop
returns-else-has_drop c = sym (undropped-completed _ (sym c.has_drop.ensures ∙ c.if-has_drop.false))
