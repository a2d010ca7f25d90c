-- `field` reads a number behind a space.
use Rattle.flash.proofs.Kit.{sym, ◌∙◌}
use Rattle.checker.specs.inner.Told.{field_at}
use Rattle.checker.proofs.number.field.Goals as goal

pub returns-then-is_at : goal.returns-then-is_at
unfolding field_at
returns-then-is_at c = rw (sym c.is_at.ensures ∙ c.if-is_at.true) c.read_number.ensures

pub returns-else-is_at : goal.returns-else-is_at
unfolding field_at
returns-else-is_at c = rw (sym c.is_at.ensures ∙ c.if-is_at.false)
