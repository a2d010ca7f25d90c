-- `is_end` looks at three bytes.
use Rattle.flash.proofs.Kit.{arith}
use Rattle.std.proofs.lemmas.Grind.{common_steps}
use Rattle.checker.proofs.TextLaws.{end-at}
use Rattle.checker.proofs.line.is_end.Goals as goal

pub returns-then-is_at-2 : goal.returns-then-is_at-2
returns-then-is_at-2 c = let a = c.args in rw (end-at a.text.now a.at) (grind (arith, common_steps))

pub returns-else-is_at-2 : goal.returns-else-is_at-2
returns-else-is_at-2 c = let a = c.args in rw (end-at a.text.now a.at) (grind (arith, common_steps))
