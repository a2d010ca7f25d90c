-- `are_sizes` multiplies only sizes in their ranges.
use Rattle.flash.proofs.Kit.{arith}
use Rattle.std.proofs.lemmas.Grind.{common_steps}
use Rattle.checker.specs.Answer.{are_sizes}
use Rattle.checker.proofs.check.are_sizes.Goals as goal

pub returns-then-contains-2 : goal.returns-then-contains-2
unfolding are_sizes
returns-then-contains-2 c = grind (arith, common_steps)

pub returns-else-contains-2 : goal.returns-else-contains-2
unfolding are_sizes
returns-else-contains-2 c = grind (arith, common_steps)
