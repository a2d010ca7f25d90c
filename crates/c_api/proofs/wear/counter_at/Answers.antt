-- `counter_at` adds up four bytes.
use Rattle.flash.proofs.Kit.{arith}
use Rattle.c_api.specs.Wear.{spelled, spelled_at}
use Rattle.c_api.proofs.wear.counter_at.Goals as goal

pub returns : goal.returns
unfolding spelled_at spelled
returns c = omega (arith, c.from_le_bytes.ensures)
