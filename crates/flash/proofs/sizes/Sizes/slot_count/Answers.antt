-- `slot_count` meets its contract.
use Rattle.flash.proofs.Kit.{arith, ◌+◌}
use Rattle.flash.proofs.Bounds.{product_le}
use Rattle.flash.proofs.sizes.Sizes.slot_count.Goals as goal

pub overflow_mul-result : goal.overflow_mul-result
overflow_mul-result c = omega (arith, product_le (c.args.self.n + 1) c.args.self.m {c = 65} {d = 64} (omega arith) (omega arith))
