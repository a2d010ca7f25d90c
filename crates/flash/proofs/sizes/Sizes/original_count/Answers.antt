-- `original_count` meets its contract.
use Rattle.flash.proofs.Kit.{arith}
use Rattle.flash.proofs.Bounds.{product_le}
use Rattle.flash.proofs.sizes.Sizes.original_count.Goals as goal

pub overflow_mul-result : goal.overflow_mul-result
overflow_mul-result c = omega (arith, product_le c.args.self.n c.args.self.m {c = 64} {d = 64} (omega arith) (omega arith))
