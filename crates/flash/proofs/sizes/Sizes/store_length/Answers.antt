-- `store_length` meets its contract.
use Rattle.flash.proofs.Kit.{ap, ℕ, ◌+◌, ◌*◌, ◌≤◌, arith}
use Rattle.flash.proofs.Bounds.{product_le}
use Rattle.flash.proofs.sizes.Sizes.store_length.Goals as goal

pub overflow_mul-result : goal.overflow_mul-result
overflow_mul-result c =
    let a = c.args in
    let slots : c.slot_count.result ≤ 65 * 64 = omega (arith, product_le (a.self.n + 1) a.self.m {c = 65} {d = 64} (omega arith) (omega arith)) in
    omega (arith, product_le c.slot_count.result a.self.p {c = 65 * 64} {d = 4096} slots (omega arith))

pub returns : goal.returns
returns c = ap (λ (slots : ℕ). slots * c.args.self.p) c.slot_count.ensures
