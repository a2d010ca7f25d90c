-- `numbers_due` is the number of entries and bytes that follow the sizes.
use Rattle.flash.proofs.Kit.{arith, refl, ℕ, ◌*◌, ◌≤◌, mul-le-mul}
use Rattle.listing.proofs.input.numbers_due.Goals as goal

product : (count p : ℕ) → count ≤ 64 → p ≤ 64 → count * p ≤ 4096
product count p h k = mul-le-mul {n₁ = count} {m₁ = p} {n₂ = 64} {m₂ = 64} h k

pub overflow_mul-result : goal.overflow_mul-result
overflow_mul-result c = record { fits = omega (arith, product c.args.count c.args.p (omega arith) (omega arith)) }

pub overflow_add-result : goal.overflow_add-result
overflow_add-result c = record { fits = omega (arith, product c.args.count c.args.p (omega arith) (omega arith)) }

pub returns : goal.returns
returns c = (refl, omega (arith, product c.args.count c.args.p (omega arith) (omega arith)))
