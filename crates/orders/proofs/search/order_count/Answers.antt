-- `order_count` multiplies the numbers up to n.
use Rattle.flash.proofs.Kit.{◌≡◌, refl, ap, ◌∙◌, ℕ, ◌+◌, ◌*◌, arith}
use Rattle.orders.specs.Dictionary.{factorial}
use Rattle.orders.proofs.DictionaryLaws.{factorial-next, factorial-small}
use Rattle.orders.proofs.search.order_count.Goals as goal

pub loop-i-init : goal.loop-i-init
unfolding factorial
loop-i-init c = refl

next : (i count : ℕ) → count ≡ factorial i → (i + 1) * count ≡ factorial (i + 1)
next i count e = ap (λ (x : ℕ). (i + 1) * x) e ∙ factorial-next i

pub overflow_mul-count : goal.overflow_mul-count
overflow_mul-count c = let l = c.loop-i in omega (arith, next l.i l.count l.invariant, factorial-small (l.i + 1) (omega (arith, c.requires)))

pub loop-i-preserved : goal.loop-i-preserved
loop-i-preserved c = let l = c.loop-i in next l.i l.count l.invariant
