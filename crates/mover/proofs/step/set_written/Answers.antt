-- `set_written` gives the page's number, or what the table has where the page goes.
use Rattle.flash.proofs.Kit.{refl, ◌-◌, arith}
use Rattle.flash.proofs.Bools.{never_both}
use Rattle.flash.proofs.Bounds.{product_le}
use Rattle.mover.proofs.step.set_written.Goals as goal

pub overflow_sub-block : goal.overflow_sub-block
overflow_sub-block c = (c.requires.3 c.if-backward.true).0

-- the product is small
pub overflow_mul-block : goal.overflow_mul-block
overflow_mul-block c = omega (arith, product_le (c.args.block - 1) c.args.m {c = 64} {d = 64} (omega (arith, c.requires.1)) c.requires.0)

pub overflow_add-block : goal.overflow_add-block
overflow_add-block c = omega (arith, product_le (c.args.block - 1) c.args.m {c = 64} {d = 64} (omega (arith, c.requires.1)) c.requires.0, c.requires.2)

pub bounds-table-block : goal.bounds-table-block
bounds-table-block c = (c.requires.3 c.if-backward.true).1

pub returns-then-backward : goal.returns-then-backward
returns-then-backward c = ((λ no. absurd (never_both c.if-backward.true no)), λ yes. c.from.ensures)

pub returns : goal.returns
returns c = ((λ no. refl), λ yes. absurd (never_both yes c.if-backward.false))
