-- `is_worn_out` looks at the counters at place 0 alone.
use Rattle.flash.proofs.Kit.{◌∙◌, ne_eqb, eq-eqb}
use Rattle.method.specs.Worn.{is_worn_out}
use Rattle.mover.proofs.wear.is_worn_out.Goals as goal

pub returns-then-place-ne0 : goal.returns-then-place-ne0
unfolding is_worn_out
returns-then-place-ne0 c = rw (ne_eqb c.args.place 0 c.if-place-ne0.true)

pub returns : goal.returns
unfolding is_worn_out
returns c = c.wears_out.ensures ∙ rw (eq-eqb c.args.place 0 c.if-place-ne0.false)
