-- `moment` meets its contract: it asks in the order of the definition.
use Rattle.flash.proofs.Kit.{eq-eqb, ne_eqb}
use Rattle.recovery.specs.inner.Gathered.{moment_of}
use Rattle.recovery.proofs.marks.moment.Goals as goal

pub returns-then-change-n : goal.returns-then-change-n
unfolding moment_of
returns-then-change-n c = simp (eq-eqb _ _ c.if-unfinished-eq0.true, c.if-change-n.true)

pub returns-then-unfinished-eq0 : goal.returns-then-unfinished-eq0
unfolding moment_of
returns-then-unfinished-eq0 c = simp (eq-eqb _ _ c.if-unfinished-eq0.true, c.if-change-n.false)

pub returns-then-unfinished-block : goal.returns-then-unfinished-block
unfolding moment_of
returns-then-unfinished-block c = simp (ne_eqb _ _ c.if-unfinished-eq0.false, c.if-unfinished-block.true)

pub returns : goal.returns
unfolding moment_of
returns c = simp (ne_eqb _ _ c.if-unfinished-eq0.false, c.if-unfinished-block.false)
