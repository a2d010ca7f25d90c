-- `byte_sum` adds the first of four bytes, as many as are asked for.
use Rattle.flash.proofs.Kit.{lt-ltb, le-ltb}
use Rattle.flash.proofs.slots.byte_sum.Goals as goal

pub returns-then-terms-lt2 : goal.returns-then-terms-lt2
returns-then-terms-lt2 c = rw (lt-ltb _ _ c.if-terms-lt2.true)

pub returns-then-terms-lt3 : goal.returns-then-terms-lt3
returns-then-terms-lt3 c = rw (le-ltb _ _ c.if-terms-lt2.false, lt-ltb _ _ c.if-terms-lt3.true)

pub returns-then-terms-lt4 : goal.returns-then-terms-lt4
returns-then-terms-lt4 c = rw (le-ltb _ _ c.if-terms-lt2.false, le-ltb _ _ c.if-terms-lt3.false, lt-ltb _ _ c.if-terms-lt4.true)

pub returns : goal.returns
returns c = rw (le-ltb _ _ c.if-terms-lt2.false, le-ltb _ _ c.if-terms-lt3.false, le-ltb _ _ c.if-terms-lt4.false)
