-- `look` marks the bytes of a record that lies in the span looked at.
use Rattle.flash.proofs.Kit.{arith}
use Rattle.intel_hex.proofs.GivenLaws.{look-elsewhere, look_none, look-here}
use Rattle.intel_hex.proofs.bits.look.Goals as goal

pub returns-then-half-w : goal.returns-then-half-w
returns-then-half-w c =
    let a = c.args in
    look-elsewhere a.words.now a.w a.half a.offset a.count c.requires.fact.0 c.requires.fact.1 c.if-half-w.true

pub returns-then-count-eq0 : goal.returns-then-count-eq0
returns-then-count-eq0 c =
    let a = c.args in
    look_none a.words.now a.w a.half a.offset a.count c.requires.fact.0 c.requires.fact.1 c.if-count-eq0.true

pub returns : goal.returns
returns c =
    let a = c.args in
    look-here a.words.now a.w a.half a.offset a.count c.requires.fact.0 c.requires.fact.1 _ _ c.if-half-w.false (omega (arith, c.if-count-eq0.false))
    c.mark.ensures
