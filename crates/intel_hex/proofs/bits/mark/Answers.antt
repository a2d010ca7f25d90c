-- `mark` sets bits, and stops at one that was set.
use Rattle.flash.proofs.Kit.{arith, sym, ◌∙◌}
use Rattle.intel_hex.proofs.BitLaws.{marking-none, marking-more, mark-found, mark-done}
use Rattle.intel_hex.proofs.bits.mark.Goals as goal

pub loop-i-init : goal.loop-i-init
loop-i-init c = marking-none c.args.words.now c.args.from

pub returns-then-is_set : goal.returns-then-is_set
returns-then-is_set c =
    let l = c.loop-i in
    let a = c.args in
    mark-found a.words.now a.from l.i l.words l.invariant (omega arith) a.count l.words (omega arith) (sym c.is_set.ensures ∙ c.if-is_set.true)

pub loop-i-preserved : goal.loop-i-preserved
loop-i-preserved c =
    let l = c.loop-i in
    let a = c.args in
    marking-more a.words.now a.from l.i l.words l.invariant (omega arith) _ (sym c.is_set.ensures ∙ c.if-is_set.false) c.set.ensures

pub returns : goal.returns
returns c =
    let l = c.loop-i in
    let a = c.args in
    mark-done a.words.now a.from l.i l.words l.invariant (omega arith) a.count (omega arith)
