-- `count_written` meets its contract: the count is that of the parts passed.
use Rattle.flash.proofs.Kit.{refl, ◌∙◌, ◌+◌, arith, length, take, take-length, length-take-le}
use Rattle.flash.specs.Lists.{count}
use Rattle.flash.specs.PageSum.{written_bytes}
use Rattle.flash.proofs.Written.{written-part, written-most}
use Rattle.flash.proofs.bytes.count_written.Goals as goal

pub loop-i-init : goal.loop-i-init
unfolding written_bytes count
loop-i-init c = (omega arith, refl, omega arith)

pub loop-i-preserved : goal.loop-i-preserved
loop-i-preserved c =
    let a = c.args in
    let l = c.loop-i in
    let here = c.from-count.ensures ∙ c.count_few.ensures in
    let more = written-part a.page.now l.i (l.i + 128) (omega arith) in
    let next = rw (← l.invariant.1, ← here) at more in
    (omega arith, next, omega (arith, next, written-most (take (l.i + 128) a.page.now), length-take-le (l.i + 128) a.page.now (omega arith)))

pub returns : goal.returns
returns c =
    let a = c.args in
    let l = c.loop-i in
    let here = c.from.ensures ∙ c.count_few-2.ensures in
    rw (l.invariant.1, here) (written-part a.page.now l.i (length a.page.now) (omega arith) ∙ rw take-length)
