-- `put_rest` writes each slot as it is at rest.
use Rattle.flash.proofs.Kit.{sym, ◌∙◌, arith}
use Rattle.flash.proofs.Loops.{front-more, front-all}
use Rattle.checker.specs.Pages.{resting_pages}
use Rattle.checker.proofs.PageLaws.{length-resting, resting-at}
use Rattle.checker.proofs.pages.put_rest.Goals as goal

pub loop-t-preserved : goal.loop-t-preserved
loop-t-preserved c =
    let l = c.loop-t in
    let a = c.args in
    let size = length-resting a.n a.m in
    let value = c.resting.ensures ∙ sym (resting-at a.n a.m l.t (omega arith)) in
    rw (l.invariant, value) (front-more (resting_pages a.n a.m) a.pages.now l.t (omega arith) (omega arith))

pub returns : goal.returns
returns c =
    let l = c.loop-t in
    let a = c.args in
    let size = length-resting a.n a.m in
    l.invariant ∙ front-all (resting_pages a.n a.m) a.pages.now l.t (omega arith) (omega arith)
