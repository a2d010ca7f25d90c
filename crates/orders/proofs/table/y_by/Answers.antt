-- `y_by` looks for the highest place that is sent to, from the last on.
use Rattle.flash.proofs.Kit.{◌≡◌, sym, ap, ◌∙◌, ◌+◌, ◌-◌, arith, length}
use Rattle.orders.specs.inner.Table.{is_sent_from, is_sent, y_by}
use Rattle.orders.proofs.TableLaws.{down-hit, down-miss, down-none}
use Rattle.orders.proofs.table.y_by.Goals as goal
use Rattle.orders.proofs.table.y_by.Lts as lts
use Rattle.orders.proofs.table.y_by.Reads as reads
use Rattle.orders.proofs.table.y_by.Tie as tie

pub loop-i-init : goal.loop-i-init
unfolding y_by
loop-i-init c =
    let last : length c.args.order.now - 1 - 1 ≡ length c.args.order.now - 2 = omega arith in
    rw last

-- what `is_sent_from` answers
told : (c : lts.After-is_sent_from tie.the-claims reads.Pre reads.Post goal.the-invariant-loop-i goal.the-decreases-loop-i) → (let a = c.args in
    is_sent a.table.now a.order.now (c.loop-i.i - 1) ≡ c.is_sent_from.result)
unfolding is_sent
told c =
    let a = c.args in
    ap (is_sent_from a.table.now a.order.now (c.loop-i.i - 1 + 1)) (sym c.from.ensures) ∙ sym c.is_sent_from.ensures

pub returns-then-is_sent_from : goal.returns-then-is_sent_from
returns-then-is_sent_from c =
    let l = c.loop-i in
    sym (l.invariant ∙ down-hit _ (l.i - 1) (omega (arith, c.loop-i-test.true)) (told c.before.before ∙ c.if-is_sent_from.true))

pub loop-i-preserved : goal.loop-i-preserved
loop-i-preserved c =
    let l = c.loop-i in
    l.invariant ∙ down-miss _ (l.i - 1) (omega (arith, c.loop-i-test.true)) (told c.before.before ∙ c.if-is_sent_from.false)

pub returns : goal.returns
returns c = let l = c.loop-i in down-none _ (l.i - 1) (omega (arith, c.loop-i-test.false)) ∙ sym l.invariant
