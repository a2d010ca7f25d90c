-- `is_sent_from` looks at one block after the other.
use Rattle.flash.proofs.Kit.{◌≡◌, sym, ap, ◌∙◌, false, ℕ, ◌+◌, ◌*◌, ◌-◌, ◌≤◌, ◌<◌, arith, length, get_or, below_more}
use Rattle.flash.proofs.Ranges.{any-is, none_is}
use Rattle.split.specs.inner.Mask.{is_marked}
use Rattle.orders.specs.inner.Table.{is_sent_from}
use Rattle.orders.proofs.TableLaws.{length-tail, tail_at}
use Rattle.orders.proofs.table.is_sent_from.Invariants.{test}
use Rattle.orders.proofs.table.is_sent_from.Goals as goal
use Rattle.orders.proofs.table.is_sent_from.Lts as lts
use Rattle.orders.proofs.table.is_sent_from.Reads as reads
use Rattle.orders.proofs.table.is_sent_from.Tie as tie

-- the block that is read is one of the order, and below 64
here : (c : lts.After-from tie.the-claims reads.Pre reads.Post goal.the-invariant-loop-block goal.the-decreases-loop-block) → (let a = c.args in
    let i = c.loop-block.block-index in
    (a.from + i < length a.order.now) × (c.from.result ≡ get_or a.order.now (a.from + i) 0) × (c.from.result < 64) × (a.target < 64))
here c =
    let a = c.args in
    let i = c.loop-block.block-index in
    let l : a.from + i < length a.order.now = omega (arith, c.loop-block-test.true, length-tail a.order.now a.from) in
    let is = c.from.ensures ∙ tail_at a.order.now a.from i in
    (l, is, omega (arith, is, c.requires.1.small (a.from + i) l), c.requires.3)

-- what `is_marked` answers
told : (c : lts.After-is_marked tie.the-claims reads.Pre reads.Post goal.the-invariant-loop-block goal.the-decreases-loop-block) → (let a = c.args in
    test a.table.now a.order.now a.target (a.from + c.loop-block.block-index) ≡ c.is_marked.result)
told c =
    let a = c.args in
    ap (λ (b : ℕ). is_marked a.table.now (a.target * 64 + b)) (sym (here c.before).1) ∙ sym c.is_marked.ensures

pub returns-then-is_marked : goal.returns-then-is_marked
unfolding is_sent_from
returns-then-is_marked c =
    let l = c.loop-block in
    let a = c.args in
    sym (any-is (test a.table.now a.order.now a.target) a.from (length a.order.now - a.from) (a.from + l.block-index) (omega arith)
    (omega (arith, c.loop-block-test.true, length-tail a.order.now a.from)) (told c.before.before ∙ c.if-is_marked.true))

pub loop-block-preserved : goal.loop-block-preserved
loop-block-preserved c =
    let l = c.loop-block in
    let a = c.args in
    λ x h. below_more (λ y. a.from ≤ y → test a.table.now a.order.now a.target y ≡ false) (a.from + l.block-index) l.invariant
    (λ h. told c.before.before ∙ c.if-is_marked.false) x (omega arith)

pub returns : goal.returns
unfolding is_sent_from
returns c =
    let l = c.loop-block in
    let a = c.args in
    sym (none_is (test a.table.now a.order.now a.target) a.from (length a.order.now - a.from)
    (λ x low high. l.invariant x (omega (arith, c.loop-block-test.false, length-tail a.order.now a.from)) low))
