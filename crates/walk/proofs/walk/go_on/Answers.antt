-- Going on gathers the slots of `on_by`.
use Rattle.flash.proofs.Kit.{◌≡◌, refl, ◌+◌, ◌-◌, arith, eq-eqb, ne_eqb, le-leb, lt-leb}
use Rattle.split.proofs.SplitLaws.{block-range}
use Rattle.method.proofs.basics.Indexes.{slot_lt}
use Rattle.walk.specs.inner.Slots.{walk_by}
use Rattle.walk.proofs.GatherLaws.{gather-more, gather-all, gather-end}
use Rattle.walk.proofs.RowLaws.{walk_turn}
use Rattle.walk.proofs.walk.go_on.Goals as goal

pub returns-then-done-v : goal.returns-then-done-v
returns-then-done-v c =
    let l = c.loop-count in
    let divided = rw c.requires.pages_in.4 at c.quotient-v.ensures in
    let G = gather-more l.invariant.2 (walk_turn _ _ _ _ (c.args.sizes.n - l.count) l.v (omega arith)) (omega arith) in
    gather-end (gather-more G (rw (← c.from.ensures, ← c.from-to.ensures, ← divided, le-leb _ _ c.if-done-v.true)) (omega arith)) (omega arith) refl (omega arith)

pub returns-then-v-stop : goal.returns-then-v-stop
returns-then-v-stop c =
    let l = c.loop-count in
    let divided = rw c.requires.pages_in.4 at c.quotient-v.ensures in
    let G = gather-more l.invariant.2 (walk_turn _ _ _ _ (c.args.sizes.n - l.count) l.v (omega arith)) (omega arith) in
    gather-all G (rw (← c.from.ensures, ← c.from-to.ensures, ← divided, lt-leb _ _ c.if-done-v.false, eq-eqb _ _ c.if-v-stop.true)) (omega arith)

pub loop-count-preserved : goal.loop-count-preserved
loop-count-preserved c =
    let l = c.loop-count in
    let divided = rw c.requires.pages_in.4 at c.quotient-v.ensures in
    let z = c.args.sizes in
    let to = c.from-to.ensures in
    let original = slot_lt z.m (l.v - 1) c.from.result z.n (omega arith) (rw c.from.ensures (c.requires.pages_in.0.page-lt l.v (omega arith) (omega arith))) in
    let block = block-range z.n z.m c.from-to.result (rw to (c.requires.pages_in.1.entry_lt _ original)) in
    let left : z.n - (l.count + 1) ≡ z.n - l.count - 1 = omega arith in
    let G = gather-more l.invariant.2 (walk_turn _ _ _ _ (z.n - l.count) l.v (omega arith)) (omega arith) in
    (omega arith, omega (arith, divided, block.1), rw left (rw (← c.from.ensures, ← to, ← divided, lt-leb _ _ c.if-done-v.false, ne_eqb _ _ c.if-v-stop.false) at G))

pub returns : goal.returns
unfolding walk_by
returns c =
    let l = c.loop-count in
    let none : c.args.sizes.n - l.count ≡ 0 = omega arith in
    gather-end (rw none at l.invariant.2) (omega arith) refl (omega arith)
