-- Going back gathers the slots of `back_by`.
use Rattle.flash.proofs.Kit.{◌≡◌, refl, ◌+◌, ◌-◌, arith, eq-eqb, ne_eqb, le-leb, lt-leb}
use Rattle.walk.specs.inner.Slots.{walk_by}
use Rattle.walk.proofs.GatherLaws.{gather-more, gather-all, gather-end}
use Rattle.walk.proofs.RowLaws.{walk_turn}
use Rattle.walk.proofs.walk.go_back.Goals as goal

pub returns-then-v-stop : goal.returns-then-v-stop
returns-then-v-stop c =
    let l = c.loop-count in
    let G = gather-more l.invariant.2 (walk_turn _ _ _ _ (c.args.sizes.n - l.count) l.v (omega arith)) (omega arith) in
    gather-all G (rw (eq-eqb _ _ c.if-v-stop.true)) (omega arith)

pub returns-then-plain-v : goal.returns-then-plain-v
returns-then-plain-v c =
    let l = c.loop-count in
    let w = c.from-v in
    let G = gather-more l.invariant.2 (walk_turn _ _ _ _ (c.args.sizes.n - l.count) l.v (omega arith)) (omega arith) in
    gather-end (gather-more G (rw (ne_eqb _ _ c.if-v-stop.false, ← w.ensures, le-leb _ _ c.if-plain-v.true, c.from.ensures)) (omega arith)) (omega arith) refl (omega arith)

pub loop-count-preserved : goal.loop-count-preserved
loop-count-preserved c =
    let S = c.requires.pages_in.1 in
    let l = c.loop-count in
    let w = c.from-v in
    let left : c.args.sizes.n - (l.count + 1) ≡ c.args.sizes.n - l.count - 1 = omega arith in
    let G = gather-more l.invariant.2 (walk_turn _ _ _ _ (c.args.sizes.n - l.count) l.v (omega arith)) (omega arith) in
    (rw w.ensures (S.low l.v (omega arith) (omega arith)), rw w.ensures (S.high l.v (omega arith) (omega arith)), rw left (rw (ne_eqb _ _ c.if-v-stop.false, ← w.ensures, lt-leb _ _ c.if-plain-v.false) at G))

pub returns : goal.returns
unfolding walk_by
returns c =
    let l = c.loop-count in
    let none : c.args.sizes.n - l.count ≡ 0 = omega arith in
    gather-end (rw none at l.invariant.2) (omega arith) refl (omega arith)
