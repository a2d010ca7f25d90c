-- `mark_sends` marks the bit of each page that is kept.
use Rattle.flash.proofs.Kit.{◌≡◌, sym, ap, ◌∙◌, subst, ◌||◌, ℕ, ◌+◌, ◌*◌, ◌/◌, ◌<◌, arith, eqb, length}
use Rattle.split.specs.inner.Mask.{is_marked}
use Rattle.split.proofs.DropLaws.{is-kept, is-dropped}
use Rattle.orders.specs.inner.Table.{Sends}
use Rattle.orders.proofs.TableLaws.{none-sent, sent-dropped, sent-more, cell-is}
use Rattle.orders.proofs.CallLaws.{quotient-lt}
use Rattle.orders.proofs.table.mark_sends.Goals as goal
use Rattle.orders.proofs.table.mark_sends.Goals.{else-lent, then-lent}
use Rattle.orders.proofs.table.mark_sends.Lts as lts
use Rattle.orders.proofs.table.mark_sends.Reads as reads
use Rattle.orders.proofs.table.mark_sends.Tie as tie

pub new-divisor-requires : goal.new-divisor-requires
new-divisor-requires c = (c.requires.0.m-low, c.requires.0.m-high)

pub loop-k-init : goal.loop-k-init
loop-k-init c = none-sent _ _ _ c.requires.1 (ap length c.requires.1)

-- the entry is that of a page of 7 blocks at most
below : (c : lts.After-from tie.the-claims reads.Pre reads.Post goal.the-invariant-loop-k goal.the-decreases-loop-k) →
    (c.from.result < 7 * c.args.m)
below c =
    omega (arith, c.from.ensures, c.requires.0.below c.loop-k.k c.loop-k-test.true (is-kept _ _ c.if-lent.true))

pub quotient-target-requires : goal.quotient-target-requires
quotient-target-requires c =
    let L = c.requires.0 in
    omega (arith, below c.before, L.m-high)

target-lt : (c : lts.After-quotient tie.the-claims reads.Pre reads.Post goal.the-invariant-loop-k goal.the-decreases-loop-k) →
    c.quotient-target.result < 7
target-lt c =
    omega (arith, rw c.new-divisor.ensures at c.quotient-target.ensures, quotient-lt c.args.m c.from.result 7 c.requires.0.m-low (below c.before))

pub quotient-source-requires : goal.quotient-source-requires
quotient-source-requires c =
    let L = c.requires.0 in
    omega (arith, c.loop-k-test.true, L.size, L.m-high)

source-lt : (c : lts.After-quotient2 tie.the-claims reads.Pre reads.Post goal.the-invariant-loop-k goal.the-decreases-loop-k) →
    c.quotient-source.result < 7
source-lt c =
    omega (
      arith,
      rw c.new-divisor.ensures at c.quotient-source.ensures,
      quotient-lt c.args.m c.loop-k.k 7 c.requires.0.m-low
          (omega (arith, c.loop-k-test.true, c.requires.0.size)),
    )

pub mark-requires : goal.mark-requires
mark-requires c =
    (c.loop-k.invariant.size, omega (arith, source-lt c.before.before, target-lt c.before.before.before))

pub loop-k-preserved : goal.loop-k-preserved
loop-k-preserved c =
    let l = c.loop-k in
    let a = c.args in
    elim c.if-lent.branch [
      | then-lent w ↦ let q = w.quotient-target.result in
          let r = w.quotient-source.result in
          let to = (rw c.new-divisor.ensures at w.quotient-target.ensures) ∙ ap (λ (x : ℕ). x / a.m) w.from.ensures in
          let bit = cell-is a.m a.list.now l.k q r to (rw c.new-divisor.ensures at w.quotient-source.ensures) in
          subst (Sends a.m a.list.now (l.k + 1)) (sym w.table-is) (sent-more _ _ _ _ l.invariant w.mark.new.masks (is-kept _ _ w.if-lent.true)
          (omega (arith, w.mark.auto.masks, l.invariant.size)) (λ x. w.mark.ensures x ∙ ap (λ (b : ℕ). is_marked l.table x || eqb x b) bit))
      | else-lent w ↦
          subst (Sends a.m a.list.now (l.k + 1)) (sym w.table-is)
          (sent-dropped _ _ _ _ l.invariant (is-dropped _ _ w.if-lent.false))
    ]

pub returns : goal.returns
returns c =
    let l = c.loop-k in
    let a = c.args in
    let e : l.k ≡ length a.list.now = omega arith in
    subst (λ k. Sends a.m a.list.now k l.table) e l.invariant

pub overflow_add-target : goal.overflow_add-target
overflow_add-target c = omega (arith, target-lt c.before)

pub overflow_add-source : goal.overflow_add-source
overflow_add-source c = omega (arith, source-lt c.before)

pub overflow_mul-target : goal.overflow_mul-target
overflow_mul-target c = omega (arith, target-lt c.before.before.before)

pub overflow_add-target-then-lent : goal.overflow_add-target-then-lent
overflow_add-target-then-lent c = omega (arith, source-lt c.before.before, target-lt c.before.before.before)
