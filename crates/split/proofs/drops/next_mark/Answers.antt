-- `next_mark` finds the first mark from `start` on.
use Rattle.flash.proofs.Kit.{◌≡◌, sym, ◌∙◌, false, ⊎_elim, ℕ, ◌+◌, ◌-◌, ◌*◌, ◌/◌, ◌^◌, ◌≤◌, ◌<◌, arith, get_or}
use Rattle.flash.proofs.Comparisons.{lt-cases}
use Rattle.flash.proofs.Ranges.{first-is, none_is}
use Rattle.flash.proofs.Searches.{first-none}
use Rattle.split.specs.inner.Mask.{is_marked}
use Rattle.split.proofs.MarkLaws.{skips, skipped-lt, skipped-marked}
use Rattle.split.proofs.drops.next_mark.Goals as goal
use Rattle.split.proofs.drops.next_mark.Lts as lts
use Rattle.split.proofs.drops.next_mark.Reads as reads
use Rattle.split.proofs.drops.next_mark.Tie as tie

-- the mask has 64 bits
wide : (c : lts.After-lowest_free tie.the-claims reads.Pre reads.Post goal.the-invariant-loop-at goal.the-decreases-loop-at) → get_or c.args.masks.now (c.loop-at.at / 64) 0 < 2 ^ 64
wide c = omega arith

-- no mark is among those that are passed over
passed : (c : lts.After-lowest_free tie.the-claims reads.Pre reads.Post goal.the-invariant-loop-at goal.the-decreases-loop-at) → ((j : ℕ) → c.args.start ≤ j → j < c.loop-at.at + c.lowest_free-skipped.result → j < (c.loop-at.at / 64 + 1) * 64
    → is_marked c.args.masks.now j ≡ false)
passed c j low h end =
    let at = c.loop-at.at in
    let masks = c.args.masks.now in
    ⊎_elim
    (λ (q : j < at). c.loop-at.invariant.2 j low q)
    (λ (q : at ≤ j).
    let e : j ≡ at + (j - at) = omega arith in
    rw e (skips masks at (wide c) (j - at) (omega (arith, c.lowest_free-skipped.ensures)) (omega arith)))
    (lt-cases j at)

pub returns-then-skipped-lt-BITS : goal.returns-then-skipped-lt-BITS
returns-then-skipped-lt-BITS c =
    let at = c.loop-at.at in
    let masks = c.args.masks.now in
    let e = c.lowest_free-skipped.ensures in
    let some = rw e at c.if-skipped-lt-BITS.true in
    let mask = wide c.before.before in
    let inside : at + c.lowest_free-skipped.result < (at / 64 + 1) * 64 = omega (arith, e, skipped-lt masks at mask some) in
    sym (first-is _ _ _ 4096 _ (record {
      low = omega (arith, c.loop-at.invariant.0);
      high = omega arith;
      passes = rw e (skipped-marked masks at mask some);
      before = λ j low h. passed c.before.before j low h (omega arith);
    }))

pub loop-at-preserved : goal.loop-at-preserved
loop-at-preserved c = (omega arith, omega arith, λ j low h. passed c.before.before j low (omega arith) h)

pub returns : goal.returns
returns c =
    let l = c.loop-at in
    let end : l.at ≡ 4096 = omega arith in
    end ∙ sym (first-none _ _ 4096 (none_is _ _ _ (λ j low h. l.invariant.2 j low (omega arith))))
