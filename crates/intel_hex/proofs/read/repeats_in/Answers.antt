-- `repeats_in` looks for repeated bytes in one span.
use Rattle.flash.proofs.Kit.{refl, arith}
use Rattle.flash.proofs.Bools.{never_both}
use Rattle.intel_hex.proofs.LookLaws.{looking-start, looking-stop, looking-good, looking-goes, looking-hit, looking-on}
use Rattle.intel_hex.proofs.read.repeats_in.Goals as goal

pub loop-at-init : goal.loop-at-init
loop-at-init c = looking-start _ _ _ c.requires

pub half_at-half-requires : goal.half_at-half-requires
half_at-half-requires c = looking-good c.loop-at.invariant c.loop-at-test.true

pub offset_at-offset-requires : goal.offset_at-offset-requires
offset_at-offset-requires c = (looking-good c.loop-at.invariant c.loop-at-test.true, c.loop-at.invariant.low)

pub count_at-requires : goal.count_at-requires
count_at-requires c = looking-good c.loop-at.invariant c.loop-at-test.true

pub look-requires : goal.look-requires
look-requires c =
    let G = looking-goes c.loop-at.invariant c.loop-at-test.true in
    let h = c.half_at-half.ensures in
    let p = c.offset_at-offset.ensures in
    let n = c.count_at.ensures in
    record {
      half_low = omega (arith, G.half-low);
      fact = ((λ q. omega (arith, G.span-start (omega arith))), (λ q. omega (arith, G.span-end (omega arith))));
    }

pub returns-then-look : goal.returns-then-look
returns-then-look c =
    let K = rw (c.half_at-half.ensures, c.offset_at-offset.ensures, c.count_at.ensures) at c.look.ensures in
    record { repeated = λ _. looking-hit c.loop-at.invariant c.loop-at-test.true K c.if-look.true; none = λ e. absurd (never_both refl e) }

pub next_at-at-requires : goal.next_at-at-requires
next_at-at-requires c = looking-good c.loop-at.invariant c.loop-at-test.true

pub loop-at-smaller : goal.loop-at-smaller
loop-at-smaller c =
    let G = looking-goes c.loop-at.invariant c.loop-at-test.true in
    omega (arith, G.inside, G.ends, c.next_at-at.ensures)

pub loop-at-preserved : goal.loop-at-preserved
loop-at-preserved c =
    let l = c.loop-at in
    let K = rw (c.half_at-half.ensures, c.offset_at-offset.ensures, c.count_at.ensures) at c.look.ensures in
    rw (c.next_at-at.ensures, c.half_at-half.ensures) (looking-on l.invariant c.loop-at-test.true K c.if-look.false)

pub returns : goal.returns
returns c =
    record { repeated = λ e. absurd (never_both e refl); none = λ _. looking-stop c.loop-at.invariant (omega (arith, c.loop-at-test.false)) }
