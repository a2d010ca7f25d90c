-- `put_all` puts every byte where it goes.
use Rattle.flash.proofs.Kit.{ap, ◌∙◌, arith, length, length-replicate}
use Rattle.intel_hex.proofs.HeadLaws.{data-digits, count-size}
use Rattle.intel_hex.proofs.PlacingLaws.{placing-start, placing-stop, placing-step, placing-on}
use Rattle.intel_hex.proofs.put.put_all.Goals as goal

pub loop-at-init : goal.loop-at-init
loop-at-init c =
    let e = c.fill.ensures.after (λ y e. e) in
    let n = c.requires.number_value.1 in
    (rw (e, n) (placing-start _ _ c.requires.walk), ap length e ∙ length-replicate (length c.args.image.now) 255 ∙ n)

pub count_at-count-requires : goal.count_at-count-requires
count_at-count-requires c = (placing-step c.loop-at.invariant.0 c.loop-at-test.true).good

pub offset_at-offset-requires : goal.offset_at-offset-requires
offset_at-offset-requires c = ((placing-step c.loop-at.invariant.0 c.loop-at-test.true).good, c.loop-at.invariant.0.low)

pub half_at-half-requires : goal.half_at-half-requires
half_at-half-requires c = (placing-step c.loop-at.invariant.0 c.loop-at-test.true).good

pub next_at-next-requires : goal.next_at-next-requires
next_at-next-requires c = (placing-step c.loop-at.invariant.0 c.loop-at-test.true).good

pub put-requires : goal.put-requires
put-requires c =
    let l = c.loop-at in
    let text = c.args.text.now.codes.now in
    let S = placing-step l.invariant.0 c.loop-at-test.true in
    let n = c.count_at-count.ensures in
    let p = c.offset_at-offset.ensures in
    let z = count-size text l.at in
    (omega (arith, S.good.inside), data-digits text l.at S.good _ (omega arith), omega (arith, S.goes.fits, l.invariant.1))

pub loop-at-preserved : goal.loop-at-preserved
loop-at-preserved c =
    let l = c.loop-at in
    let e = rw (c.offset_at-offset.ensures, c.count_at-count.ensures) at c.put.ensures in
    (rw (e, c.next_at-next.ensures, c.half_at-half.ensures) (placing-on l.invariant.0 c.loop-at-test.true), omega (arith, l.invariant.1))

pub returns : goal.returns
returns c = placing-stop c.loop-at.invariant.0 (omega (arith, c.loop-at-test.false)) c.requires.number_value.0
