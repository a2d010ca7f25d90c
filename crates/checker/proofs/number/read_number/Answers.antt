-- `read_number` reads digits up to the first byte that is none.
use Rattle.flash.proofs.Kit.{◌≡◌, sym, ◌∙◌, [], arith, drop}
use Rattle.listing.proofs.NumberLaws.{digit_low, digit-high}
use Rattle.checker.specs.Lines.{leading}
use Rattle.checker.proofs.TextLaws.{length-tail, tail_at, reading-starts, reading-more, reading-ends, leading-other, leading-past, number-good, number-bad}
use Rattle.checker.proofs.number.read_number.Goals as goal
use Rattle.checker.proofs.number.read_number.Goals.{else-loop-byte-test, then-loop-byte-test+then-not-is_digit}
use Rattle.checker.proofs.number.read_number.Lts as lts
use Rattle.checker.proofs.number.read_number.Reads as reads
use Rattle.checker.proofs.number.read_number.Tie as tie

pub loop-byte-init : goal.loop-byte-init
loop-byte-init c = (omega arith, reading-starts _ _ (omega arith))

pub more-value-requires : goal.more-value-requires
more-value-requires c =
    let digit = sym c.is_digit.ensures ∙ c.if-not-is_digit.false in
    (digit_low _ digit, digit-high _ digit)

pub overflow_add-next : goal.overflow_add-next
overflow_add-next c = omega (arith, length-tail c.args.text.now c.args.at)

pub loop-byte-preserved : goal.loop-byte-preserved
loop-byte-preserved c =
    let l = c.loop-byte in
    let a = c.args in
    let here = tail_at a.text.now a.at l.byte-index l.next l.invariant.0 in (
      omega arith,
      reading-more _ _ l.next _ _ (omega (arith, length-tail a.text.now a.at)) (rw here at (sym c.is_digit.ensures ∙ c.if-not-is_digit.false))
          (rw here at c.more-value.ensures) l.invariant.1,
    )

pub overflow_sub-next : goal.overflow_sub-next
overflow_sub-next c = c.loop-byte.invariant.1.low

-- the loop was left at the end of the text, or at a byte that is no digit
done : (c : lts.Left-loop tie.the-claims reads.Pre reads.Post goal.the-invariant-loop-byte goal.the-decreases-loop-byte)
    → leading (drop c.loop-byte.next c.args.text.now) ≡ []
done c =
    let l = c.loop-byte in
    let a = c.args in
    let tail = length-tail a.text.now a.at in
    elim c.loop-byte-test.branch [
      | else-loop-byte-test w ↦ leading-past a.text.now l.next (omega (arith, w.loop-byte-test.false))
      | then-loop-byte-test+then-not-is_digit w ↦
          leading-other a.text.now l.next (omega (arith, w.loop-byte-test.true))
          (rw (tail_at a.text.now a.at l.byte-index l.next l.invariant.0) at (sym w.is_digit.ensures ∙ w.if-not-is_digit.true))
    ]

pub is_number-requires : goal.is_number-requires
is_number-requires c =
    let l = c.loop-byte in
    let e = reading-ends _ _ _ _ (done c.before) l.invariant.1 in
    (omega (arith, l.invariant.1.low, l.invariant.1.high), omega (arith, e.1))

pub returns-then-is_number : goal.returns-then-is_number
returns-then-is_number c =
    let e = reading-ends _ _ _ _ (done c.before.before.before) c.loop-byte.invariant.1 in
    number-good c.args.text.now c.args.at _ _ (sym c.is_number.ensures ∙ c.if-is_number.true) e.0 e.1

pub returns-else-is_number : goal.returns-else-is_number
returns-else-is_number c = number-bad c.args.text.now c.args.at (sym c.is_number.ensures ∙ c.if-is_number.false)
