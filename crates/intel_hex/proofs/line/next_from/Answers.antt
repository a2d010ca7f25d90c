-- `next_from` gives the position behind a line's end.
use Rattle.flash.proofs.Kit.{arith, sym}
use Rattle.intel_hex.proofs.LineEnds.{next-plain, next-carried, next-other, next-unended, next-again}
use Rattle.intel_hex.proofs.line.next_from.Goals as goal

pub returns-then-text-stop-eq-LINE_FEED : goal.returns-then-text-stop-eq-LINE_FEED
returns-then-text-stop-eq-LINE_FEED c = (sym (next-plain _ _ c.if-text-stop-eq-LINE_FEED.true), omega arith)

pub returns-then-text-stop-ne-CARRIAGE_RETURN : goal.returns-then-text-stop-ne-CARRIAGE_RETURN
returns-then-text-stop-ne-CARRIAGE_RETURN c = next-other _ _ c.if-text-stop-eq-LINE_FEED.false c.if-text-stop-ne-CARRIAGE_RETURN.true

pub returns-then-last-text : goal.returns-then-last-text
returns-then-last-text c = next-unended _ _ c.if-text-stop-eq-LINE_FEED.false (omega arith)

pub returns-then-text-last-eq-LINE_FEED : goal.returns-then-text-last-eq-LINE_FEED
returns-then-text-last-eq-LINE_FEED c =
    (sym (next-carried _ _ c.if-text-stop-ne-CARRIAGE_RETURN.false c.if-text-last-eq-LINE_FEED.true), omega arith)

pub returns-else-text-last-eq-LINE_FEED : goal.returns-else-text-last-eq-LINE_FEED
returns-else-text-last-eq-LINE_FEED c = next-again _ _ c.if-text-stop-eq-LINE_FEED.false c.if-text-last-eq-LINE_FEED.false
