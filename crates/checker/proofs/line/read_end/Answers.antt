-- `read_end` reads two fields and a line feed.
use Rattle.flash.proofs.Kit.{sym, ◌∙◌, arith}
use Rattle.checker.proofs.TextLaws.{stands-within}
use Rattle.checker.proofs.LineLaws.{taken, missed, end_none, end-one, end-unended, end-formed}
use Rattle.checker.proofs.line.read_end.Goals as goal

pub returns-in_err-writes-clause-result_value : goal.returns-in_err-writes-clause-result_value
returns-in_err-writes-clause-result_value c =
    let a = c.args in
    rw c.from_residual.ensures (end_none a.text.now a.at (missed a.text.now a.at c.in_err-writes.ensures))

pub field-requires-2 : goal.field-requires-2
field-requires-2 c = (taken _ _ _ c.in_ok-writes.ensures).within

pub returns-in_err-erases-clause-result_value : goal.returns-in_err-erases-clause-result_value
returns-in_err-erases-clause-result_value c =
    let a = c.args in
    rw c.from_residual-in_err-erases.ensures
    (end-one a.text.now a.at _ (taken _ _ _ c.in_ok-writes.ensures) (missed a.text.now _ c.in_err-erases.ensures))

pub returns-then-not-is_at-clause-result_value : goal.returns-then-not-is_at-clause-result_value
returns-then-not-is_at-clause-result_value c =
    let a = c.args in
    end-unended a.text.now a.at _ (taken _ _ _ c.in_ok-writes.ensures) _ (taken _ _ _ c.in_ok-erases.ensures)
    (sym c.is_at.ensures ∙ c.if-not-is_at.true)

pub returns-clause-result_value : goal.returns-clause-result_value
returns-clause-result_value c =
    let a = c.args in
    end-formed a.text.now a.at _ (taken _ _ _ c.in_ok-writes.ensures) _ (taken _ _ _ c.in_ok-erases.ensures)
    (sym c.is_at.ensures ∙ c.if-not-is_at.false)

pub returns-clause-ahead : goal.returns-clause-ahead
returns-clause-ahead c =
    let a = c.args in
    let one = taken a.text.now a.at _ c.in_ok-writes.ensures in
    let two = taken a.text.now _ _ c.in_ok-erases.ensures in
    let feed = sym c.is_at.ensures ∙ c.if-not-is_at.false in
    (omega (arith, one.ahead, two.ahead), omega (arith, stands-within a.text.now c.in_ok-erases.erases.next 10 (omega arith) feed))
