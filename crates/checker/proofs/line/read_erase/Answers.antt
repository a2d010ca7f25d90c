-- `read_erase` reads a field and a line feed.
use Rattle.flash.proofs.Kit.{sym, ◌∙◌, arith}
use Rattle.checker.proofs.TextLaws.{stands-within}
use Rattle.checker.proofs.LineLaws.{taken, missed, erase-none, erase-outside, erase-unended, erase-formed}
use Rattle.checker.proofs.line.read_erase.Goals as goal

pub returns-in_err-block-clause-result_value : goal.returns-in_err-block-clause-result_value
returns-in_err-block-clause-result_value c =
    let a = c.args in
    rw c.from_residual.ensures (erase-none a.n (omega arith) a.text.now a.at (missed a.text.now a.at c.in_err-block.ensures))

pub returns-then-n-block-clause-result_value : goal.returns-then-n-block-clause-result_value
returns-then-n-block-clause-result_value c =
    let a = c.args in
    erase-outside a.n (omega arith) a.text.now a.at _ (taken _ _ _ c.in_ok-block.ensures) c.if-n-block.true

pub returns-then-not-is_at-clause-result_value : goal.returns-then-not-is_at-clause-result_value
returns-then-not-is_at-clause-result_value c =
    let a = c.args in
    erase-unended a.n (omega arith) a.text.now a.at _ (taken _ _ _ c.in_ok-block.ensures) c.if-n-block.false
    (sym c.is_at.ensures ∙ c.if-not-is_at.true)

pub returns-clause-result_value : goal.returns-clause-result_value
returns-clause-result_value c =
    let a = c.args in
    erase-formed a.n (omega arith) a.text.now a.at _ (taken _ _ _ c.in_ok-block.ensures) c.if-n-block.false
    (sym c.is_at.ensures ∙ c.if-not-is_at.false)

pub returns-clause-ahead : goal.returns-clause-ahead
returns-clause-ahead c =
    let a = c.args in
    let one = taken a.text.now a.at _ c.in_ok-block.ensures in
    let feed = sym c.is_at.ensures ∙ c.if-not-is_at.false in (
      omega (arith, one.ahead),
      omega (arith, stands-within a.text.now c.in_ok-block.block.next 10 (omega arith) feed),
      c.if-n-block.false,
    )
