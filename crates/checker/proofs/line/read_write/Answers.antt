-- `read_write` reads a block, a page, the originals and a line feed.
use Rattle.flash.proofs.Kit.{sym, ◌∙◌, arith}
use Rattle.checker.proofs.TextLaws.{stands-within}
use Rattle.checker.proofs.LineLaws.{taken, missed, write-none, write-outside, write-one, write-beyond, write-wrong, write-unended, write-formed}
use Rattle.checker.proofs.line.read_write.Goals as goal

pub returns-in_err-block-clause-result_value : goal.returns-in_err-block-clause-result_value
returns-in_err-block-clause-result_value c =
    let a = c.args in
    rw c.from_residual.ensures (write-none a.n a.m (omega arith) (omega arith) (omega arith) a.text.now a.at (missed _ _ c.in_err-block.ensures))

pub returns-then-n-block-clause-result_value : goal.returns-then-n-block-clause-result_value
returns-then-n-block-clause-result_value c =
    let a = c.args in
    write-outside a.n a.m (omega arith) (omega arith) (omega arith) a.text.now a.at _ (taken _ _ _ c.in_ok-block.ensures) c.if-n-block.true

pub field-requires-2 : goal.field-requires-2
field-requires-2 c = (taken _ _ _ c.in_ok-block.ensures).within

pub returns-in_err-page-clause-result_value : goal.returns-in_err-page-clause-result_value
returns-in_err-page-clause-result_value c =
    let a = c.args in
    rw c.from_residual-in_err-page.ensures (write-one a.n a.m (omega arith) (omega arith) (omega arith) a.text.now a.at _
    (taken _ _ _ c.in_ok-block.ensures) (missed _ _ c.in_err-page.ensures))

pub returns-then-m-page-clause-result_value : goal.returns-then-m-page-clause-result_value
returns-then-m-page-clause-result_value c =
    let a = c.args in
    write-beyond a.n a.m (omega arith) (omega arith) (omega arith) a.text.now a.at _ (taken _ _ _ c.in_ok-block.ensures) _
    (taken _ _ _ c.in_ok-page.ensures) c.if-m-page.true

pub gather-requires : goal.gather-requires
gather-requires c = ((taken _ _ _ c.in_ok-page.ensures).within, omega arith)

pub returns-in_err-found-clause-result_value : goal.returns-in_err-found-clause-result_value
returns-in_err-found-clause-result_value c =
    let a = c.args in
    rw c.from_residual-in_err-found.ensures (write-wrong a.n a.m (omega arith) (omega arith) (omega arith) a.text.now a.at _
    (taken _ _ _ c.in_ok-block.ensures) _ (taken _ _ _ c.in_ok-page.ensures) c.in_err-found.ensures)

pub returns-then-not-is_at-clause-result_value : goal.returns-then-not-is_at-clause-result_value
returns-then-not-is_at-clause-result_value c =
    let a = c.args in
    write-unended a.n a.m (omega arith) (omega arith) (omega arith) a.text.now a.at _ (taken _ _ _ c.in_ok-block.ensures) _
    (taken _ _ _ c.in_ok-page.ensures) _ c.in_ok-found.ensures c.if-n-block.false c.if-m-page.false (sym c.is_at.ensures ∙ c.if-not-is_at.true)

pub returns-clause-result_value : goal.returns-clause-result_value
returns-clause-result_value c =
    let a = c.args in
    write-formed a.n a.m (omega arith) (omega arith) (omega arith) a.text.now a.at _ (taken _ _ _ c.in_ok-block.ensures) _
    (taken _ _ _ c.in_ok-page.ensures) _ c.in_ok-found.ensures c.if-n-block.false c.if-m-page.false (sym c.is_at.ensures ∙ c.if-not-is_at.false)

pub returns-clause-ahead : goal.returns-clause-ahead
returns-clause-ahead c =
    let a = c.args in
    let one = taken a.text.now a.at _ c.in_ok-block.ensures in
    let two = taken a.text.now _ _ c.in_ok-page.ensures in
    let feed = sym c.is_at.ensures ∙ c.if-not-is_at.false in (
      omega (arith, one.ahead, two.ahead, c.in_ok-found.ensures.low),
      omega (arith, stands-within a.text.now c.in_ok-found.found.next 10 (omega arith) feed),
      c.if-n-block.false,
      c.if-m-page.false,
    )
