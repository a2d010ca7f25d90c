-- `read_step` reads the step's number, and by the letter behind it the rest.
use Rattle.flash.proofs.Kit.{◌+◌, sym, ◌∙◌, arith, length}
use Rattle.checker.proofs.StepLaws.{letter-within, ahead-from, next-within, step-none, step-another, step-write, step-erase, step-neither}
use Rattle.checker.proofs.line.read_step.Goals as goal

pub returns-in_err-own-clause-result_value : goal.returns-in_err-own-clause-result_value
returns-in_err-own-clause-result_value c =
    let a = c.args in
    rw c.from_residual.ensures (step-none a.n a.m a.step a.text.now a.at c.in_err-own.ensures)

pub returns-then-own-step-clause-result_value : goal.returns-then-own-step-clause-result_value
returns-then-own-step-clause-result_value c =
    let a = c.args in
    step-another a.n a.m a.step a.text.now a.at _ c.in_ok-own.ensures (omega arith) c.if-own-step.true

pub overflow_add-own : goal.overflow_add-own
overflow_add-own c =
    let a = c.args in
    omega (arith, letter-within a.text.now c.in_ok-own.own.next 87 (omega arith) (sym c.is_letter.ensures ∙ c.if-is_letter.true))

pub read_write-requires : goal.read_write-requires
read_write-requires c =
    let a = c.args in (
      letter-within a.text.now c.in_ok-own.own.next 87 (omega arith) (sym c.is_letter.ensures ∙ c.if-is_letter.true),
      omega arith,
      omega arith,
      omega arith,
    )

pub returns-then-is_letter : goal.returns-then-is_letter
returns-then-is_letter c =
    let a = c.args in
    let own = c.in_ok-own in record {
      result_value = c.read_write.ensures.result_value ∙ step-write a.n a.m a.step a.text.now a.at _ own.ensures (omega arith) c.if-own-step.false
          (sym c.is_letter.ensures ∙ c.if-is_letter.true);
      ahead = ahead-from a.n a.m a.n a.m a.at (own.own.next + 2) (length a.text.now) (omega arith) (omega arith)
          (omega (arith, next-within a.n a.m a.step a.text.now a.at own.own own.ensures (omega arith)))
          c.read_write.result c.read_write.ensures.ahead;
    }

pub overflow_add-own-then-is_letter-2 : goal.overflow_add-own-then-is_letter-2
overflow_add-own-then-is_letter-2 c =
    let a = c.args in
    omega (arith, letter-within a.text.now c.in_ok-own.own.next 69 (omega arith) (sym c.is_letter-2.ensures ∙ c.if-is_letter-2.true))

pub read_erase-requires : goal.read_erase-requires
read_erase-requires c =
    let a = c.args in
    (letter-within a.text.now c.in_ok-own.own.next 69 (omega arith) (sym c.is_letter-2.ensures ∙ c.if-is_letter-2.true), omega arith)

pub returns-then-is_letter-2 : goal.returns-then-is_letter-2
returns-then-is_letter-2 c =
    let a = c.args in
    let own = c.in_ok-own in record {
      result_value = c.read_erase.ensures.result_value ∙ step-erase a.n a.m a.step a.text.now a.at _ own.ensures (omega arith) c.if-own-step.false
          (sym c.is_letter.ensures ∙ c.if-is_letter.false) (sym c.is_letter-2.ensures ∙ c.if-is_letter-2.true);
      ahead = ahead-from a.n 0 a.n a.m a.at (own.own.next + 2) (length a.text.now) (omega arith) (omega arith)
          (omega (arith, next-within a.n a.m a.step a.text.now a.at own.own own.ensures (omega arith)))
          c.read_erase.result c.read_erase.ensures.ahead;
    }

pub returns-clause-result_value : goal.returns-clause-result_value
returns-clause-result_value c =
    let a = c.args in
    step-neither a.n a.m a.step a.text.now a.at _ c.in_ok-own.ensures (omega arith) c.if-own-step.false
    (sym c.is_letter.ensures ∙ c.if-is_letter.false) (sym c.is_letter-2.ensures ∙ c.if-is_letter-2.false)
