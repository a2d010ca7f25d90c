-- `read_line` looks for `end` first.
use Rattle.flash.proofs.Kit.{◌+◌, sym, ◌∙◌, arith, length}
use Rattle.checker.proofs.StepLaws.{end-within, ahead-from, line-end, line_step}
use Rattle.checker.proofs.line.read_line.Goals as goal

pub read_end-requires : goal.read_end-requires
read_end-requires c =
    let a = c.args in
    end-within a.text.now a.at (sym c.is_end.ensures ∙ c.if-is_end.true)

pub returns-then-is_end : goal.returns-then-is_end
returns-then-is_end c =
    let a = c.args in record {
      result_value = c.read_end.ensures.result_value ∙ line-end a.n a.m a.step a.text.now a.at (sym c.is_end.ensures ∙ c.if-is_end.true);
      ahead = ahead-from 0 0 a.n a.m a.at (a.at + 3) (length a.text.now) (omega arith) (omega arith) (omega arith) c.read_end.result
          c.read_end.ensures.ahead;
    }

pub returns : goal.returns
returns c =
    let a = c.args in
    record {
      result_value = c.read_step.ensures.result_value ∙ line_step a.n a.m a.step a.text.now a.at (sym c.is_end.ensures ∙ c.if-is_end.false);
      ahead = c.read_step.ensures.ahead;
    }
