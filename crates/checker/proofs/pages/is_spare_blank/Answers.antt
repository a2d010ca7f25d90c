-- `is_spare_blank` looks at the spare's pages.
use Rattle.flash.proofs.Kit.{◌∙◌, arith}
use Rattle.checker.proofs.PageLaws.{blank-part}
use Rattle.checker.proofs.pages.is_spare_blank.Goals as goal

pub returns : goal.returns
returns c = let a = c.args in c.are_blank.ensures ∙ blank-part a.pages.now 0 a.m (omega arith)
