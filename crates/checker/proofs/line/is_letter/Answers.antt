-- `is_letter` looks at two bytes.
use Rattle.flash.proofs.Kit.{sym, ◌∙◌}
use Rattle.checker.proofs.TextLaws.{letter_at}
use Rattle.checker.proofs.line.is_letter.Goals as goal

pub returns-then-is_at : goal.returns-then-is_at
returns-then-is_at c =
    let a = c.args in
    sym (letter_at a.text.now a.at a.letter c.requires ∙ rw (sym c.is_at.ensures ∙ c.if-is_at.true, ← c.is_at-then-is_at.ensures))

pub returns-else-is_at : goal.returns-else-is_at
returns-else-is_at c =
    let a = c.args in
    sym (letter_at a.text.now a.at a.letter c.requires ∙ rw (sym c.is_at.ensures ∙ c.if-is_at.false) (sym c.if-is_at.false))
