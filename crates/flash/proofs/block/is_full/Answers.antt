-- `is_full` meets its contract: the marks of a block are a part.
use Rattle.flash.proofs.Kit.{sym, ap, ◌∙◌, List, ℕ, eqb}
use Rattle.flash.specs.Lists.{all}
use Rattle.flash.proofs.Parts.{lent-part}
use Rattle.flash.proofs.Blocks.{full-part}
use Rattle.flash.proofs.block.is_full.Goals as goal

pub returns : goal.returns
returns c =
    let a = c.args in
    c.is_filled.ensures
    ∙ ap (λ (part : List ℕ). all (λ byte. eqb byte a.letter) part) (lent-part a.m a.block a.marks.now)
    ∙ sym (full-part a.m a.marks.now a.block a.letter c.requires)
