-- `known_pages` tells of a block that is full of a letter.
use Rattle.flash.proofs.Kit.{refl, sym, ◌∙◌, inl, inr}
use Rattle.recovery.proofs.marks.known_pages.Goals as goal

pub returns-then-is_full : goal.returns-then-is_full
returns-then-is_full c = inl (c.if-letter-lt-LETTERS.true, sym c.is_full.ensures ∙ c.if-is_full.true, refl)

pub returns-else-letter-lt-LETTERS : goal.returns-else-letter-lt-LETTERS
returns-else-letter-lt-LETTERS c = inr refl
