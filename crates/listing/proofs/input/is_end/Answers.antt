-- `is_end` tells whether no word is left behind a position.
use Rattle.flash.proofs.Kit.{◌≡◌, refl, sym, ap, ◌∙◌, false, List, ℕ}
use Rattle.listing.specs.declared.number.Word.{Word}
use Rattle.listing.specs.declared.number.Word.TheVariants.{Number, Malformed, End}
use Rattle.listing.specs.ReaderAnswers.{told_as}
use Rattle.listing.proofs.TakeLaws.{is_end, none_left}
use Rattle.listing.proofs.input.is_end.Goals as goal

pub returns-in-End : goal.returns-in-End
returns-in-End c = ap is_end c.in-End.ensures ∙ sym (none_left _)

-- a word is left, whichever it is
left : (text : List ℕ) (word : Word) → (word ≡ End → ⊥) → is_end (told_as text word) ≡ false
left text (Number value next) h = refl
left text Malformed h = refl
left text End h = absurd (h refl)

pub returns-in_default : goal.returns-in_default
returns-in_default c = sym (left c.args.text.now c.number.result c.in_default.not-End) ∙ ap is_end c.number.ensures ∙ sym (none_left _)
