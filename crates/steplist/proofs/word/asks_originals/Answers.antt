-- `asks_originals` compares the word with `--originals`.
use Rattle.flash.proofs.Kit.{◌≡◌, refl, ◌∙◌, List, [], ◌∷◌, ℕ, eqb}
use Rattle.flash.specs.Lists.{is_same}
use lib.Pointwise.{pointwise}
use Rattle.steplist.proofs.word.asks_originals.Goals as goal

same : (xs ys : List ℕ) → pointwise eqb xs ys ≡ is_same xs ys
unfolding is_same
same [] [] = refl
same [] (y ∷ ys) = refl
same (x ∷ xs) [] = refl
same (x ∷ xs) (y ∷ ys) = rw (same xs ys)

pub returns : goal.returns
returns c = c.eq.ensures ∙ same c.args.word.now c.as_slice.result.now ∙ rw c.as_slice.ensures
