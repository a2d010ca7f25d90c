-- A refusal's number is not 0, and what a `?` hands on has the number of what it was asked of.
use Rattle.flash.proofs.Kit.{◌≡◌, ap, ◌∙◌, sym, arith}
use Rattle.std.specs.Prelude.{Result, Err, IsErrAnd}
use Rattle.std.proofs.lemmas.Result.{err_from_is_err_and}
use Rattle.flash.specs.Refusals.{number_of, number_in}
use Rattle.flash.specs.declared.refusal.Refusal.{Refusal}
use Rattle.flash.specs.declared.refusal.Refusal.TheVariants.{BadSizes, BadLength, BadList, BadSplit, BadPlace, BadMarks, BadOriginal, BadRecord, BadAddress}
use Rattle.flash.specs.declared.refusal.Refusal.TheVariants.{BadText, BadPins, BadWear, BadLine, BadWrite, LostOriginal, BadBlocks, BadOrder}

pub numbered : (e : Refusal) → number_of e ≡ 0 → ⊥
numbered BadSizes h = omega (arith, h)
numbered BadLength h = omega (arith, h)
numbered BadList h = omega (arith, h)
numbered BadSplit h = omega (arith, h)
numbered BadPlace h = omega (arith, h)
numbered BadMarks h = omega (arith, h)
numbered BadOriginal h = omega (arith, h)
numbered BadRecord h = omega (arith, h)
numbered BadAddress h = omega (arith, h)
numbered BadText h = omega (arith, h)
numbered BadPins h = omega (arith, h)
numbered BadWear h = omega (arith, h)
numbered BadLine h = omega (arith, h)
numbered BadWrite h = omega (arith, h)
numbered LostOriginal h = omega (arith, h)
numbered BadBlocks h = omega (arith, h)
numbered BadOrder h = omega (arith, h)

-- from a verdict to the result that the exit of a `?` returns
module _ {A B : Type 0} (v : Result A Refusal) (r : Result B Refusal) (e : Refusal) (was : v ≡ Err e) (is : IsErrAnd r (λ y. y ≡ e)) where
  pub handed-on : number_in r ≡ number_in v
  handed-on =
      let p = err_from_is_err_and r is in
      ap number_in p.1 ∙ ap number_of p.2 ∙ sym (ap number_in was)

  pub not-carried : number_in v ≡ 0 → ⊥
  not-carried h = numbered e (sym (ap number_in was) ∙ h)
