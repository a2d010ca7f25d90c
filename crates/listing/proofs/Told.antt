-- What the answer of a chain tells of a list.
use Rattle.std.proofs.Common.{IsTrue, EachIndex, slice_index, ◌↔◌}
use Rattle.flash.proofs.Kit.{◌≡◌, refl, sym, ⊎_elim, true, false, Bool, List, ℕ, ◌≤◌, leb, le-leb, leb-true}
use Rattle.flash.specs.Lists.{all}
use Rattle.flash.proofs.Bools.{bool_cases, never_both}
use Rattle.flash.proofs.Searches.{all_of, all-at}

pub all-told : (most : ℕ) (xs : List ℕ) (b : Bool) → (IsTrue b ↔ EachIndex xs (λ k. slice_index xs k ≤ most)) → b ≡ all (λ number. leb number most) xs
all-told most xs true told = sym (all_of (λ number. leb number most) xs 0 (λ k h. le-leb _ _ (told.0 refl k h)))
all-told most xs false told =
    ⊎_elim
    (λ (e : all (λ number. leb number most) xs ≡ true). absurd (never_both (told.1 (λ k h. leb-true _ _ (all-at (λ number. leb number most) xs k 0 e h))) refl))
    (λ e. sym e)
    (bool_cases (all (λ number. leb number most) xs))
