-- `sent_to` finds the first entry that is the number.
use Rattle.std.proofs.Common.{rules, Option, Some, None, MatchOption, EachIndex, slice_index, unwrap_or}
use Rattle.flash.proofs.Kit.{◌≡◌, sym, ◌∙◌, ◌≢◌, List, ℕ, ◌<◌, arith, length, get_or, eqb, eq-eqb, ne_eqb}
use Rattle.flash.specs.Lists.{range, first}
use Rattle.flash.proofs.Ranges.{none_is, first-is}
use Rattle.flash.proofs.Searches.{first-none}
use Rattle.steplist.proofs.originals.sent_to.Goals as goal

module _ (list : List ℕ) (number : ℕ) where
  -- where the first stands, if one does
  abbrev Found : Option ℕ → Type 0
  Found r =
      MatchOption r (EachIndex list (λ k. slice_index list k ≢ number))
      (λ i. (i < length list) × (slice_index list i ≡ number) × ((k : ℕ) → k < i → slice_index list k ≢ number))

  found : (r : Option ℕ) → Found r → unwrap_or r 0 ≡ first (λ k. eqb (get_or list k 0) number) (range 0 (length list)) 0
  found None each =
      sym (first-none (λ k. eqb (get_or list k 0) number) (range 0 (length list)) 0
      (none_is (λ k. eqb (get_or list k 0) number) 0 (length list) (λ j b h. ne_eqb _ _ (each j (omega arith)))))
  found (Some i) f =
      sym (first-is (λ k. eqb (get_or list k 0) number) 0 (length list) 0 i (record {
        low = omega arith;
        high = omega (arith, f.0);
        passes = eq-eqb _ _ f.1;
        before = λ j b h. ne_eqb _ _ (f.2 j h);
      }))

pub returns : goal.returns
returns c =
    let a = c.args in
    let told : Found a.list.now a.number c.position.result = search rules in
    c.unwrap_or.ensures ∙ found a.list.now a.number c.position.result told
