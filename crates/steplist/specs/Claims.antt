-- What is claimed of the second form: whoever checks it accepts it.
use Rattle.std.specs.Prelude.{◌≡◌, ◌≢◌, true, List, ℕ}
use Rattle.flash.specs.Tables.{refusal}
use Rattle.flash.specs.declared.sizes.Sizes.{Sizes}
use Rattle.split.specs.Rule.{split_by_rule}
use Rattle.listing.specs.Input.{request, input_of, within_limit}
use Rattle.listing.specs.Lines.{refused_line}
use Rattle.checker.specs.Answer.{said, check_rows, check_answer}
use Rattle.checker.specs.Method.{method_text}
use Rattle.steplist.specs.Output.{output}

-- for every input that is read, with the sizes and the list that it gives
module _ (input : List ℕ) (Z : Sizes) (list bytes : List ℕ) where
  open Z use {n, m}

  pub record Passes : Type 0 where
    -- it is the method's listing for the split that the split call makes, and the check says "yes" to it
    pub accepted : refusal (check_rows n m list) ≡ 0
        → (output true input ≡ method_text n m list (split_by_rule n m list)) × (check_answer n m list (output true input) ≡ said true)
    -- or the check refuses this list, and that can only be for its entries
    pub refused : refusal (check_rows n m list) ≢ 0 → (refusal (check_rows n m list) ≡ 3) × (output true input ≡ refused_line 3)

unfoldable pub OriginalsPass : Type 0
OriginalsPass = (input : List ℕ) (Z : Sizes) (list bytes : List ℕ) → input_of (within_limit input) ≡ request Z list bytes → Passes input Z list bytes
