-- What the second form writes is accepted by the check of listings, or refused as it refuses the list.
use Rattle.flash.proofs.Kit.{◌≡◌, ap, ◌∙◌, ◌≢◌, ⊎_elim, true, false, List, ℕ, ◌*◌, arith, length}
use Rattle.flash.specs.Tables.{refusal}
use Rattle.flash.specs.declared.sizes.Sizes.{Sizes}
use Rattle.flash.proofs.Bools.{bool_cases}
use Rattle.split.specs.OneToOne.{is_one_to_one}
use Rattle.split.specs.Rule.{split_by_rule}
use Rattle.split.proofs.RuleLaws.{rule-split, rule-length}
use Rattle.listing.specs.Input.{request, input_of, within_limit}
use Rattle.checker.specs.Answer.{said, check_rows, check_answer}
use Rattle.checker.specs.Claims.{MethodPasses}
use Rattle.checker.specs.Method.{method_text}
use Rattle.checker.proofs.MethodPassed.{method-passes}
use Rattle.steplist.specs.Output.{listed_by_originals, answered, output}
use Rattle.steplist.specs.Claims.{Passes, OriginalsPass}
use Rattle.steplist.proofs.AskedLaws.{asked-list}
use Rattle.steplist.proofs.FormLaws.{rows-3, rows_pass, not_listed, is-listed}

module _ (input : List ℕ) (Z : Sizes) (list bytes : List ℕ) (e : input_of (within_limit input) ≡ request Z list bytes) where
  open Z use {n, m}

  out-is : output true input ≡ listed_by_originals Z list
  unfolding output answered
  out-is = ap (answered true) e

  size : length list ≡ n * m
  size = (asked-list Z (within_limit input) list bytes e).1

  module _ (rows : refusal (check_rows n m list) ≡ 0) where
    one : is_one_to_one (n * m) list ≡ true
    one = ⊎_elim (λ (t : is_one_to_one (n * m) list ≡ true). t)
        (λ (f : is_one_to_one (n * m) list ≡ false). absurd (omega (arith, rows-3 Z (asked-list Z (within_limit input) list bytes e).0 list size f)))
        (bool_cases (is_one_to_one (n * m) list))

    text-is : output true input ≡ method_text n m list (split_by_rule n m list)
    text-is = out-is ∙ is-listed Z (asked-list Z (within_limit input) list bytes e).0 list size one

    says-yes : check_answer n m list (output true input) ≡ said true
    unfolding MethodPasses
    says-yes = ap (check_answer n m list) text-is ∙ method-passes n m list (split_by_rule n m list) rows (rule-length n m list size one) (rule-split n m list size one)

  module _ (rows : refusal (check_rows n m list) ≢ 0) where
    none : is_one_to_one (n * m) list ≡ false
    none = ⊎_elim (λ (t : is_one_to_one (n * m) list ≡ true). absurd (rows (rows_pass Z (asked-list Z (within_limit input) list bytes e).0 list size t)))
        (λ (f : is_one_to_one (n * m) list ≡ false). f)
        (bool_cases (is_one_to_one (n * m) list))

  passes : Passes input Z list bytes
  passes =
      let allowed = (asked-list Z (within_limit input) list bytes e).0 in
      record {
        accepted = λ rows. (text-is rows, says-yes rows);
        refused = λ rows. (rows-3 Z allowed list size (none rows), out-is ∙ not_listed Z allowed list size (none rows));
      }

pub originals-pass : OriginalsPass
unfolding OriginalsPass
originals-pass input Z list bytes e = passes input Z list bytes e
