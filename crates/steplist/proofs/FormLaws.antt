-- When a list is listed by originals: what the check of listings would refuse of it, and the move that is listed.
use Rattle.flash.proofs.Kit.{◌≡◌, sym, ap, ◌∙◌, ⊎_elim, Bool, true, false, not, List, ℕ, ◌*◌, ◌≤◌, arith, eqb, length, eq-eqb, le-leb}
use Rattle.flash.specs.Lists.{any}
use Rattle.flash.specs.Tables.{first_fit, number_or0, refusal}
use Rattle.flash.specs.declared.sizes.Sizes.{Sizes}
use Rattle.flash.proofs.Bools.{bool_cases, fails, never_both}
use Rattle.split.specs.OneToOne.{dropped, bad_list, is_one_to_one}
use Rattle.split.specs.Rule.{split_by_rule}
use Rattle.split.proofs.DropLaws.{undropped-completed, undropped-bad, one-to-one-undropped}
use Rattle.split.proofs.RuleLaws.{rule-split, rule-length}
use Rattle.method.specs.Move.{AcceptedMove}
use Rattle.listing.specs.Lines.{refused_line}
use Rattle.listing.specs.Input.{is_allowed, request}
use Rattle.listing.proofs.InputLaws.{bounded, few-originals}
use Rattle.checker.specs.Answer.{are_sizes, check_rows}
use Rattle.checker.specs.Method.{move_by, method_text}
use Rattle.steplist.specs.Output.{listed, listed_by_originals, answered}
use Rattle.steplist.specs.inner.Given.{AcceptedInput}

module _ (Z : Sizes) (allowed : is_allowed Z ≡ true) (list : List ℕ) where
  open Z use {n, m}

  few : n * m ≤ 64
  few = let l = bounded Z allowed in few-originals n m l.few-blocks l.few-pages

  -- where a page is dropped, or an entry is bad, the list is no permutation
  pub bad-not-one : bad_list (n * m) list ≡ true → is_one_to_one (n * m) list ≡ false
  bad-not-one bad = fails (λ (one : is_one_to_one (n * m) list ≡ true).
      never_both bad (undropped-bad list (one-to-one-undropped (n * m) list (omega (arith, few)) one) (n * m) ∙ ap not one))

  pub dropped-not-one : any (eqb dropped) list ≡ true → is_one_to_one (n * m) list ≡ false
  dropped-not-one some = fails (λ (one : is_one_to_one (n * m) list ≡ true). never_both some (one-to-one-undropped (n * m) list (omega (arith, few)) one))

  module _ (size : length list ≡ n * m) where
    sized : are_sizes n m ≡ true
    unfolding are_sizes
    sized =
        let l = bounded Z allowed in
        rw (le-leb 1 n l.some-blocks, le-leb n 64 (omega (arith, l.few-blocks)), le-leb 1 m l.some-pages, le-leb m 64 (omega (arith, l.few-pages)), le-leb (n * m) 64 few)

    pub rows-3 : is_one_to_one (n * m) list ≡ false → refusal (check_rows n m list) ≡ 3
    unfolding check_rows refusal first_fit number_or0
    rows-3 e = rw (sized, eq-eqb (length list) (n * m) size, e)

    pub rows_pass : is_one_to_one (n * m) list ≡ true → refusal (check_rows n m list) ≡ 0
    unfolding check_rows refusal first_fit number_or0
    rows_pass e = rw (sized, eq-eqb (length list) (n * m) size, e)

    pub not_listed : is_one_to_one (n * m) list ≡ false → listed_by_originals Z list ≡ refused_line 3
    unfolding listed_by_originals
    not_listed e = rw (rows-3 e)

    pub is-listed : is_one_to_one (n * m) list ≡ true → listed_by_originals Z list ≡ method_text n m list (split_by_rule n m list)
    unfolding listed_by_originals
    is-listed e = rw (rows_pass e)

-- ---- a list that was accepted and split
module _ (Z : Sizes) (list sets bytes : List ℕ) (A : AcceptedInput Z list sets bytes) where
  open Z use {n, m}

  pub listed-bytes : (named : Bool) → named ≡ false → answered named (request Z list bytes) ≡ listed Z list bytes
  unfolding answered
  listed-bytes named e = rw (e, A.good)

  pub listed-dropped : (named : Bool) → named ≡ true → any (eqb dropped) list ≡ true → answered named (request Z list bytes) ≡ refused_line 3
  unfolding answered
  listed-dropped named e some = rw e (not_listed Z A.readable.allowed list A.readable.list_length (dropped-not-one Z A.readable.allowed list some))

  module _ (none : any (eqb dropped) list ≡ false) where
    one : is_one_to_one (n * m) list ≡ true
    one = ⊎_elim (λ (e : is_one_to_one (n * m) list ≡ true). e)
        (λ (e : is_one_to_one (n * m) list ≡ false). absurd (never_both (undropped-bad list none (n * m) ∙ ap not e) A.good))
        (bool_cases (is_one_to_one (n * m) list))

    sets-are : sets ≡ split_by_rule n m list
    sets-are = A.sets-is ∙ ap (split_by_rule n m) (undropped-completed list none)

    pub listed-originals : (named : Bool) → named ≡ true → answered named (request Z list bytes) ≡ method_text n m list sets
    unfolding answered
    listed-originals named e = rw e (is-listed Z A.readable.allowed list A.readable.list_length one ∙ ap (method_text n m list) (sym sets-are))

    pub accepted : AcceptedMove (move_by n m list sets)
    accepted =
        let l = bounded Z A.readable.allowed in
        let size = A.readable.list_length in
        record {
          ranges = record { n-low = l.some-blocks; n-high = omega arith; m-low = l.some-pages; m-high = omega arith; p-low = omega arith; p-high = omega arith; s-high = omega arith };
          list_length = size;
          sets-length = ap length sets-are ∙ rule-length n m list size one;
          one-to-one = one;
          split = rw sets-are (rule-split n m list size one);
        }
