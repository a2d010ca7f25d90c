-- When the list is refused, and when it is split.
use Rattle.flash.proofs.Kit.{◌≡◌, sym, ap, ◌∙◌, ⊎_elim, ◌≢◌, Bool, true, false, not, List, ℕ, ◌*◌, ◌≤◌, arith, leb}
use Rattle.flash.proofs.Kit.{length, get_or, length-replicate, eq-eqb, eqb-true, le-leb}
use Rattle.flash.specs.Lists.{all}
use Rattle.flash.specs.declared.sizes.Sizes.{Sizes}
use Rattle.flash.specs.Geometry.{in_range}
use Rattle.flash.proofs.Bools.{bool_cases, never_both}
use Rattle.flash.proofs.Searches.{all_of}
use Rattle.flash.proofs.Tables.{refusal-skip, refusal-nil}
use Rattle.flash.proofs.Bounds.{range-in}
use Rattle.split.specs.OneToOne.{bad_list}
use Rattle.split.specs.Drops.{is_dropped}
use Rattle.split.specs.Request.{unpinned, bad_request}
use Rattle.split.specs.Answer.{split_rows, SplitAnswer, split_answer}
use Rattle.split.proofs.Answers.{passed, none-pinned}
use Rattle.split.proofs.DropLaws.{Kept, kept_of}
use Rattle.listing.specs.Lines.{refused_line}
use Rattle.listing.specs.Input.{is_allowed, request}
use Rattle.listing.proofs.InputLaws.{bounded, few-originals}
use Rattle.steplist.specs.Output.{answered}
use Rattle.steplist.specs.inner.Given.{Readable, AcceptedInput}
use Rattle.steplist.proofs.StartLaws.{in_bounds}
use Rattle.steplist.proofs.FormLaws.{bad-not-one, not_listed}

-- an entry such as 65536 is judged before anything is cut to 16 bits: no page has that number, and none is dropped by it
large-entry : (originals : ℕ) (list : List ℕ) → originals ≤ 65536 → all (λ number. leb number 65535) list ≡ false → bad_list originals list ≡ true
unfolding is_dropped
large-entry originals list h e = ⊎_elim
    (λ (bad : bad_list originals list ≡ true). bad)
    (λ (good : bad_list originals list ≡ false). absurd (never_both (small (kept_of originals list good)) e))
    (bool_cases (bad_list originals list))
  where
    small : Kept originals list → all (λ number. leb number 65535) list ≡ true
    small K = all_of (λ number. leb number 65535) list 0 (λ k l. ⊎_elim
        (λ (d : is_dropped list k ≡ true). le-leb (get_or list k 0) 65535 (omega (arith, eqb-true (get_or list k 0) 65535 d)))
        (λ (d : is_dropped list k ≡ false). le-leb (get_or list k 0) 65535 (omega (arith, K.below k l d)))
        (bool_cases (is_dropped list k)))

module _ (Z : Sizes) (allowed : is_allowed Z ≡ true) (list bytes : List ℕ) where
  open Z use {n, m}

  -- a bad list is refused in either form
  bad-refused : length list ≡ n * m → bad_list (n * m) list ≡ true → (named : Bool) → answered named (request Z list bytes) ≡ refused_line 3
  unfolding answered
  bad-refused size bad false = rw bad
  bad-refused size bad true = not_listed Z allowed list size (bad-not-one Z allowed list bad)

  pub too_large : length list ≡ n * m → all (λ number. leb number 65535) list ≡ false → (named : Bool) → answered named (request Z list bytes) ≡ refused_line 3
  too_large size e named =
      let l = bounded Z allowed in
      bad-refused size (large-entry (n * m) list (omega (arith, few-originals n m l.few-blocks l.few-pages)) e) named

  in-range : in_range Z ≡ true
  in-range = range-in Z (in_bounds Z allowed)

  module _ (old sets : List ℕ) (number : ℕ) (list_length : length list ≡ n * m) (sets-length : length old ≡ n * m) (S : record { number = number; sets = sets } ≡ split_answer (unpinned Z list old)) where
    number_is : number ≡ (split_answer (unpinned Z list old)).number
    number_is = ap (λ (a : SplitAnswer). a.number) S

    sets-are : sets ≡ (split_answer (unpinned Z list old)).sets
    sets-are = ap (λ (a : SplitAnswer). a.sets) S

    -- only row 3 can fit
    good-split : bad_list (n * m) list ≡ false → number ≡ 0
    unfolding split_answer split_rows bad_request
    good-split e =
        number_is
        ∙ refusal-skip _ _ (ap not in-range) (refusal-skip _ _ (rw (eq-eqb _ _ list_length, eq-eqb _ _ (length-replicate {A = ℕ} (n * m) 0), eq-eqb _ _ sets-length))
        (refusal-skip _ _ e (refusal-skip _ _ (none-pinned (n * m) list) refusal-nil)))

    pub not-split : number ≢ 0 → (named : Bool) → answered named (request Z list bytes) ≡ refused_line 3
    not-split ne named =
        ⊎_elim
        (λ (e : bad_list (n * m) list ≡ true). bad-refused list_length e named)
        (λ (e : bad_list (n * m) list ≡ false). absurd (ne (good-split e)))
        (bool_cases (bad_list (n * m) list))

    module _ (e : number ≡ 0) where
      good : bad_list (n * m) list ≡ false
      unfolding split_answer
      good = (passed (unpinned Z list old) (sym (number_is) ∙ e)).good

      pub is-split : Readable Z list bytes → AcceptedInput Z list sets bytes
      unfolding split_answer
      is-split R = record { readable = R; good = good; sets-is = sets-are ∙ rw (eq-eqb _ 0 (sym (number_is) ∙ e)) }
