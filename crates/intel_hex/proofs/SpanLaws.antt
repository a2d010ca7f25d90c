-- No byte is given twice exactly if no judge who looks at one span of 64 KiB meets one.
use Rattle.flash.proofs.Kit.{◌≡◌, refl, sym, ap, ◌∙◌, Bool, true, false, cond, and-false, ◌⊎◌, inl, inr, ⊎_elim, List, [], ◌∷◌, Option, none, some, ℕ}
use Rattle.flash.proofs.Kit.{◌+◌, ◌/◌, ◌<◌, arith, eqb, ltb, length, eq-eqb, ltb-false}
use Rattle.flash.proofs.Bools.{bool_cases, or-false-right}
use Rattle.intel_hex.specs.Records.{Record}
use Rattle.intel_hex.specs.Reading.{State, Outcome, going, fault, is_outside, is_repeated, offset_of, judge_data, judge_record, judge, judge_all, with_upper, at_end, number_of}
use Rattle.intel_hex.specs.inner.Passes.{judge_data_in, judge_record_in, judge_in, judge_all_in, only_in, everywhere, nowhere}
use Rattle.intel_hex.proofs.TurnLaws.{fault-stays}

-- the reader's judge looks everywhere
judge-is : (size : ℕ) (o : Outcome) (r : Option Record) → judge size o r ≡ judge_in everywhere size o r
unfolding judge judge_record judge_data judge_in judge_record_in judge_data_in
judge-is size (fault number) r = refl
judge-is size (going s) none = refl
judge-is size (going s) (some r) = refl

pub judges-are : (size : ℕ) (o : Outcome) (records : List (Option Record)) → judge_all size o records ≡ judge_all_in everywhere size o records
unfolding judge_all judge_all_in
judges-are size o [] = refl
judges-are size o (r ∷ records) =
    ap (λ (x : Outcome). judge_all size x records) (judge-is size o r) ∙ judges-are size (judge_in everywhere size o r) records

module _ (size : ℕ) where
  ten : (l : ℕ → Bool) (rs : List (Option Record)) → number_of (judge_all_in l size (fault 10) rs) ≡ 10
  unfolding number_of
  ten l rs = rw (fault-stays l size 10 rs)

  upper_in : (s : State) (r : Record) → is_outside size s r ≡ false → s.upper < size / 65536 + 1
  unfolding is_outside
  upper_in s r o =
      let h = ltb-false size (offset_of s r + length r.bytes) (or-false-right (ltb 65536 (r.address + length r.bytes)) (ltb size (offset_of s r + length r.bytes)) o) in
      omega arith

  -- one record: either it makes no difference who looks, or the judge of its own span meets a repeated byte
  abbrev Alike : ((ℕ → Bool) → Outcome) → Type 0
  Alike x = ((looked : ℕ → Bool) → x looked ≡ x nowhere) ⊎ ((w : ℕ) × (w < size / 65536 + 1) × (x (only_in w) ≡ fault 10) × (x everywhere ≡ fault 10))

  alike-cond : (t : Bool) (a : Outcome) (x : (ℕ → Bool) → Outcome) → Alike x → Alike (λ looked. cond t a (x looked))
  alike-cond true a x A = inl (λ looked. refl)
  alike-cond false a x A = A

  alike-data : (s : State) (r : Record) → Alike (λ looked. judge_data_in looked size s r)
  unfolding judge_data_in
  alike-data s r =
      ⊎_elim
      (λ (o : is_outside size s r ≡ true). inl (λ looked. rw o))
      (λ (o : is_outside size s r ≡ false).
      ⊎_elim
      (λ (p : is_repeated s r ≡ true). inr (s.upper, upper_in s r o, rw (o, p, eq-eqb s.upper s.upper refl), rw (o, p)))
      (λ (p : is_repeated s r ≡ false). inl (λ looked. rw (o, p, and-false)))
      (bool_cases (is_repeated s r)))
      (bool_cases (is_outside size s r))

  alike : (o : Outcome) (r : Option Record) → Alike (λ looked. judge_in looked size o r)
  unfolding judge_in judge_record_in
  alike (fault number) r = inl (λ looked. refl)
  alike (going s) none = inl (λ looked. refl)
  alike (going s) (some r) =
      alike-cond s.ended (fault 10) _ (alike-cond (eqb r.kind 1) (going (at_end s)) _ (alike-cond (eqb r.kind 4) (going (with_upper s r)) _ (alike-data s r)))

  -- a repeated byte that one judge meets is one
  pub some-span : (looked : ℕ → Bool) (o : Outcome) (records : List (Option Record)) → number_of (judge_all_in looked size o records) ≡ 10 → number_of (judge_all_in everywhere size o records) ≡ 10
  unfolding judge_all_in
  some-span looked o [] e = e
  some-span looked o (r ∷ records) e =
      ⊎_elim
      (λ (f : (l : ℕ → Bool) → judge_in l size o r ≡ judge_in nowhere size o r).
      let same : judge_in looked size o r ≡ judge_in everywhere size o r = f looked ∙ sym (f everywhere) in
      some-span looked (judge_in everywhere size o r) records (ap (λ (x : Outcome). number_of (judge_all_in looked size x records)) (sym same) ∙ e))
      (λ (w : (w : ℕ) × (w < size / 65536 + 1) × (judge_in (only_in w) size o r ≡ fault 10) × (judge_in everywhere size o r ≡ fault 10)).
      ap (λ (x : Outcome). number_of (judge_all_in everywhere size x records)) w.3 ∙ ten everywhere records)
      (alike o r)

  -- where no judge of one span meets one, there is none
  pub no_span : (o : Outcome) (records : List (Option Record)) → ((w : ℕ) → w < size / 65536 + 1 → number_of (judge_all_in (only_in w) size o records) ≡ 10 → ⊥)
      → judge_all_in everywhere size o records ≡ judge_all_in nowhere size o records
  unfolding judge_all_in
  no_span o [] f = refl
  no_span o (r ∷ records) f =
      ⊎_elim
      (λ (g : (l : ℕ → Bool) → judge_in l size o r ≡ judge_in nowhere size o r).
      ap (λ (x : Outcome). judge_all_in everywhere size x records) (g everywhere)
      ∙ no_span (judge_in nowhere size o r) records (λ w h e. f w h (ap (λ (x : Outcome). number_of (judge_all_in (only_in w) size x records)) (g (only_in w)) ∙ e)))
      (λ (w : (w : ℕ) × (w < size / 65536 + 1) × (judge_in (only_in w) size o r ≡ fault 10) × (judge_in everywhere size o r ≡ fault 10)).
      absurd (f w.0 w.1 (ap (λ (x : Outcome). number_of (judge_all_in (only_in w.0) size x records)) w.2 ∙ ten (only_in w.0) records)))
      (alike o r)
