-- From what the passes find to the reader's number and image.
use Rattle.flash.proofs.Kit.{◌≡◌, refl, sym, ap, ◌∙◌, Bool, true, false, List, ℕ, ◌+◌, ◌/◌, ◌<◌, length, ne_eqb, subst}
use Rattle.flash.proofs.Bools.{never_both}
use Rattle.flash.specs.Refusals.{number_in}
use Rattle.intel_hex.specs.Reading.{going, records_in, start, outcome_of, number_of, bytes_of, hex_number, hex_image, Read}
use Rattle.intel_hex.specs.declared.survey.Found.{Found}
use Rattle.intel_hex.specs.inner.Passes.{judged_by, only_in, everywhere, nowhere, SurveyIs, RepeatsIs}
use Rattle.intel_hex.specs.inner.Tops.{Tops}
use Rattle.intel_hex.proofs.SpanLaws.{judges-are, some-span, no_span}

module _ (text : List ℕ) (size : ℕ) where
  number-strict : hex_number size text ≡ number_of (judged_by everywhere size text)
  unfolding hex_number outcome_of
  number-strict = ap number_of (judges-are size (going (start size)) (records_in text))

  image-strict : hex_image size text ≡ bytes_of (judged_by everywhere size text)
  unfolding hex_image outcome_of
  image-strict = ap bytes_of (judges-are size (going (start size)) (records_in text))

  pub repeats-found : (w : ℕ) → number_of (judged_by (only_in w) size text) ≡ 10 → RepeatsIs text size true
  repeats-found w e = record {
    found = λ _. some-span size (only_in w) (going (start size)) (records_in text) e;
    none = λ f. absurd (never_both refl f);
  }

  pub repeats-none : ((w : ℕ) → w < size / 65536 + 1 → number_of (judged_by (only_in w) size text) ≡ 10 → ⊥) → RepeatsIs text size false
  repeats-none f = record {
    found = λ e. absurd (never_both e refl);
    none = λ _. no_span size (going (start size)) (records_in text) f;
  }

  pub own-size : (found : Found) (tops : Tops) → SurveyIs text size found tops → SurveyIs text found.size found tops
  own-size found tops S = subst (λ (z : ℕ). SurveyIs text z found tops) (sym S.size_is) S

  pub repeats-survey : (found : Found) (tops : Tops) → SurveyIs text size found tops → number_in found.verdict ≡ 10 → RepeatsIs text size true
  repeats-survey found tops S e = record {
    found = λ _. some-span size nowhere (going (start size)) (records_in text) (sym S.number_is ∙ e);
    none = λ f. absurd (never_both refl f);
  }

  pub read-repeated : (before : List ℕ) → length before ≡ size → (r : Bool) → RepeatsIs text size r → r ≡ true → Read text before 10 before
  read-repeated before n r R e = record { number_is = rw n (sym (number-strict ∙ R.found e)); image-is = refl }

  module _ (before : List ℕ) (n : length before ≡ size) (found : Found) (tops : Tops) (r : Bool) (S : SurveyIs text size found tops) (R : RepeatsIs text size r) (e : r ≡ false) where
    number-found : number_in found.verdict ≡ hex_number (length before) text
    number-found = rw n (S.number_is ∙ sym (number-strict ∙ ap number_of (R.none e)))

    pub read-faulty : (number_in found.verdict ≡ 0 → ⊥) → Read text before (number_in found.verdict) before
    read-faulty f = record { number_is = number-found; image-is = rw (ne_eqb (number_in found.verdict) 0 f) }

    pub read_whole : (after : List ℕ) → number_in found.verdict ≡ 0 → after ≡ bytes_of (judged_by nowhere size text) → Read text before 0 after
    read_whole after z a = record {
      number_is = sym z ∙ number-found;
      image-is = rw n (a ∙ sym (image-strict ∙ ap bytes_of (R.none e)));
    }
