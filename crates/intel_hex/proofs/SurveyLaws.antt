-- What the survey keeps from one record to the next: while the records of a span rise, its judge meets no repeated byte.
use Rattle.flash.proofs.Kit.{◌≡◌, refl, sym, ap, ◌∙◌, ◌⊎◌, inl, inr, ⊎_elim, Bool, true, false, cond, ◌&&◌, and-false, List, Option, none, ℕ, ◌+◌, ◌*◌, ◌≤◌}
use Rattle.flash.proofs.Kit.{◌<◌, arith, leb, leb-true, ne_eqb, length, get_or, take, drop, set, replicate, length-replicate, get_or-set_same, get_or-set_other}
use Rattle.std.specs.Prelude.{IsSome}
use Rattle.std.specs.declared.option.Option as std_option
use Rattle.std.specs.declared.option.Option.TheVariants.{None, Some}
use Rattle.std.proofs.lemmas.Option.{none-some}
use Rattle.flash.specs.Lists.{any}
use Rattle.flash.proofs.Bools.{never_both}
use Rattle.flash.proofs.Comparisons.{lt-cases, eq-cases}
use Rattle.flash.specs.Refusals.{number_in}
use Rattle.intel_hex.specs.Reading.{records_in, going, fault, is_given, number_of}
use Rattle.intel_hex.specs.declared.survey.Found.{Found}
use Rattle.intel_hex.specs.inner.Lines.{bytes_at}
use Rattle.intel_hex.specs.inner.Passes.{judge_all_in, state_of, put_at, judged_by, only_in, nowhere, half_at, offset_at, count_at, next_at}
use Rattle.intel_hex.specs.inner.Passes.{Stops, Goes, Steps, Walk, arrived, walks, SurveyIs}
use Rattle.intel_hex.specs.inner.Tops.{Tops, top_of, next_top, NoteIs}
use Rattle.intel_hex.proofs.GivenLaws.{length-put, put-before, put-after, none-given-in}
use Rattle.intel_hex.proofs.WalkLaws.{nothing, none-at, begins}

-- a top behind a record that gives bytes
pub record Risen (o : std_option.Option ℕ) (offset count top t : ℕ) : Type 0 where
  pub is : o ≡ Some t
  pub low : t ≤ offset
  pub now : top ≡ offset + count

some-is : (o : std_option.Option ℕ) → IsSome o → (t : ℕ) × (o ≡ Some t)
some-is None s = absurd (never_both s refl)
some-is (Some t) s = (t, refl)

risen_by : (b : Bool) (offset count top t : ℕ) → leb t offset ≡ b → cond b (Some (offset + count)) None ≡ Some top → Risen (Some t) offset count top t
risen_by true offset count top t e f = record { is = refl; low = leb-true t offset e; now = cc }
risen_by false offset count top t e f = absurd (none-some top f)

risen : (o : std_option.Option ℕ) (offset count top : ℕ) → next_top o offset count ≡ Some top → (t : ℕ) × Risen o offset count top t
risen None offset count top f = absurd (none-some top f)
risen (Some t) offset count top f = (t, risen_by (leb t offset) offset count top t refl f)

pub record Rising (text : List ℕ) (size at upper : ℕ) (given : List (Option ℕ)) (w top : ℕ) : Type 0 where
  pub strict : judged_by (only_in w) size text ≡ judge_all_in (only_in w) size (going (state_of upper given)) (records_in (drop at text))
  pub free : (b : ℕ) → w * 65536 ≤ b → b < w * 65536 + 65536 → top ≤ b → is_given (get_or given b none) ≡ false

pub record Surveying (text : List ℕ) (size at upper : ℕ) (tops : Tops) : Type 0 where
  pub given : List (Option ℕ)
  pub same : judged_by nowhere size text ≡ judge_all_in nowhere size (going (state_of upper given)) (records_in (drop at text))
  pub rising : (w top : ℕ) → w < 257 → top_of tops w ≡ Some top → Rising text size at upper given w top
  pub size_is : length given ≡ size
  pub inside : at ≤ length text
  pub low : upper ≤ 65535
  -- a walk from here is the rest of one from the start
  pub whole : (found : Found) → found.size ≡ size → Walk text found at upper → Walk text found 0 0

pub surveying-start : (text : List ℕ) (size : ℕ) (tops : Tops) → Surveying text size 0 0 tops
surveying-start text size tops = record {
  given = replicate size none;
  same = begins nowhere size text;
  rising = λ w top h f. record { strict = begins (only_in w) size text; free = λ b l m t. none-at size b };
  size_is = length-replicate size nothing;
  inside = omega arith;
  low = omega arith;
  whole = λ found e W. W;
}

module _ {text : List ℕ} {size at upper : ℕ} {tops : Tops} (L : Surveying text size at upper tops) where
  pub surveying-stop : (found : Found) → found.size ≡ size → found.end ≡ at → Stops text at upper size (number_in found.verdict) → SurveyIs text size found tops
  surveying-stop found n e S = record {
    size_is = n;
    walk = L.whole found n (arrived (sym e) (rw n S));
    number_is = sym (ap number_of L.same ∙ S.number_is nowhere L.given);
    rising = λ w h s.
        let t = some-is (top_of tops w) s in
        ap number_of (L.rising w t.0 h t.1).strict ∙ S.number_is (only_in w) L.given;
  }

  module _ (step : Steps text at upper size) {after : Tops} (K : NoteIs tops (half_at text at upper) (offset_at text at upper) (count_at text at) after) (few : size ≤ 16777216) where
    abbrev half : ℕ
    half = half_at text at upper

    abbrev offset : ℕ
    offset = offset_at text at upper

    abbrev count : ℕ
    count = count_at text at

    abbrev next : ℕ
    next = next_at text at

    G : Goes text at upper size half offset count next
    G = step.goes

    abbrev bytes : List ℕ
    bytes = bytes_at text at count

    fits : offset + length bytes ≤ length L.given
    fits = omega (arith, G.fits, G.length-is, L.size_is)

    -- no byte of the span is given by this record: the judge goes on
    goes_on : (w : ℕ) → (only_in w half && any is_given (take count (drop offset L.given))) ≡ false
        → judged_by (only_in w) size text ≡ judge_all_in (only_in w) size (going (state_of upper L.given)) (records_in (drop at text))
        → judged_by (only_in w) size text ≡ judge_all_in (only_in w) size (going (state_of half (put_at L.given offset bytes))) (records_in (drop next text))
    goes_on w e s =
        s ∙ G.is (only_in w) L.given
        ∙ ap (λ (t : Bool). judge_all_in (only_in w) size (cond t (fault 10) (going (state_of half (put_at L.given offset bytes)))) (records_in (drop next text))) e

    kept : (b : ℕ) → (b < offset) ⊎ (offset + count ≤ b) → get_or (put_at L.given offset bytes) b none ≡ get_or L.given b none
    kept b o =
        let n = G.length-is in
        ⊎_elim
        (λ (q : b < offset). put-before L.given offset bytes fits b q)
        (λ (q : offset + count ≤ b). put-after L.given offset bytes fits b (omega arith))
        o

    rising_none : (w top : ℕ) → w < 257 → count ≡ 0 → top_of after w ≡ Some top → Rising text size next half (put_at L.given offset bytes) w top
    unfolding any
    rising_none w top h z f =
        let e : top_of after w ≡ top_of tops w = ap (λ (l : Tops). top_of l w) (K.none z) in
        let R = L.rising w top h (sym e ∙ f) in
        record {
          strict = goes_on w (rw (z, and-false)) R.strict;
          free = λ b l m t.
              ap is_given (kept b (⊎_elim (λ (q : b < offset). inl q) (λ (q : offset ≤ b). inr (omega arith)) (lt-cases b offset))) ∙ R.free b l m t;
        }

    rising-other : (w top : ℕ) → w < 257 → 1 ≤ count → (w ≡ half → ⊥) → top_of after w ≡ Some top → Rising text size next half (put_at L.given offset bytes) w top
    rising-other w top h p ne f =
        let R = L.rising w top h (sym (K.other w ne) ∙ f) in
        let s = G.span-start p in
        let t = G.span-end p in
        record {
          strict = goes_on w (rw (ne_eqb half w (λ q. ne (sym q)))) R.strict;
          free = λ b l m u.
              ap is_given (kept b (⊎_elim (λ (q : b < offset). inl q) (λ (q : offset ≤ b). inr (omega arith)) (lt-cases b offset))) ∙ R.free b l m u;
        }

    rising-here : (w top : ℕ) → w < 257 → 1 ≤ count → w ≡ half → top_of after w ≡ Some top → Rising text size next half (put_at L.given offset bytes) w top
    rising-here w top h p e f =
        let s = G.span-start p in
        let t = G.span-end p in
        let fit = G.fits in
        let q = risen (top_of tops half) offset count top (sym (K.here p) ∙ ap (top_of after) (sym e) ∙ f) in
        let R = L.rising w q.0 h (ap (top_of tops) e ∙ q.1.is) in
        let low = q.1.low in
        let now = q.1.now in
        let none-there = none-given-in L.given offset count (λ i l. R.free (offset + i) (omega arith) (omega arith) (omega arith)) in
        record {
          strict = goes_on w (rw (none-there, and-false)) R.strict;
          free = λ b l m u. ap is_given (kept b (inr (omega arith))) ∙ R.free b l m (omega arith);
        }

    pub surveying-on : Surveying text size next half after
    surveying-on = record {
      given = put_at L.given offset bytes;
      same = L.same ∙ G.is nowhere L.given;
      rising = λ w top h f.
          ⊎_elim
          (λ (z : count < 1). rising_none w top h (omega arith) f)
          (λ (p : 1 ≤ count). ⊎_elim (λ (e : w ≡ half). rising-here w top h p e f) (λ (ne : w ≡ half → ⊥). rising-other w top h p ne f) (eq-cases w half))
          (lt-cases count 1);
      size_is = length-put L.given offset bytes fits ∙ L.size_is;
      inside = G.ends;
      low = G.half-low;
      whole = λ found e W. L.whole found e (walks (rw e step) W);
    }

-- ---- the top of a span is noted
pub note-none : (tops : Tops) (half offset count : ℕ) → count ≡ 0 → NoteIs tops half offset count tops
note-none tops half offset count z = record { none = λ _. refl; here = λ p. absurd (omega arith); other = λ w ne. refl }

pub note-top : (tops : Tops) (half offset count : ℕ) (top : std_option.Option ℕ) → 1 ≤ count → half < length tops → top ≡ next_top (top_of tops half) offset count
    → NoteIs tops half offset count (set tops half top)
note-top tops half offset count top p h q = record {
  none = λ z. absurd (omega arith);
  here = λ _. get_or-set_same tops half top None h ∙ q;
  other = λ w ne. get_or-set_other tops half w top None ne;
}
