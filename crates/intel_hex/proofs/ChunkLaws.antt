-- The weight of a record by that of its parts, where its 16 bytes are weighed as a chunk.
use Rattle.flash.proofs.Kit.{◌≡◌, refl, sym, ap, ◌∙◌, ⊎_elim, List, ℕ, zero, suc, ◌+◌, ◌*◌, ◌≤◌, ◌<◌, arith, add-one, true, false, cond, get_or}
use Rattle.flash.proofs.Bools.{bool_cases}
use Rattle.flash.proofs.Comparisons.{lt-cases}
use Rattle.intel_hex.specs.Reading.{is_digit}
use Rattle.intel_hex.specs.inner.Lines.{weight_from, others_from, Weighs, AreDigits}
use Rattle.intel_hex.proofs.WeightLaws.{weigh-digits}

pub one-digit : (code : ℕ) → is_digit code ≡ true → ◌≡◌ {A = ℕ} 0 (cond (is_digit code) 0 1)
one-digit code e = rw e

pub one-other : (code : ℕ) → is_digit code ≡ false → ◌≡◌ {A = ℕ} 1 (cond (is_digit code) 0 1)
one-other code e = rw e

module _ (text : List ℕ) (from : ℕ) where
  -- ---- codes that are no digit
  pub others-more : (i count one : ℕ) → count ≡ others_from text from i → one ≡ cond (is_digit (get_or text (from + i) 0)) 0 1
      → count + one ≡ others_from text from (i + 1)
  unfolding others_from
  others-more i count one e f = rw (e, f, add-one i)

  pub others-few : (k : ℕ) → others_from text from k ≤ k
  unfolding others_from
  others-few zero = omega arith
  others-few (suc k) =
      ⊎_elim
      (λ (e : is_digit (get_or text (from + k) 0) ≡ true). rw e (omega (arith, others-few k)))
      (λ (e : is_digit (get_or text (from + k) 0) ≡ false). rw e (omega (arith, others-few k)))
      (bool_cases (is_digit (get_or text (from + k) 0)))

  digits-none : (k : ℕ) → AreDigits text from k → others_from text from k ≡ 0
  unfolding others_from
  digits-none zero D = refl
  digits-none (suc k) D = rw (D k (omega arith)) (omega (arith, digits-none k (λ i h. D i (omega arith))))

  pub none-digits : (k : ℕ) → others_from text from k ≡ 0 → AreDigits text from k
  unfolding others_from
  none-digits zero e i h = absurd (omega arith)
  none-digits (suc k) e i h =
      ⊎_elim
      (λ (l : i < k). none-digits k (omega arith) i l)
      (λ (l : k ≤ i).
      let s : i ≡ k = omega arith in
      ⊎_elim
      (λ (t : is_digit (get_or text (from + k) 0) ≡ true). ap (λ (x : ℕ). is_digit (get_or text (from + x) 0)) s ∙ t)
      (λ (f : is_digit (get_or text (from + k) 0) ≡ false). absurd (omega (arith, rw f at e)))
      (bool_cases (is_digit (get_or text (from + k) 0))))
      (lt-cases i k)

  -- ---- a sum that is the weight, and one that is not worked out
  pub weighs-all : (k sum : ℕ) → sum ≡ weight_from text from k → Weighs (weight_from text from k) sum
  weighs-all k sum e = record { light = λ _. e; heavy = λ h. omega (arith, e) }

  pub weighs-other : (k : ℕ) → (others_from text from (2 * k) ≡ 0 → ⊥) → Weighs (weight_from text from k) 131072
  weighs-other k f = record {
    light = λ h. absurd (omega arith);
    heavy = λ _. ⊎_elim
        (λ (l : weight_from text from k < 131072). absurd (f (digits-none (2 * k) (weigh-digits text from k l))))
        (λ (l : 131072 ≤ weight_from text from k). l)
        (lt-cases (weight_from text from k) 131072);
  }

  -- ---- parts
  weight-append : (a b : ℕ) → weight_from text from (a + b) ≡ weight_from text from a + weight_from text (from + 2 * a) b
  unfolding weight_from
  weight-append a zero =
      let e : a + 0 ≡ a = omega arith in
      rw e (omega arith)
  weight-append a (suc b) =
      let e : a + suc b ≡ suc (a + b) = omega arith in
      let p : from + 2 * (a + b) ≡ from + 2 * a + 2 * b = omega arith in
      rw (e, p) (omega (arith, weight-append a b))

  pub weighs-parts : (head bytes check : ℕ) → head ≡ weight_from text from 4 → Weighs (weight_from text (from + 8) 16) bytes
      → check ≡ weight_from text (from + 40) 1 → Weighs (weight_from text from 21) (head + bytes + check)
  weighs-parts head bytes check h W c =
      let e : weight_from text from 21 ≡ weight_from text from 4 + weight_from text (from + 8) 16 + weight_from text (from + 40) 1 =
      weight-append 20 1 ∙ ap (λ (x : ℕ). x + weight_from text (from + 40) 1) (weight-append 4 16) in
      record {
        light = λ l. rw (h, W.light (omega arith), c) (sym e);
        heavy = λ l.
            ⊎_elim
            (λ (q : bytes < 131072). omega (arith, e, W.light q))
            (λ (q : 131072 ≤ bytes). omega (arith, e, W.heavy q))
            (lt-cases bytes 131072);
      }
