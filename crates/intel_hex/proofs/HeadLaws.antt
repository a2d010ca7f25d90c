-- The head of a record: what makes it good, and where its fields stand once it is.
use Rattle.flash.proofs.Kit.{◌≡◌, refl, sym, ap, ◌∙◌, ⊎_elim, Bool, false, List, ℕ, ◌+◌, ◌*◌, ◌%◌, ◌≤◌, ◌<◌, arith, eq-eqb, ne_eqb}
use Rattle.flash.proofs.Bools.{never_both}
use Rattle.flash.proofs.Comparisons.{eq-cases}
use Rattle.intel_hex.specs.Reading.{is_type}
use Rattle.intel_hex.specs.inner.Lines.{weight_from, word_from, size_at, address_at, kind_at, AreDigits, Weighs, Framed, Good, GoodIs}
use Rattle.intel_hex.specs.inner.Passes.{half_at, offset_at, count_at}
use Rattle.intel_hex.proofs.WeightLaws.{digits-part, digits-weigh, weigh-digits, byte-weight, byte_small}
use Rattle.intel_hex.proofs.LineLaws.{type-upper}

module _ (text : List ℕ) (at : ℕ) where
  pub not_good : (Good text at → ⊥) → GoodIs text at false
  not_good f = record { good = λ e. absurd (never_both e refl); bad = λ _. f }

  -- ---- of a record that is good
  module _ (G : Good text at) where
    part : (from count : ℕ) → at + 1 ≤ from → from + count ≤ at + 11 + 2 * size_at text at → AreDigits text from count
    part from count l h = digits-part text (at + 1) (10 + 2 * size_at text at) G.digits from count l (omega arith)

    pub size-digits : AreDigits text (at + 1) 2
    size-digits = part (at + 1) 2 (omega arith) (omega arith)

    pub address-digits : AreDigits text (at + 3) 4
    address-digits = part (at + 3) 4 (omega arith) (omega arith)

    pub kind-digits : AreDigits text (at + 7) 2
    kind-digits = part (at + 7) 2 (omega arith) (omega arith)

    pub data-digits : (count : ℕ) → count ≤ size_at text at → AreDigits text (at + 9) (2 * count)
    data-digits count h = part (at + 9) (2 * count) (omega arith) (omega arith)

    pub two_bytes : kind_at text at ≡ 4 → size_at text at ≡ 2
    two_bytes k = type-upper (kind_at text at) (address_at text at) (size_at text at) G.known k

    pub upper_digits : kind_at text at ≡ 4 → AreDigits text (at + 9) 4
    upper_digits k = part (at + 9) 4 (omega arith) (omega (arith, two_bytes k))

    pub size_small : size_at text at ≤ 255
    size_small = byte_small text (at + 1) size-digits

    pub first-light : weight_from text (at + 1) 1 ≤ 255
    first-light = omega (arith, byte-weight text (at + 1) size-digits, size_small)

    pub all-light : weight_from text (at + 1) (5 + size_at text at) < 131072
    all-light = omega (arith, digits-weigh text (at + 1) (5 + size_at text at) (λ i h. G.digits i (omega arith)), size_small)

  -- ---- of one that is judged
  pub first-is : (first size : ℕ) → first ≡ weight_from text (at + 1) 1 → first ≤ 255 → size ≡ first → size ≡ size_at text at
  first-is first size e h s =
      s ∙ e ∙ byte-weight text (at + 1) (weigh-digits text (at + 1) 1 (omega arith))

  module _ (size sum : ℕ) (F : Framed text at size) (W : Weighs (weight_from text (at + 1) (5 + size)) sum) where
    weight_is : weight_from text (at + 1) (5 + size) ≡ weight_from text (at + 1) (5 + size_at text at)
    weight_is = ap (λ (x : ℕ). weight_from text (at + 1) (5 + x)) F.size_is

    pub too-heavy : 131072 ≤ sum → GoodIs text at false
    too-heavy h = not_good (λ G. omega (arith, W.heavy h, weight_is, all-light G))

    module _ (light : sum < 131072) where
      sum_is : sum ≡ weight_from text (at + 1) (5 + size_at text at)
      sum_is = W.light light ∙ weight_is

      pub uneven : (sum % 256 ≡ 0 → ⊥) → GoodIs text at false
      uneven f = not_good (λ G. f (ap (λ (x : ℕ). x % 256) sum_is ∙ G.sums))

      pub framed-digits : (from count : ℕ) → at + 1 ≤ from → from + count ≤ at + 11 + 2 * size → AreDigits text from count
      framed-digits from count l h =
          digits-part text (at + 1) (2 * (5 + size)) (weigh-digits text (at + 1) (5 + size) (omega (arith, W.light light))) from count l (omega arith)

      pub sound-is : sum % 256 ≡ 0 → (kind address : ℕ) (r : Bool) → kind ≡ kind_at text at → address ≡ address_at text at → r ≡ is_type kind address size → GoodIs text at r
      sound-is mult kind address r k a t =
          let e : r ≡ is_type (kind_at text at) (address_at text at) (size_at text at) = t ∙ rw (k, a, F.size_is) in
          record {
            good = λ yes. record {
              colon = F.colon;
              inside = rw F.size_is at F.inside;
              ends = rw F.size_is at F.ends;
              digits = rw F.size_is at (framed-digits (at + 1) (10 + 2 * size) (omega arith) (omega arith));
              sums = ap (λ (x : ℕ). x % 256) (sym sum_is) ∙ mult;
              known = sym e ∙ yes;
            };
            bad = λ no G. never_both G.known (sym e ∙ no);
          }

  -- ---- what a record does, by its type
  pub half-upper : (upper : ℕ) → kind_at text at ≡ 4 → half_at text at upper ≡ word_from text (at + 9)
  unfolding half_at
  half-upper upper k = rw (eq-eqb (kind_at text at) 4 k)

  pub half-data : (upper : ℕ) → (kind_at text at ≡ 4 → ⊥) → half_at text at upper ≡ upper
  unfolding half_at
  half-data upper k = rw (ne_eqb (kind_at text at) 4 k)

  pub offset-upper : (upper : ℕ) → kind_at text at ≡ 4 → offset_at text at upper ≡ 0
  unfolding offset_at
  offset-upper upper k = rw (eq-eqb (kind_at text at) 4 k)

  pub offset-data : (upper : ℕ) → (kind_at text at ≡ 4 → ⊥) → offset_at text at upper ≡ upper * 65536 + address_at text at
  unfolding offset_at
  offset-data upper k = rw (ne_eqb (kind_at text at) 4 k)

  pub count-upper : kind_at text at ≡ 4 → count_at text at ≡ 0
  unfolding count_at
  count-upper k = rw (eq-eqb (kind_at text at) 4 k)

  pub count-data : (kind_at text at ≡ 4 → ⊥) → count_at text at ≡ size_at text at
  unfolding count_at
  count-data k = rw (ne_eqb (kind_at text at) 4 k)

  pub count-size : count_at text at ≤ size_at text at
  count-size =
      ⊎_elim
      (λ (k : kind_at text at ≡ 4). omega (arith, count-upper k))
      (λ (k : kind_at text at ≡ 4 → ⊥). omega (arith, count-data k))
      (eq-cases (kind_at text at) 4)
