-- `quotient` meets its contract: the product with the reciprocal is neither too small nor too large.
use Rattle.flash.proofs.Kit.{◌≡◌, ap, ◌∙◌, ℕ, ◌+◌, ◌*◌, ◌/◌, ◌%◌, ◌≤◌, ◌<◌, div-add-mod', mod-lt, div-le_self, le-div_iff_mul-le, mul-le-mul}
use Rattle.flash.proofs.Kit.{mul-le-mul_left, mul-le-mul_right, arith}
use Rattle.flash.specs.inner.Reciprocal.{scale, reciprocal_of}
use Rattle.flash.proofs.quotient.Divisor.quotient.Goals as goal

module _ (x m : ℕ) (small : x < 65536) (some : 1 ≤ m) (fits : m ≤ 64) where
  abbrev q : ℕ
  q = x / m

  abbrev d : ℕ
  d = scale / m

  parts : q * m + x % m ≡ x
  parts = div-add-mod' x m

  whole : d * m + scale % m ≡ scale
  whole = div-add-mod' scale m

  -- the product is not too small
  low : q * scale ≤ x * d + x
  low =
      let e : q * (d * m + scale % m) ≡ q * scale = ap (λ (y : ℕ). q * y) whole in
      let r : q * (scale % m) ≤ q * m = mul-le-mul_left q (omega (arith, mod-lt scale some)) in
      let s : q * m * d ≤ x * d = mul-le-mul_right d (omega (arith, parts)) in
      omega (arith, parts)

  -- nor too large
  high : x * d + x < q * scale + scale
  high =
      let r : (x + 1) * d ≤ (q * m + m) * d = mul-le-mul_right d (omega (arith, parts, mod-lt x some)) in
      let s : (q + 1) * (d * m) ≤ (q + 1) * scale = mul-le-mul_left (q + 1) (omega (arith, whole)) in
      let t : 65536 ≤ d = (le-div_iff_mul-le some).1 (omega arith) in
      omega arith

  quotient_is : x * reciprocal_of m / scale ≡ x / m
  unfolding reciprocal_of
  quotient_is = omega (arith, low, high)

  product-fits : x * reciprocal_of m ≤ 65536 * (scale + 1)
  unfolding reciprocal_of
  product-fits = mul-le-mul {n₁ = x} {m₁ = d + 1} {n₂ = 65536} {m₂ = scale + 1} (omega arith) (omega (arith, div-le_self scale m))

pub overflow_mul-result : goal.overflow_mul-result
overflow_mul-result c =
    let d = c.args.self in
    record { fits = rw d.inverts (omega (arith, product-fits c.args.number d.by c.requires d.in_range.0 d.in_range.1)) }

pub returns : goal.returns
returns c =
    let d = c.args.self in
    ap (λ (y : ℕ). c.args.number * y / scale) d.inverts ∙ quotient_is c.args.number d.by c.requires d.in_range.0 d.in_range.1
