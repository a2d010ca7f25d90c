-- Laws of the sizes: their bounds, and where blocks and slots end. They show what the functions of this crate require.
use Rattle.flash.proofs.Kit.{◌≡◌, true, ℕ, ◌+◌, ◌*◌, ◌≤◌, ◌<◌, mul_assoc, mul-le-mul, arith, digits_lt, leb-true, ltb-true, le-leb, lt-ltb}
use Rattle.flash.specs.declared.sizes.Sizes.{Sizes}
use Rattle.flash.specs.Geometry.{is_letter, in_range, Bounds, slot, slot_count, store_len}
use Rattle.flash.proofs.Bools.{both}
use Rattle.flash.proofs.Parts.{part-fits}

pub in-range : (Z : Sizes) → in_range Z ≡ true → Bounds Z
unfolding in_range is_letter
in-range Z e =
    let s = both _ _ e in
    let p = both _ _ s.0 in
    let p-low = both _ _ p.0 in
    let m = both _ _ p-low.0 in
    let m-low = both _ _ m.0 in
    let n = both _ _ m-low.0 in
    record {
      n-low = leb-true _ _ n.0;
      n-high = leb-true _ _ n.1;
      m-low = leb-true _ _ m-low.1;
      m-high = leb-true _ _ m.1;
      p-low = leb-true _ _ p-low.1;
      p-high = leb-true _ _ p.1;
      s-high = ltb-true _ _ s.1;
    }

pub range-in : (Z : Sizes) → Bounds Z → in_range Z ≡ true
unfolding in_range is_letter
range-in Z B =
    rw (le-leb _ _ B.n-low, le-leb _ _ B.n-high, le-leb _ _ B.m-low, le-leb _ _ B.m-high, le-leb _ _ B.p-low, le-leb _ _ B.p-high)
    (lt-ltb _ _ B.s-high)

-- a product of bounded numbers
pub product_le : (a b : ℕ) {c d : ℕ} → a ≤ c → b ≤ d → a * b ≤ c * d
product_le a b h k = mul-le-mul h k

module _ (Z : Sizes) where
  open Z use {n, m, p as P}

  pub block-in-marks : (block : ℕ) → block ≤ n → block * m + m ≤ slot_count Z
  block-in-marks block h = part-fits block (n + 1) m (omega arith)

  pub block-in-store : (block : ℕ) → block ≤ n → block * (m * P) + m * P ≤ store_len Z
  block-in-store block h = rw mul_assoc (part-fits block (n + 1) (m * P) (omega arith))

  pub slot-in-marks : (block page : ℕ) → block ≤ n → page < m → slot m block page < slot_count Z
  slot-in-marks block page h k = digits_lt (omega arith) k

  pub slot-in-store : (t : ℕ) → t < slot_count Z → t * P + P ≤ store_len Z
  slot-in-store t h = part-fits t (slot_count Z) P h
