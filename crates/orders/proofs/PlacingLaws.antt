-- The places of the blocks, put one by one, tell whether an order has each block once.
use Rattle.flash.proofs.Kit.{◌≡◌, sym, ap, ◌∙◌, ◌≢◌, ⊎_elim, true, false, ◌||◌, List, ℕ, ◌+◌, ◌-◌, ◌≤◌, ◌<◌, arith, ltb, length, get_or, set, replicate, length-replicate}
use Rattle.flash.proofs.Kit.{length-set, get_or-set_same, get_or-set_other, ltb-true, below_more}
use Rattle.flash.proofs.Bools.{bool_cases, or_cases}
use Rattle.flash.proofs.Comparisons.{eq-cases}
use Rattle.split.proofs.MaskLaws.{zeros-at}
use Rattle.orders.specs.Orders.{bad_order}
use Rattle.orders.specs.inner.Places.{Placed}
use Rattle.orders.proofs.OrderLaws.{good-order, is-order}

-- after the first `count` of the order
pub record Placing (n : ℕ) (order : List ℕ) (count : ℕ) (places : List ℕ) : Type 0 where
  pub placed : Placed order count places
  pub low : (i : ℕ) → i < count → 1 ≤ get_or order i 0
  pub high : (i : ℕ) → i < count → get_or order i 0 ≤ n
  pub within : count ≤ length order

module _ (n : ℕ) (order : List ℕ) where
  pub none-placed : (places : List ℕ) → places ≡ replicate 65 0 → Placing n order 0 places
  none-placed places e = record {
    placed = record {
      size = rw e (length-replicate {A = ℕ} 65 0);
      at = λ i h. absurd (omega arith);
      names = λ block h. (let z : get_or places block 0 ≡ 0 = rw e (zeros-at 65 block) in absurd (omega arith));
    };
    low = λ i h. absurd (omega arith);
    high = λ i h. absurd (omega arith);
    within = omega arith;
  }

  refuted : (bad_order n order ≡ false → ⊥) → bad_order n order ≡ true
  refuted f = ⊎_elim (λ (b : bad_order n order ≡ true). b) (λ (b : bad_order n order ≡ false). absurd (f b)) (bool_cases (bad_order n order))

  module _ (size : length order ≡ n) (few : n ≤ 64) (i : ℕ) (places : List ℕ) (P : Placing n order i places) where
    pub outside : i < length order → (ltb (get_or order i 0) 1 || ltb n (get_or order i 0)) ≡ true → bad_order n order ≡ true
    outside h e = refuted (λ good.
        let O = is-order n order size good in
        ⊎_elim
        (λ (l : ltb (get_or order i 0) 1 ≡ true). absurd (omega (arith, ltb-true (get_or order i 0) 1 l, O.low i (omega arith))))
        (λ (l : ltb n (get_or order i 0) ≡ true). absurd (omega (arith, ltb-true n (get_or order i 0) l, O.high i (omega arith))))
        (or_cases (ltb (get_or order i 0) 1) (ltb n (get_or order i 0)) e))

    pub repeated : i < length order → 0 < get_or places (get_or order i 0) 0 → bad_order n order ≡ true
    repeated h l = refuted (λ good.
        let O = is-order n order size good in
        let r = P.placed.names (get_or order i 0) (omega arith) in
        let z : get_or places (get_or order i 0) 0 - 1 ≡ i = O.once (get_or places (get_or order i 0) 0 - 1) i (omega (arith, r.0)) (omega arith) r.1 in
        absurd (omega (arith, r.0)))

    pub placed-more : i < length order → 1 ≤ get_or order i 0 → get_or order i 0 ≤ n → get_or places (get_or order i 0) 0 ≤ 0
        → Placing n order (i + 1) (set places (get_or order i 0) (i + 1))
    placed-more h low high free =
        let block : ℕ = get_or order i 0 in
        let fits : block < length places = omega (arith, P.placed.size) in
        let here = get_or-set_same places block (i + 1) 0 fits in record {
          placed = record {
            size = length-set places block (i + 1) ∙ P.placed.size;
            at = below_more (λ k. get_or (set places block (i + 1)) (get_or order k 0) 0 ≡ k + 1) i
                (λ k l.
                let was = P.placed.at k l in
                get_or-set_other places block (get_or order k 0) (i + 1) 0 (λ q. absurd (omega (arith, ap (λ (b : ℕ). get_or places b 0) q))) ∙ was)
                here;
            names = λ b l. ⊎_elim
                (λ (q : b ≡ block).
                let v : get_or (set places block (i + 1)) b 0 ≡ i + 1 = ap (λ (x : ℕ). get_or (set places block (i + 1)) x 0) q ∙ here in
                let z : get_or (set places block (i + 1)) b 0 - 1 ≡ i = omega arith in
                (omega arith, ap (λ (x : ℕ). get_or order x 0) z ∙ sym q))
                (λ (q : b ≢ block).
                let v : get_or (set places block (i + 1)) b 0 ≡ get_or places b 0 = get_or-set_other places block b (i + 1) 0 q in
                let r = P.placed.names b (omega arith) in
                (omega (arith, r.0), ap (λ (x : ℕ). get_or order (x - 1) 0) v ∙ r.1))
                (eq-cases b block);
          };
          low = below_more (λ k. 1 ≤ get_or order k 0) i P.low low;
          high = below_more (λ k. get_or order k 0 ≤ n) i P.high high;
          within = omega arith;
        }

    -- all are placed
    pub placed-all : length order ≤ i → (bad_order n order ≡ false) × Placed order n places
    placed-all h =
        let e : i ≡ n = omega (arith, P.within) in (
          good-order n order (record {
            size = size;
            low = λ k l. P.low k (omega arith);
            high = λ k l. P.high k (omega arith);
            once = λ j k a b q. (let x = P.placed.at j (omega arith) in let y = P.placed.at k (omega arith) in
                omega (arith, ap (λ (block : ℕ). get_or places block 0) q));
          }),
          rw e at P.placed,
        )
