-- The orders by their numbers: each is an order, none is left out, and they stand in dictionary order.
use Rattle.flash.proofs.Kit.{◌≡◌, refl, sym, ap, ap₂, ◌∙◌, ⊎_elim, List, [], ◌∷◌, map, ℕ, zero, suc, ◌+◌, ◌-◌, ◌*◌, ◌/◌, ◌%◌, ◌≤◌, ◌<◌}
use Rattle.flash.proofs.Kit.{not-suc-le-zero, le_of_suc-le-suc, suc-mul, mul-le-mul_right, div-add-mod', div-lt_iff_lt-mul, div-eq_of_lt, mod-eq_of_lt, mod-lt}
use Rattle.flash.proofs.Kit.{mul-add-div_right, mul-add-mod_self_right, mul_assoc, add-mul, zero-add, suc-add, add-one, digits_lt, arith, length, length-map, get_or}
use Rattle.flash.proofs.Comparisons.{lt-cases}
use Rattle.orders.specs.Dictionary.{factorial, leaving, order_at}
use Rattle.orders.specs.Claims.{IsOrder, Precedes, OrdersNumbered}
use Rattle.orders.specs.inner.Search.{order_by}
use Rattle.orders.proofs.OrderLaws.{closing, map_at, leaving-lt, order-more, others, order-less, opened}

pub factorial-some : (n : ℕ) → 1 ≤ factorial n
unfolding factorial
factorial-some zero = omega arith
factorial-some (suc n) = omega (arith, suc-mul n (factorial n), factorial-some n)

pub factorial-next : (n : ℕ) → (n + 1) * factorial n ≡ factorial (n + 1)
unfolding factorial
factorial-next n = rw (add-one n)

factorial-le : (n k : ℕ) → factorial n ≤ factorial (k + n)
factorial-le n zero = rw (zero-add n) (omega arith)
factorial-le n (suc k) = omega (arith, factorial-le n k, grows (k + n), ap factorial (suc-add k n))
  where
    grows : (n : ℕ) → factorial n ≤ factorial (suc n)
    grows n = omega (arith, ap factorial (add-one n), factorial-next n, add-mul n 1 (factorial n))

pub factorial-small : (n : ℕ) → n ≤ 7 → factorial n ≤ 5040
unfolding factorial
factorial-small n h =
    let e : 7 - n + n ≡ 7 = omega arith in
    rw e at (factorial-le n (7 - n))

pub order-length : (n k : ℕ) → length (order_at n k) ≡ n
unfolding order_at
order-length zero k = refl
order-length (suc n) k = ap suc (length-map (order_at n (k % factorial n)) (leaving (k / factorial n + 1)) ∙ order-length n (k % factorial n))

pub each-order : (n k : ℕ) → k < factorial n → IsOrder n (order_at n k)
unfolding factorial order_at
each-order zero k h = record {
  size = refl;
  low = λ i l. absurd (not-suc-le-zero l);
  high = λ i l. absurd (not-suc-le-zero l);
  once = λ i j l. absurd (not-suc-le-zero l);
}
each-order (suc n) k h =
    let q : k / factorial n < suc n = (div-lt_iff_lt-mul (factorial-some n)).1 h in
    order-more n (k / factorial n + 1) (order_at n (k % factorial n)) (omega arith) (omega arith) (each-order n (k % factorial n) (mod-lt k (factorial-some n)))

-- a quotient and a remainder put together
module _ (f q r : ℕ) (l : r < f) where
  pub joined-quotient : (q * f + r) / f ≡ q
  joined-quotient = mul-add-div_right (omega arith) q r ∙ ap (λ (x : ℕ). q + x) (div-eq_of_lt l) ∙ omega arith

  pub joined-remainder : (q * f + r) % f ≡ r
  joined-remainder = mul-add-mod_self_right q f r ∙ mod-eq_of_lt l

found : (n b : ℕ) (rest : List ℕ) (O : IsOrder (suc n) (b ∷ rest)) → (k : ℕ) × (k < factorial n) × (order_at n k ≡ map (closing b) rest)
    → (k : ℕ) × (k < factorial (suc n)) × (order_at (suc n) k ≡ b ∷ rest)
unfolding factorial order_at
found n b rest O K =
    let f : ℕ = factorial n in
    let low : 1 ≤ b = O.low 0 (omega arith) in
    let high : b ≤ suc n = O.high 0 (omega arith) in
    let first : ((b - 1) * f + K.0) / f + 1 ≡ b = omega (arith, joined-quotient f (b - 1) K.0 K.1) in (
      (b - 1) * f + K.0,
      digits_lt {m = suc n} (omega arith) K.1,
      rw (first, joined-remainder f (b - 1) K.0 K.1, K.2) (ap (λ (xs : List ℕ). b ∷ xs) (opened b rest (others n b rest O))),
    )

no_blocks : order_at 0 0 ≡ []
unfolding order_at
no_blocks = refl

pub every-order : (n : ℕ) (order : List ℕ) → IsOrder n order → (k : ℕ) × (k < factorial n) × (order_at n k ≡ order)
every-order zero [] O = (0, factorial-some 0, no_blocks)
every-order zero (b ∷ rest) O = absurd (let s = O.size in omega arith)
every-order (suc n) [] O = absurd (let s = O.size in omega arith)
every-order (suc n) (b ∷ rest) O = found n b rest O (every-order n (map (closing b) rest) (order-less n b rest O))

-- ---- dictionary order
precedes-more : (n b c : ℕ) (xs ys : List ℕ) → b ≡ c → length xs ≡ n → length ys ≡ n → Precedes n xs ys
    → Precedes (suc n) (b ∷ map (leaving b) xs) (c ∷ map (leaving c) ys)
precedes-more n b c xs ys q sx sy P = record {
  place = suc P.place;
  within = omega (arith, P.within);
  same = same;
  smaller =
      let x = map_at (leaving b) xs P.place (omega (arith, P.within)) in
      let y = map_at (leaving c) ys P.place (omega (arith, P.within)) in
      let e = ap (λ (z : ℕ). leaving z (get_or ys P.place 0)) q in
      omega (arith, leaving-lt b (get_or xs P.place 0) (get_or ys P.place 0) P.smaller);
}
  where
    same : (i : ℕ) → i < suc P.place → get_or (b ∷ map (leaving b) xs) i 0 ≡ get_or (c ∷ map (leaving c) ys) i 0
    same zero h = q
    same (suc i) h =
        let l : i < P.place = le_of_suc-le-suc h in
        let w = P.within in
        map_at (leaving b) xs i (omega arith) ∙ ap₂ leaving q (P.same i l) ∙ sym (map_at (leaving c) ys i (omega arith))

module _ (f j k : ℕ) (some : 1 ≤ f) (l : j < k) where
  quotient_le : j / f ≤ k / f
  quotient_le =
      let after : k / f + 1 ≤ j / f → ⊥ = λ h.
      omega (arith, mul-le-mul_right f h, add-mul (k / f) 1 f, div-add-mod' j f, div-add-mod' k f, mod-lt k some) in
      omega arith

  remainder-lt : j / f ≡ k / f → j % f < k % f
  remainder-lt e = omega (arith, ap (λ (q : ℕ). q * f) e, div-add-mod' j f, div-add-mod' k f)

pub rising-orders : (n j k : ℕ) → j < k → k < factorial n → Precedes n (order_at n j) (order_at n k)
unfolding factorial order_at
rising-orders zero j k l h = absurd (omega arith)
rising-orders (suc n) j k l h =
    let some = factorial-some n in
    let le : j / factorial n ≤ k / factorial n = quotient_le (factorial n) j k some l in
    ⊎_elim
    (λ (lt : j / factorial n < k / factorial n).
    record { place = 0; within = omega arith; same = λ i z. absurd (not-suc-le-zero z); smaller = omega arith })
    (λ (ge : k / factorial n ≤ j / factorial n).
    let e : j / factorial n ≡ k / factorial n = omega arith in
    precedes-more n (j / factorial n + 1) (k / factorial n + 1) _ _ (omega arith) (order-length n (j % factorial n)) (order-length n (k % factorial n))
    (rising-orders n (j % factorial n) (k % factorial n) (remainder-lt (factorial n) j k some l e) (mod-lt k some)))
    (lt-cases (j / factorial n) (k / factorial n))

pub orders-numbered : OrdersNumbered
orders-numbered = record { each = each-order; every = every-order; rising = rising-orders }

-- ---- the code's digits
-- the remainder by a product, from a quotient's own remainder
remainder_by : (c f k : ℕ) → 1 ≤ c → 1 ≤ f → k % (c * f) ≡ k / f % c * f + k % f
remainder_by c f k some-c some =
    let q : ℕ = k / f in
    let d : ℕ = q % c in
    let whole : q / c * (c * f) + (d * f + k % f) ≡ k =
    omega (arith, div-add-mod' k f, ap (λ (x : ℕ). x * f) (div-add-mod' q c), add-mul (q / c * c) d f, mul_assoc (q / c) c f) in
    let low : d * f + k % f < c * f = digits_lt (mod-lt q some-c) (mod-lt k some) in
    ap (λ (x : ℕ). x % (c * f)) (sym whole) ∙ mul-add-mod_self_right (q / c) (c * f) (d * f + k % f) ∙ mod-eq_of_lt low

pub by-remainder : (n k : ℕ) → order_by n k ≡ order_at n (k % factorial n)
unfolding factorial order_by order_at
by-remainder zero k = refl
by-remainder (suc n) k =
    let f : ℕ = factorial n in
    let some = factorial-some n in
    let r = remainder_by (suc n) f k (omega arith) some in
    let l = mod-lt k some in
    rw (r, joined-quotient f (k / f % suc n) (k % f) l, joined-remainder f (k / f % suc n) (k % f) l, by-remainder n k)

pub by_digits : (n k : ℕ) → k < factorial n → order_by n k ≡ order_at n k
by_digits n k h = by-remainder n k ∙ ap (order_at n) (mod-eq_of_lt h)
