-- The pigeonhole principle, and what it says of a one-to-one map of the numbers below n.
use Rattle.flash.proofs.Kit.{◌≡◌, sym, ap, ◌∙◌, ◌⊎◌, inl, inr, ◌≢◌, ⊎_elim, Bool, true, false, cond, ℕ, zero, suc, ◌≤◌, ◌<◌, not-suc-le-zero, arith}
use Rattle.flash.proofs.Kit.{eqb, ltb, eqb-true, eqb-false, eq-eqb, ne_eqb, lt-ltb, le-ltb}
use Rattle.flash.specs.Lists.{range, first}
use Rattle.flash.proofs.Bools.{bool_cases}
use Rattle.flash.proofs.Ranges.{first-hit}
use Rattle.flash.proofs.Comparisons.{eq-cases, lt-cases}

-- some number below n passes, or none does
pub seek : (p : ℕ → Bool) (n : ℕ) → ((i : ℕ) × (i < n) × (p i ≡ true)) ⊎ ((i : ℕ) → i < n → p i ≡ false)
seek p zero = inr (λ i h. absurd (not-suc-le-zero h))
seek p (suc n) = go (seek p n) (bool_cases (p n))
  where
    go : ((i : ℕ) × (i < n) × (p i ≡ true)) ⊎ ((i : ℕ) → i < n → p i ≡ false) → (p n ≡ true) ⊎ (p n ≡ false)
        → ((i : ℕ) × (i < suc n) × (p i ≡ true)) ⊎ ((i : ℕ) → i < suc n → p i ≡ false)
    go (inl (i, h, e)) c = inl (i, omega arith, e)
    go (inr f) (inl e) = inl (n, omega arith, e)
    go (inr f) (inr e) = inr (λ i h. ⊎_elim
        (λ (q : i ≡ n). rw q e)
        (λ (q : i ≢ n). f i (omega arith))
        (eq-cases i n))

-- two of the numbers 0 to n have the same value
pub record Twice (n : ℕ) (g : ℕ → ℕ) : Type 0 where
  pub one : ℕ
  pub two : ℕ
  pub order : one < two
  pub bound : two ≤ n
  pub same : g one ≡ g two

-- the value n replaced by the value of n + 1
unfoldable squeezed : ℕ → (ℕ → ℕ) → ℕ → ℕ
squeezed n g i = cond (eqb (g i) n) (g (suc n)) (g i)

squeezed-hit : (n : ℕ) (g : ℕ → ℕ) (i : ℕ) → g i ≡ n → squeezed n g i ≡ g (suc n)
unfolding squeezed
squeezed-hit n g i e = rw (eq-eqb (g i) n e)

squeezed-miss : (n : ℕ) (g : ℕ → ℕ) (i : ℕ) → g i ≢ n → squeezed n g i ≡ g i
unfolding squeezed
squeezed-miss n g i e = rw (ne_eqb (g i) n e)

-- n + 1 numbers below n
pub pigeon : (n : ℕ) (g : ℕ → ℕ) → ((i : ℕ) → i ≤ n → g i < n) → Twice n g
pigeon zero g h = absurd (not-suc-le-zero (h 0 (omega arith)))
pigeon (suc n) g h = go (seek (λ i. eqb (g i) (g (suc n))) (suc n)) (pigeon n (squeezed n g))
  where
    go : ((i : ℕ) × (i < suc n) × (eqb (g i) (g (suc n)) ≡ true)) ⊎ ((i : ℕ) → i < suc n → eqb (g i) (g (suc n)) ≡ false)
        → (((i : ℕ) → i ≤ n → squeezed n g i < n) → Twice n (squeezed n g)) → Twice (suc n) g
    go (inl (i, l, e)) r = record { one = i; two = suc n; order = l; bound = omega arith; same = eqb-true (g i) (g (suc n)) e }
    go (inr f) r = done (r small)
      where
        new : (i : ℕ) → i ≤ n → g i ≢ g (suc n)
        new i l = eqb-false (g i) (g (suc n)) (f i (omega arith))

        small : (i : ℕ) → i ≤ n → squeezed n g i < n
        small i l = ⊎_elim
            (λ (e : g i ≡ n). let x = new i l in let y = h (suc n) (omega arith) in rw (squeezed-hit n g i e) (omega arith))
            (λ (e : g i ≢ n). let y = h i (omega arith) in rw (squeezed-miss n g i e) (omega arith))
            (eq-cases (g i) n)

        done : Twice n (squeezed n g) → Twice (suc n) g
        done t =
            record {
              one = t.one;
              two = t.two;
              order = t.order;
              bound = omega arith;
              same = same (eq-cases (g t.one) n)
                  (eq-cases (g t.two) n);
            }
          where
            low : t.one ≤ n
            low = omega arith

            same : (g t.one ≡ n) ⊎ (g t.one ≢ n) → (g t.two ≡ n) ⊎ (g t.two ≢ n) → g t.one ≡ g t.two
            same (inl a) (inl b) = a ∙ sym b
            same (inl a) (inr b) = absurd (new t.two t.bound (cc (squeezed-hit n g t.one a, squeezed-miss n g t.two b)))
            same (inr a) (inl b) = absurd (new t.one low (cc (squeezed-miss n g t.one a, squeezed-hit n g t.two b)))
            same (inr a) (inr b) = cc (squeezed-miss n g t.one a, squeezed-miss n g t.two b)

-- One more value than there are: as many numbers below n, none of them twice, and one apart from them all, do not fit below n.
pub crowded : (n : ℕ) (g : ℕ → ℕ) (extra : ℕ) → extra < n → ((i : ℕ) → i < n → g i < n)
    → ((i j : ℕ) → i < n → j < n → g i ≡ g j → i ≡ j) → ((i : ℕ) → i < n → g i ≢ extra) → ⊥
crowded n g extra h below inj apart = go (pigeon n with-extra with-lt)
  where
    with-extra : ℕ → ℕ
    with-extra i = cond (ltb i n) (g i) extra

    inner : (i : ℕ) → i < n → with-extra i ≡ g i
    inner i l = rw (lt-ltb i n l)

    outer : (i : ℕ) → n ≤ i → with-extra i ≡ extra
    outer i l = rw (le-ltb i n l)

    with-lt : (i : ℕ) → i ≤ n → with-extra i < n
    with-lt i l = ⊎_elim
        (λ (q : i < n). rw (inner i q) (below i q))
        (λ (q : n ≤ i). rw (outer i q) h)
        (lt-cases i n)

    go : Twice n with-extra → ⊥
    go t =
        let a : t.one < n = omega arith in
        ⊎_elim
        (λ (q : t.two < n).
        let e = inj t.one t.two a q (sym (inner t.one a) ∙ t.same ∙ inner t.two q) in
        omega arith)
        (λ (q : n ≤ t.two). apart t.one a (sym (inner t.one a) ∙ t.same ∙ outer t.two q))
        (lt-cases t.two n)

-- a one-to-one map of the numbers below n meets each of them
pub onto : (n : ℕ) (g : ℕ → ℕ) → ((i : ℕ) → i < n → g i < n) → ((i j : ℕ) → i < n → j < n → g i ≡ g j → i ≡ j)
    → (x : ℕ) → x < n → (i : ℕ) × (i < n) × (g i ≡ x)
onto n g below inj x h = ⊎_elim
    (λ (r : (i : ℕ) × (i < n) × (eqb (g i) x ≡ true)). (r.0, r.1, eqb-true (g r.0) x r.2))
    (λ (f : (i : ℕ) → i < n → eqb (g i) x ≡ false). absurd (crowded n g x h below inj (λ i l. eqb-false (g i) x (f i l))))
    (seek (λ i. eqb (g i) x) n)

-- as many numbers that meet each number below n meet no other, and each once
module _ (n : ℕ) (g : ℕ → ℕ) (meets : (x : ℕ) → x < n → (i : ℕ) × (i < n) × (g i ≡ x)) where
  abbrev back : ℕ → ℕ
  back x = first (λ i. eqb (g i) x) (range 0 n) 0

  back_is : (x : ℕ) → x < n → (back x < n) × (g (back x) ≡ x)
  back_is x h =
      let r = meets x h in
      let f = first-hit (λ i. eqb (g i) x) 0 n r.0 0 (omega arith) (omega (arith, r.1)) (eq-eqb (g r.0) x r.2) in
      (omega (arith, f.high), eqb-true _ x f.passes)

  -- where i is met from
  back-onto : (i : ℕ) → i < n → (x : ℕ) × (x < n) × (back x ≡ i)
  back-onto = onto n back (λ x h. (back_is x h).0) (λ x y h l e. sym (back_is x h).1 ∙ ap g e ∙ (back_is y l).1)

  pub inside : (i : ℕ) → i < n → g i < n
  inside i h = let p = back-onto i h in let e = sym (ap g p.2) ∙ (back_is p.0 p.1).1 in omega (arith, p.1)

  pub once : (i j : ℕ) → i < n → j < n → g i ≡ g j → i ≡ j
  once i j h l e =
      let p = back-onto i h in
      let q = back-onto j l in
      sym p.2 ∙ ap back (sym (back_is p.0 p.1).1 ∙ ap g p.2 ∙ e ∙ ap g (sym q.2) ∙ (back_is q.0 q.1).1) ∙ q.2
