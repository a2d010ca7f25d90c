-- The pass over the pages, by the places of the blocks, finds the least y and its page.
use Rattle.flash.proofs.Kit.{◌≡◌, refl, sym, ap, ◌∙◌, ◌≢◌, ⊎_elim, true, false, List, ℕ, ◌+◌, ◌-◌, ◌*◌, ◌≤◌, ◌<◌, arith, length, get_or}
use Rattle.flash.proofs.Kit.{le-leb, lt-leb, ◌/◌, below_more}
use Rattle.flash.proofs.Bools.{bool_cases}
use Rattle.flash.proofs.Comparisons.{eq-cases, lt-cases}
use Rattle.split.specs.Drops.{is_dropped}
use Rattle.split.specs.Split.{source_block, dest_block}
use Rattle.split.proofs.DropLaws.{is-kept}
use Rattle.orders.specs.Orders.{block_at, least_y, forbidding_page}
use Rattle.orders.specs.Claims.{Forbids}
use Rattle.orders.specs.inner.Places.{Placed, back_to, Surveyed}
use Rattle.orders.specs.declared.survey.Least.{Least}
use Rattle.orders.proofs.LeastLaws.{kept_entry, least-is, page-is, no-page}

module _ (m : ℕ) (list places : List ℕ) where
  abbrev source : ℕ → ℕ
  source k = get_or places (source_block m k) 0

  abbrev target : ℕ → ℕ
  target k = get_or places (dest_block m list k) 0

  pub back-dropped : (k : ℕ) → is_dropped list k ≡ true → 0 ≡ back_to m list places k
  unfolding back_to
  back-dropped k e = rw e

  pub back-far : (k : ℕ) → is_dropped list k ≡ false → target k + 2 ≤ source k → target k ≡ back_to m list places k
  unfolding back_to
  back-far k e h = rw (e, le-leb (target k + 2) (source k) h)

  pub back-near : (k : ℕ) → is_dropped list k ≡ false → source k < target k + 2 → 0 ≡ back_to m list places k
  unfolding back_to
  back-near k e h = rw (e, lt-leb (target k + 2) (source k) h)

  -- the same by the quotients that the code has
  module _ (k q r : ℕ) (to : q ≡ get_or list k 0 / m) (from : r ≡ k / m) (kept : is_dropped list k ≡ false) where
    pub near-is : get_or places (r + 1) 0 < get_or places (q + 1) 0 + 2 → 0 ≡ back_to m list places k
    unfolding source_block dest_block
    near-is h = back-near k kept (omega (arith, ap (λ (x : ℕ). get_or places (x + 1) 0) to, ap (λ (x : ℕ). get_or places (x + 1) 0) from))

    pub far-is : get_or places (q + 1) 0 + 2 ≤ get_or places (r + 1) 0 → get_or places (q + 1) 0 ≡ back_to m list places k
    unfolding source_block dest_block
    far-is h =
        let a = ap (λ (x : ℕ). get_or places (x + 1) 0) to in
        a ∙ back-far k kept (omega (arith, a, ap (λ (x : ℕ). get_or places (x + 1) 0) from))

  -- a page that goes back
  back_is : (k : ℕ) → back_to m list places k ≢ 0 → (is_dropped list k ≡ false) × (target k + 2 ≤ source k) × (target k ≡ back_to m list places k)
  back_is k ne = ⊎_elim
      (λ (d : is_dropped list k ≡ true). absurd (ne (sym (back-dropped k d))))
      (λ (d : is_dropped list k ≡ false). ⊎_elim
      (λ (h : source k < target k + 2). absurd (ne (sym (back-near k d h))))
      (λ (h : target k + 2 ≤ source k). (d, h, back-far k d h))
      (lt-cases (source k) (target k + 2)))
      (bool_cases (is_dropped list k))

  -- ---- the pass, one page more
  pub none-surveyed : Surveyed m list places 0 (record { y = 0; page = 0 })
  none-surveyed = record { most = λ k h. absurd (omega arith); met = λ ne. absurd (ne refl); first = λ k h. absurd (omega arith); none = λ e. refl }

  module _ (k : ℕ) (found : Least) (S : Surveyed m list places k found) where
    pub surveyed-higher : (place : ℕ) → place ≡ back_to m list places k → found.y < place → Surveyed m list places (k + 1) (record { y = place; page = k })
    surveyed-higher place is h = record {
      most = below_more (λ j. back_to m list places j ≤ place) k (λ j l. omega (arith, S.most j l)) (omega arith);
      met = λ ne. (omega arith, sym is);
      first = λ j l. omega (arith, S.most j l);
      none = λ e. absurd (omega arith);
    }

    pub surveyed-same : (place : ℕ) → place ≡ back_to m list places k → place ≤ found.y → Surveyed m list places (k + 1) found
    surveyed-same place is h = record {
      most = below_more (λ j. back_to m list places j ≤ found.y) k S.most (omega arith);
      met = λ ne. (let f = S.met ne in (omega (arith, f.0), f.1));
      first = S.first;
      none = S.none;
    }

  module _ (n : ℕ) (order : List ℕ) (P : Placed order n places) (few : length list ≡ n * m) where
    back-forbids : (k : ℕ) → k < n * m → back_to m list places k ≢ 0 → Forbids n m list order (back_to m list places k - 1) k
    back-forbids k h ne =
        let b = back_is k ne in
        let to = P.names (dest_block m list k) (omega (arith, b.2)) in
        let from = P.names (source_block m k) (omega (arith, b.1)) in
        record {
          i = target k;
          j = source k;
          above = omega (arith, b.2);
          below = omega (arith, b.1, from.0);
          far = b.1;
          within = from.0;
          page = h;
          kept = kept_entry list k b.0;
          source = sym from.1;
          target = sym to.1;
        }

    forbids-back : (y k : ℕ) → Forbids n m list order y k → y < back_to m list places k
    forbids-back y k F =
        let i : get_or places (block_at order F.i) 0 ≡ F.i - 1 + 1 = P.at (F.i - 1) (omega (arith, F.above, F.below)) in
        let j : get_or places (block_at order F.j) 0 ≡ F.j - 1 + 1 = P.at (F.j - 1) (omega (arith, F.far, F.within)) in
        let to : target k ≡ F.i - 1 + 1 = ap (λ (b : ℕ). get_or places b 0) F.target ∙ i in
        let from : source k ≡ F.j - 1 + 1 = ap (λ (b : ℕ). get_or places b 0) F.source ∙ j in
        let is = back-far k (is-kept list k F.kept) (omega (arith, F.far, F.above)) in
        omega (arith, F.above)

    module _ (found : Least) (S : Surveyed m list places (n * m) found) where
      pub least-found : least_y n m list order ≡ found.y
      least-found = least-is n m list order found.y high (λ k F. absurd (omega (arith, S.most k F.page, forbids-back found.y k F))) some
        where
          some : found.y ≢ 0 → (k : ℕ) × Forbids n m list order (found.y - 1) k
          some ne =
              let f = S.met ne in
              (found.page, rw f.1 at (back-forbids found.page f.0 (λ z. ne (sym f.1 ∙ z))))

          high : found.y ≤ n - 2
          high = ⊎_elim
              (λ (e : found.y ≡ 0). omega arith)
              (λ (ne : found.y ≢ 0). let F = (some ne).1 in omega (arith, F.above, F.below))
              (eq-cases found.y 0)

      pub page-found : forbidding_page n m list order ≡ found.page
      page-found = ⊎_elim
          (λ (e : found.y ≡ 0). no-page n m list order (least-found ∙ e) ∙ sym (S.none e))
          (λ (ne : found.y ≢ 0).
          let f = S.met ne in
          page-is n m list order found.page (λ z. ne (sym least-found ∙ z))
          (rw (least-found, ← f.1) (back-forbids found.page f.0 (λ z. ne (sym f.1 ∙ z))))
          (λ k l F. absurd (omega (arith, S.first k l, forbids-back (least_y n m list order - 1) k F, least-found))))
          (eq-cases found.y 0)
