-- The definitions of the least y and of the page against the words of the request.
use Rattle.flash.proofs.Kit.{◌≡◌, ◌≢◌, ⊎_elim, true, false, ◌&&◌, not, List, ℕ, ◌+◌, ◌-◌, ◌*◌, ◌≤◌, ◌<◌, arith, eqb, get_or, eqb-true, eqb-false, eq-eqb}
use Rattle.flash.proofs.Kit.{ne_eqb, not-true, not-false}
use Rattle.flash.specs.Lists.{range, any}
use Rattle.flash.proofs.Bools.{never_both, both, fails}
use Rattle.flash.proofs.Comparisons.{eq-cases}
use Rattle.flash.proofs.Ranges.{First, first-hit, first-is, none_is, any-is, any-range-find}
use Rattle.split.specs.OneToOne.{dropped}
use Rattle.split.specs.Drops.{is_dropped}
use Rattle.split.specs.Split.{source_block, dest_block}
use Rattle.split.proofs.DropLaws.{is-kept}
use Rattle.orders.specs.Orders.{block_at, goes, forbids, allows, least_y, forbidding_page}
use Rattle.orders.specs.Claims.{Forbids, Least}

pub kept_entry : (list : List ℕ) (k : ℕ) → is_dropped list k ≡ false → get_or list k 0 ≢ dropped
unfolding is_dropped
kept_entry list k d = eqb-false (get_or list k 0) dropped d

module _ (n m : ℕ) (list order : List ℕ) where
  goes_of : (k j i : ℕ) → is_dropped list k ≡ false → source_block m k ≡ block_at order j → dest_block m list k ≡ block_at order i
      → goes m list order k j i ≡ true
  unfolding goes
  goes_of k j i d s t = rw (d, eq-eqb (source_block m k) (block_at order j) s, eq-eqb (dest_block m list k) (block_at order i) t)

  goes-from : (k j i : ℕ) → goes m list order k j i ≡ true
      → (is_dropped list k ≡ false) × (source_block m k ≡ block_at order j) × (dest_block m list k ≡ block_at order i)
  unfolding goes
  goes-from k j i e =
      let b = both (not (is_dropped list k) && eqb (source_block m k) (block_at order j)) (eqb (dest_block m list k) (block_at order i)) e in
      let a = both (not (is_dropped list k)) (eqb (source_block m k) (block_at order j)) b.0 in
      (not-true (is_dropped list k) a.0, eqb-true (source_block m k) (block_at order j) a.1, eqb-true (dest_block m list k) (block_at order i) b.1)

  -- a page forbids what the definition says, and nothing else
  pub forbids-of : (y k : ℕ) → Forbids n m list order y k → forbids n m list order y k ≡ true
  unfolding forbids
  forbids-of y k F =
      let inner = any-is (λ j. goes m list order k j F.i) (F.i + 2) (n + 1 - (F.i + 2)) F.j F.far (omega (arith, F.far, F.within))
      (goes_of k F.j F.i (is-kept list k F.kept) F.source F.target) in
      any-is (λ i. any (λ j. goes m list order k j i) (range (i + 2) (n + 1 - (i + 2)))) (y + 1) (n - 2 + 1 - (y + 1)) F.i F.above
      (omega (arith, F.above, F.below)) inner

  pub forbids-from : (y k : ℕ) → k < n * m → forbids n m list order y k ≡ true → Forbids n m list order y k
  unfolding forbids
  forbids-from y k h e =
      let a = any-range-find (λ i. any (λ j. goes m list order k j i) (range (i + 2) (n + 1 - (i + 2)))) (y + 1) (n - 2 + 1 - (y + 1)) e in
      let i : ℕ = a.0 in
      let b = any-range-find (λ j. goes m list order k j i) (i + 2) (n + 1 - (i + 2)) a.3 in
      let g = goes-from k b.0 i b.3 in
      record {
        i = i;
        j = b.0;
        above = a.1;
        below = omega (arith, a.1, a.2);
        far = b.1;
        within = omega (arith, b.1, b.2);
        page = h;
        kept = kept_entry list k g.0;
        source = g.1;
        target = g.2;
      }

  -- what forbids a y forbids each lower one
  pub forbids-lower : (x y k : ℕ) → x ≤ y → Forbids n m list order y k → Forbids n m list order x k
  forbids-lower x y k l F = record {
    i = F.i;
    j = F.j;
    above = omega (arith, F.above);
    below = F.below;
    far = F.far;
    within = F.within;
    page = F.page;
    kept = F.kept;
    source = F.source;
    target = F.target;
  }

  allows-of : (y : ℕ) → ((k : ℕ) → Forbids n m list order y k → ⊥) → allows n m list order y ≡ true
  unfolding allows
  allows-of y none =
      rw (none_is (forbids n m list order y) 0 (n * m) (λ k l h. fails (λ e. none k (forbids-from y k (omega arith) e))))

  forbidden-of : (y k : ℕ) → Forbids n m list order y k → allows n m list order y ≡ false
  unfolding allows
  forbidden-of y k F = rw (any-is (forbids n m list order y) 0 (n * m) k (omega arith) (omega (arith, F.page)) (forbids-of y k F))

  -- the least y is known by what it allows and by a page that forbids the one below it
  pub least-is : (y : ℕ) → y ≤ n - 2 → ((k : ℕ) → Forbids n m list order y k → ⊥)
      → (y ≢ 0 → (k : ℕ) × Forbids n m list order (y - 1) k) → least_y n m list order ≡ y
  unfolding least_y
  least-is y h none some = first-is (allows n m list order) 0 (n - 2 + 1 - 0) (n - 2) y (record {
    low = omega arith;
    high = omega arith;
    passes = allows-of y none;
    before = λ x l b.
        let k = some (λ z. absurd (omega arith)) in
        forbidden-of x k.0 (forbids-lower x (y - 1) k.0 (omega arith) k.1);
  })

  pub page-is : (page : ℕ) → least_y n m list order ≢ 0 → Forbids n m list order (least_y n m list order - 1) page
      → ((k : ℕ) → k < page → Forbids n m list order (least_y n m list order - 1) k → ⊥) → forbidding_page n m list order ≡ page
  unfolding forbidding_page
  page-is page ne F lowest =
      let y : ℕ = least_y n m list order in
      rw (ne_eqb (least_y n m list order) 0 ne)
      (first-is (forbids n m list order (y - 1)) 0 (n * m) 0 page (record {
        low = omega arith;
        high = omega (arith, F.page);
        passes = forbids-of (y - 1) page F;
        before = λ k l b. fails (λ e. lowest k b (forbids-from (y - 1) k (omega (arith, F.page)) e));
      }))

  pub no-page : least_y n m list order ≡ 0 → forbidding_page n m list order ≡ 0
  unfolding forbidding_page
  no-page e = rw (eq-eqb (least_y n m list order) 0 e)

  -- n - 2 is always allowed, so that there is a least
  least_first : First (allows n m list order) 0 (n - 2 + 1 - 0) (least_y n m list order)
  unfolding least_y
  least_first = first-hit (allows n m list order) 0 (n - 2 + 1 - 0) (n - 2) (n - 2) (omega arith) (omega arith)
      (allows-of (n - 2) (λ k F. absurd (omega (arith, F.above, F.below))))

  allowed-none : (y k : ℕ) → allows n m list order y ≡ true → Forbids n m list order y k → ⊥
  allowed-none y k e F = never_both e (forbidden-of y k F)

  forbidden-some : (y : ℕ) → allows n m list order y ≡ false → (k : ℕ) × Forbids n m list order y k
  unfolding allows
  forbidden-some y e =
      let a = any-range-find (forbids n m list order y) 0 (n * m) (not-false (any (forbids n m list order y) (range 0 (n * m))) e) in
      (a.0, forbids-from y a.0 (omega (arith, a.2)) a.3)

  -- the lowest page that forbids the next lower y
  page-first : least_y n m list order ≢ 0 → First (forbids n m list order (least_y n m list order - 1)) 0 (n * m) (forbidding_page n m list order)
  unfolding forbidding_page
  page-first ne =
      let y : ℕ = least_y n m list order in
      let s = forbidden-some (y - 1) (least_first.before (y - 1) (omega arith) (omega arith)) in
      rw (ne_eqb (least_y n m list order) 0 ne)
      (first-hit (forbids n m list order (y - 1)) 0 (n * m) s.0 0 (omega arith) (omega (arith, s.1.page)) (forbids-of (y - 1) s.0 s.1))

  pub least-given : Least n m list order (least_y n m list order) (forbidding_page n m list order)
  least-given = record {
    high = omega (arith, least_first.high);
    allowed = λ k. allowed-none (least_y n m list order) k least_first.passes;
    least = λ x l. forbidden-some x (least_first.before x (omega arith) l);
    forbids = λ ne. let f = page-first ne in forbids-from (least_y n m list order - 1) (forbidding_page n m list order) (omega (arith, f.high)) f.passes;
    lowest = λ k l F. ⊎_elim
        (λ (e : least_y n m list order ≡ 0). absurd (omega (arith, no-page e)))
        (λ (ne : least_y n m list order ≢ 0).
        never_both (forbids-of (least_y n m list order - 1) k F) ((page-first ne).before k (omega arith) l))
        (eq-cases (least_y n m list order) 0);
    none = no-page;
  }
