-- The table of who sends to whom gives the y of an order.
use Rattle.flash.proofs.Kit.{◌≡◌, refl, sym, ap, ap₂, ◌∙◌, ◌≢◌, ⊎_elim, Bool, true, false, ◌||◌, or-true, List, ℕ, zero, suc, ◌+◌, ◌-◌, ◌*◌, ◌/◌, ◌≤◌, ◌<◌}
use Rattle.flash.proofs.Kit.{div-lt_iff_lt-mul, arith, eqb, length, get_or, eqb-true, eq-eqb, below_more, replicate, take, drop, take_all, length-drop, get_or-drop}
use Rattle.flash.specs.Lists.{down_from, first}
use Rattle.flash.proofs.Bools.{bool_cases, never_both, or_cases}
use Rattle.flash.proofs.Comparisons.{eq-cases}
use Rattle.flash.proofs.Ranges.{any-is, any-range-find}
use Rattle.split.specs.Drops.{is_dropped}
use Rattle.split.specs.Split.{source_block, dest_block}
use Rattle.split.specs.inner.Mask.{is_marked}
use Rattle.split.proofs.DropLaws.{is-kept}
use Rattle.split.proofs.MarkLaws.{unmarked}
use Rattle.orders.specs.Orders.{least_y}
use Rattle.orders.specs.Claims.{Forbids}
use Rattle.orders.specs.inner.Places.{Surveyable}
use Rattle.orders.specs.inner.Table.{cell, Sends, Short, is_sent_from, is_sent, y_by}
use Rattle.orders.proofs.LeastLaws.{kept_entry, least-is}

-- what stands from a position on, and a block of it
pub length-tail : (order : List ℕ) (at : ℕ) → length (take (length order - at) (drop at order)) ≡ length order - at
length-tail order at = rw (take_all (length order - at) (drop at order) (omega (arith, length-drop at order))) (length-drop at order)

pub tail_at : (order : List ℕ) (at i : ℕ) → get_or (take (length order - at) (drop at order)) i 0 ≡ get_or order (at + i) 0
tail_at order at i = rw (take_all (length order - at) (drop at order) (omega (arith, length-drop at order))) (get_or-drop at order i 0)

-- ---- a search from n down to 1
pub record Highest (test : ℕ → Bool) (n r : ℕ) : Type 0 where
  pub high : r ≤ n
  pub passes : r ≢ 0 → test r ≡ true
  pub above : (i : ℕ) → r < i → i ≤ n → test i ≡ false

pub highest : (test : ℕ → Bool) (n : ℕ) → Highest test n (first test (down_from n) 0)
unfolding down_from first
highest test zero = record { high = omega arith; passes = λ ne. absurd (ne refl); above = λ i l h. absurd (omega arith) }
highest test (suc n) = ⊎_elim
    (λ (e : test (suc n) ≡ true). rw e (record { high = omega arith; passes = λ ne. e; above = λ i l h. absurd (omega arith) }))
    (λ (e : test (suc n) ≡ false).
    let H = highest test n in
    rw e (record {
      high = omega (arith, H.high);
      passes = H.passes;
      above = λ i l h. ⊎_elim
          (λ (q : i ≡ suc n). rw q e)
          (λ (q : i ≢ suc n). H.above i l (omega arith))
          (eq-cases i (suc n));
    }))
    (bool_cases (test (suc n)))

pub down-hit : (test : ℕ → Bool) (i : ℕ) → 0 < i → test i ≡ true → first test (down_from i) 0 ≡ i
unfolding down_from first
down-hit test zero h e = absurd (omega arith)
down-hit test (suc i) h e = rw e

pub down-miss : (test : ℕ → Bool) (i : ℕ) → 0 < i → test i ≡ false → first test (down_from i) 0 ≡ first test (down_from (i - 1)) 0
unfolding down_from first
down-miss test zero h e = absurd (omega arith)
down-miss test (suc i) h e =
    let down : i ≡ suc i - 1 = omega arith in
    rw e (ap (λ (x : ℕ). first test (down_from x) 0) down)

pub down-none : (test : ℕ → Bool) (i : ℕ) → i ≤ 0 → 0 ≡ first test (down_from i) 0
unfolding down_from first
down-none test zero h = refl
down-none test (suc i) h = absurd (omega arith)

-- the bit of a page, by the quotients that the code has
pub cell-is : (m : ℕ) (list : List ℕ) (k q r : ℕ) → q ≡ get_or list k 0 / m → r ≡ k / m
    → (q + 1) * 64 + (r + 1) ≡ cell (source_block m k) (dest_block m list k)
unfolding source_block dest_block
cell-is m list k q r to from = ap₂ (λ (a b : ℕ). (a + 1) * 64 + (b + 1)) to from

-- ---- the pages marked, one by one
module _ (m : ℕ) (list : List ℕ) where
  pub none-sent : (table : List ℕ) → table ≡ replicate 64 0 → length table ≡ 64 → Sends m list 0 table
  none-sent table e size = record {
    size = size;
    marked = λ k h. absurd (omega arith);
    only = λ x t. absurd (never_both t (rw e (unmarked 64 x)));
  }

  module _ (k : ℕ) (table : List ℕ) (S : Sends m list k table) where
    pub sent-dropped : is_dropped list k ≡ true → Sends m list (k + 1) table
    sent-dropped d = record {
      size = S.size;
      marked = below_more (λ j. is_dropped list j ≡ false → is_marked table (cell (source_block m j) (dest_block m list j)) ≡ true) k S.marked
          (λ e. absurd (never_both d e));
      only = λ x t. (let r = S.only x t in (r.0, omega (arith, r.1), r.2, r.3));
    }

    pub sent-more : (after : List ℕ) → is_dropped list k ≡ false → length after ≡ 64
        → ((x : ℕ) → is_marked after x ≡ (is_marked table x || eqb x (cell (source_block m k) (dest_block m list k)))) → Sends m list (k + 1) after
    sent-more after d size more = record {
      size = size;
      marked = below_more (λ j. is_dropped list j ≡ false → is_marked after (cell (source_block m j) (dest_block m list j)) ≡ true) k
          (λ j l e. more (cell (source_block m j) (dest_block m list j)) ∙ rw (S.marked j l e))
          (λ e. more (cell (source_block m k) (dest_block m list k)) ∙ rw (eq-eqb (cell (source_block m k) (dest_block m list k)) _ refl, or-true));
      only = λ x t. ⊎_elim
          (λ (o : is_marked table x ≡ true). (let r = S.only x o in (r.0, omega (arith, r.1), r.2, r.3)))
          (λ (o : eqb x (cell (source_block m k) (dest_block m list k)) ≡ true). (k, omega arith, d, sym (eqb-true x _ o)))
          (or_cases (is_marked table x) (eqb x (cell (source_block m k) (dest_block m list k))) (sym (more x) ∙ t));
    }

-- ---- the y of an order
module _ (n m : ℕ) (list order table : List ℕ) (size : length order ≡ n) (short : Short order) (L : Surveyable 7 m list) (few : length list ≡ n * m)
    (S : Sends m list (length list) table) where
  source-small : (k : ℕ) → k < length list → source_block m k < 64
  unfolding source_block
  source-small k h =
      let q : k / m < 7 = (div-lt_iff_lt-mul L.m-low).1 (omega (arith, L.size)) in
      omega arith

  -- a block that sends two places forward or more is met
  sent-forbids : (i : ℕ) → 1 ≤ i → i ≤ n - 2 → is_sent table order i ≡ true → (k : ℕ) × Forbids n m list order (i - 1) k
  unfolding is_sent is_sent_from
  sent-forbids i low high e =
      let a = any-range-find (λ j. is_marked table (cell (get_or order j 0) (get_or order (i - 1) 0))) (i + 1) (length order - (i + 1)) e in
      let j : ℕ = a.0 in
      let p = S.only (cell (get_or order j 0) (get_or order (i - 1) 0)) a.3 in
      let k : ℕ = p.0 in
      let x = source-small k p.1 in
      let y = short.small j (omega (arith, a.1, a.2)) in
      let e : dest_block m list k * 64 + source_block m k ≡ get_or order (i - 1) 0 * 64 + get_or order j 0 = p.3 in
      let j-1 : j + 1 - 1 ≡ j = omega arith in (
        k,
        record {
          i = i;
          j = j + 1;
          above = omega arith;
          below = high;
          far = omega (arith, a.1);
          within = omega (arith, a.1, a.2);
          page = omega (arith, p.1);
          kept = kept_entry list k p.2;
          source = rw j-1 (omega arith);
          target = omega arith;
        },
      )

  forbids-sent : (y k : ℕ) (F : Forbids n m list order y k) → is_sent table order F.i ≡ true
  unfolding is_sent is_sent_from
  forbids-sent y k F =
      let b = F.below in
      let w = F.within in
      let f = F.far in
      let marked = S.marked k (omega (arith, F.page)) (is-kept list k F.kept) in
      any-is (λ j. is_marked table (cell (get_or order j 0) (get_or order (F.i - 1) 0))) (F.i + 1) (length order - (F.i + 1)) (F.j - 1) (omega arith) (omega arith)
      (rw (← F.source, ← F.target) marked)

  pub y-is : y_by table order ≡ least_y n m list order
  unfolding y_by
  y-is =
      let H = highest (is_sent table order) (length order - 2) in
      let y : ℕ = first (is_sent table order) (down_from (length order - 2)) 0 in
      sym (least-is n m list order y (omega (arith, H.high))
      (λ k F. never_both (forbids-sent y k F) (H.above F.i (omega (arith, F.above)) (omega (arith, F.below))))
      (λ ne. sent-forbids y (omega arith) (omega (arith, H.high)) (H.passes ne)))

-- it is below the number of blocks
pub y-below : (table order : List ℕ) (n : ℕ) → length order ≡ n → 3 ≤ n → y_by table order < n
unfolding y_by
y-below table order n size low = omega (arith, (highest (is_sent table order) (length order - 2)).high)
