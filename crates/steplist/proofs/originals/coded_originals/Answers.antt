-- `coded_originals` tells D(i) by the rows of its set, and D(pred(i)) where i is not the top.
use Rattle.flash.proofs.Kit.{◌≡◌, refl, sym, ap, ap₂, ◌∙◌, ◌≢◌, false, [], ◌∷◌, List, ℕ, ◌+◌, ◌-◌, ◌*◌, ◌≤◌, ◌<◌, arith}
use Rattle.flash.proofs.Bools.{fails}
use Rattle.flash.proofs.Bounds.{product_le}
use Rattle.method.specs.declared.accepted.Accepted.{Accepted}
use Rattle.method.specs.inner.MoveIn.{move_in}
use Rattle.method.specs.Move.{Move}
use Rattle.method.specs.Cycle.{D, pred, top, is_top, coded}
use Rattle.method.proofs.cycles.Orbits.{DataBlock}
use Rattle.method.proofs.cycles.SetCycles.{D-page, pred_in}
use Rattle.method.proofs.cycles.Tops.{is_top-true, top-is_top}
use Rattle.walk.specs.inner.Rows.{entry_of, PagesRow, SourcesRow}
use Rattle.checker.specs.Method.{inserted, ascending}
use Rattle.steplist.proofs.originals.coded_originals.Goals as goal

-- products of numbers of blocks and of pages are small
small : (moved : Accepted) (u : ℕ) → u ≤ moved.sizes.n → (u * moved.sizes.m ≤ 4096) × (moved.sizes.n * moved.sizes.m ≤ 4096)
small moved u h =
    let G = moved.accepted.ranges in (
      product_le u moved.sizes.m {c = 64} {d = 64} (omega (arith, G.n-high)) G.m-high,
      product_le moved.sizes.n moved.sizes.m {c = 64} {d = 64} G.n-high G.m-high,
    )

-- D(b) as the rows tell it
module _ (moved : Accepted) (set : ℕ) (set-in : set < moved.sizes.m) (pages : List ℕ) (P : PagesRow (move_in moved) set pages) (b page : ℕ) (B : DataBlock moved.sizes.n b)
    (is : page ≡ entry_of pages b) where
  page-is : (b - 1) * moved.sizes.m + page ≡ D (move_in moved) set b
  page-is = ap (λ (p : ℕ). (b - 1) * moved.sizes.m + p) is ∙ P.is b B.low B.high

  page-inside : (b - 1) * moved.sizes.m + page < moved.sizes.n * moved.sizes.m
  page-inside = rw page-is (D-page (move_in moved) moved.accepted set set-in b B).inside

-- the block where the page comes from that goes to block i
module _ (moved : Accepted) (set : ℕ) (set-in : set < moved.sizes.m) (sources : List ℕ) (S : SourcesRow (move_in moved) set sources) (i u : ℕ) (low : 1 ≤ i) (high : i ≤ moved.sizes.n)
    (is : u ≡ entry_of sources i) where
  from_is : u ≡ pred (move_in moved) set i
  from_is = is ∙ S.is i low high

  from_in : DataBlock moved.sizes.n u
  from_in = rw from_is (pred_in (move_in moved) moved.accepted set set-in i (record { low = low; high = high }))

coded-one : (M : Move) (set i : ℕ) → top M set i ≡ i → D M set i ∷ [] ≡ ascending (coded M set i)
unfolding coded ascending inserted
coded-one M set i e = rw (top-is_top M set i e)

coded-two : (M : Move) (set i : ℕ) → top M set i ≢ i → ascending (D M set i ∷ D M set (pred M set i) ∷ []) ≡ ascending (coded M set i)
unfolding coded
coded-two M set i ne =
    let below : is_top M set i ≡ false = fails (λ t. ne (is_top-true M set i t)) in
    rw below

pub overflow_mul-own : goal.overflow_mul-own
overflow_mul-own c = omega (arith, small c.args.moved (c.args.i - 1) (omega (arith, c.requires.2)))

pub overflow_add-own : goal.overflow_add-own
overflow_add-own c =
    let a = c.args in
    let own = page-inside a.moved a.set c.requires.0 _ c.set_rows.ensures.0 a.i _ (record { low = c.requires.1; high = c.requires.2 }) c.from.ensures in
    omega (arith, own, small a.moved 0 (omega arith))

pub returns-then-top_of-i : goal.returns-then-top_of-i
returns-then-top_of-i c =
    let a = c.args in
    let tip = c.top_of.ensures _ _ a.moved.accepted c.requires.0 refl c.set_rows.ensures.1 in
    let B : DataBlock a.moved.sizes.n a.i = record { low = c.requires.1; high = c.requires.2 } in (
      ap (λ (k : ℕ). k ∷ []) (page-is a.moved a.set c.requires.0 _ c.set_rows.ensures.0 a.i _ B c.from.ensures)
          ∙ coded-one _ _ _ (sym tip ∙ c.if-top_of-i.true),
      page-inside a.moved a.set c.requires.0 _ c.set_rows.ensures.0 a.i _ B c.from.ensures,
    )

pub overflow_sub-u : goal.overflow_sub-u
overflow_sub-u c =
    (from_in c.args.moved c.args.set c.requires.0 _ c.set_rows.ensures.1 c.args.i _ c.requires.1 c.requires.2 c.from-u.ensures).low

pub overflow_mul-u : goal.overflow_mul-u
overflow_mul-u c =
    let F = from_in c.args.moved c.args.set c.requires.0 _ c.set_rows.ensures.1 c.args.i _ c.requires.1 c.requires.2 c.from-u.ensures in
    omega (arith, small c.args.moved (c.from-u.result - 1) (omega (arith, F.high)))

pub overflow_sub-u-2 : goal.overflow_sub-u-2
overflow_sub-u-2 c =
    (from_in c.args.moved c.args.set c.requires.0 _ c.set_rows.ensures.1 c.args.i _ c.requires.1 c.requires.2 c.from-u.ensures).low

pub bounds-pages-u : goal.bounds-pages-u
bounds-pages-u c =
    let F = from_in c.args.moved c.args.set c.requires.0 _ c.set_rows.ensures.1 c.args.i _ c.requires.1 c.requires.2 c.from-u.ensures in
    omega (arith, F.low, F.high, c.args.moved.accepted.ranges.n-high)

pub overflow_add-u : goal.overflow_add-u
overflow_add-u c =
    let a = c.args in
    let F = from_in a.moved a.set c.requires.0 _ c.set_rows.ensures.1 a.i _ c.requires.1 c.requires.2 c.from-u.ensures in
    omega (arith, page-inside a.moved a.set c.requires.0 _ c.set_rows.ensures.0 _ _ F c.from-2.ensures, small a.moved 0 (omega arith))

pub returns : goal.returns
returns c =
    let a = c.args in
    let M = move_in a.moved in
    let B : DataBlock a.moved.sizes.n a.i = record { low = c.requires.1; high = c.requires.2 } in
    let F = from_in a.moved a.set c.requires.0 _ c.set_rows.ensures.1 a.i _ c.requires.1 c.requires.2 c.from-u.ensures in
    let tip = c.top_of.ensures _ _ a.moved.accepted c.requires.0 refl c.set_rows.ensures.1 in
    let own = page-is a.moved a.set c.requires.0 _ c.set_rows.ensures.0 a.i _ B c.from.ensures in
    let other = page-is a.moved a.set c.requires.0 _ c.set_rows.ensures.0 _ _ F c.from-2.ensures
    ∙ ap (D M a.set) (from_is a.moved a.set c.requires.0 _ c.set_rows.ensures.1 a.i _ c.requires.1 c.requires.2 c.from-u.ensures) in
    let two = ap₂ (λ (x y : ℕ). ascending (x ∷ y ∷ [])) own other in (
      c.in_order.ensures.result_value ∙ two ∙ coded-two M a.set a.i (λ e. c.if-top_of-i.false (tip ∙ e)),
      c.in_order.ensures.by_index (a.moved.sizes.n * a.moved.sizes.m) (page-inside a.moved a.set c.requires.0 _ c.set_rows.ensures.0 a.i _ B c.from.ensures)
          (page-inside a.moved a.set c.requires.0 _ c.set_rows.ensures.0 _ _ F c.from-2.ensures),
    )
