-- Each turn makes the page and the flag of one original more.
use Rattle.flash.proofs.Kit.{◌≡◌, sym, ◌∙◌, subst, List, ℕ, ◌+◌, ◌*◌, ◌≤◌, ◌<◌, arith, get_or, length, set}
use Rattle.flash.specs.Geometry.{original_count}
use Rattle.flash.proofs.Parts.{part-fits, length_part, lent-part, lent_back}
use Rattle.split.specs.Split.{set_of}
use Rattle.method.specs.inner.MoveIn.{move_in}
use Rattle.flash.specs.declared.sizes.Sizes.{Sizes}
use Rattle.method.specs.declared.accepted.Accepted.{Accepted}
use Rattle.method.proofs.cycles.SetCycles.{set-in}
use Rattle.mover.proofs.StepLaws.{row_is}
use Rattle.mover.proofs.RebuiltAll.{none_made, one-made, all_made}
use Rattle.mover.proofs.rebuild.rebuild_pages.Invariants.{MadeOf}
use Rattle.mover.proofs.rebuild.rebuild_pages.Goals as goal

pub loop-k-init : goal.loop-k-init
loop-k-init c = λ marks found S. none_made _ _ _ _ _

-- the page lies within the area
fits : (Z : Sizes) (k : ℕ) (area : List ℕ) → k < original_count Z → length area ≡ original_count Z * Z.p → k * Z.p + Z.p ≤ length area
fits Z k area inside size = omega (arith, part-fits k (original_count Z) Z.p inside, size)

pub overflow_mul-start : goal.overflow_mul-start
overflow_mul-start c =
    let l = c.loop-k in
    record { fits = omega (arith, fits c.args.moved.sizes l.k l.area (omega (arith, c.loop-k-test.true, c.requires.2)) (l.auto.area ∙ c.requires.1)) }

pub overflow_add-end : goal.overflow_add-end
overflow_add-end c =
    let l = c.loop-k in
    record { fits = omega (arith, fits c.args.moved.sizes l.k l.area (omega (arith, c.loop-k-test.true, c.requires.2)) (l.auto.area ∙ c.requires.1)) }

pub slice_bounds-rebuild_page-end : goal.slice_bounds-rebuild_page-end
slice_bounds-rebuild_page-end c =
    let l = c.loop-k in
    fits c.args.moved.sizes l.k l.area (omega (arith, c.loop-k-test.true, c.requires.2)) (l.auto.area ∙ c.requires.1)

-- ---- the rows of its set
pub bounds-moved-k : goal.bounds-moved-k
bounds-moved-k c = omega (arith, c.loop-k-test.true, c.requires.2, c.args.moved.accepted.sets-length)

module _ (moved : Accepted) (k set : ℕ) (inside : k < original_count moved.sizes) (is : set ≡ get_or moved.sets.now k 0) where
  set-lt : set < moved.sizes.m
  unfolding set_of
  set-lt = subst (λ (x : ℕ). x < moved.sizes.m) (sym is) (set-in (move_in moved) moved.accepted k inside)

  set-few : set < 64
  set-few = omega (arith, set-lt, moved.accepted.ranges.m-high)

pub row-requires : goal.row-requires
row-requires c =
    (set-few c.args.moved c.loop-k.k c.from-set.result (omega (arith, c.loop-k-test.true, c.requires.2)) c.from-set.ensures, c.requires.4.room)

pub row-requires-in-loop-k : goal.row-requires-in-loop-k
row-requires-in-loop-k c =
    (set-few c.args.moved c.loop-k.k c.from-set.result (omega (arith, c.loop-k-test.true, c.requires.2)) c.from-set.ensures, c.requires.5.room)

pub invariant_of-rows : goal.invariant_of-rows
invariant_of-rows c =
    let set = c.from-set.result in
    let in-range = set-lt c.args.moved c.loop-k.k set (omega (arith, c.loop-k-test.true, c.requires.2)) c.from-set.ensures in
    record { set_in = in-range; pages_row = rw (c.row.ensures, row_is) (c.requires.4.row set in-range); sources_row = rw (c.row-in-loop-k.ensures, row_is) (c.requires.5.row set in-range) }

pub rebuild_page-requires : goal.rebuild_page-requires
unfolding set_of
rebuild_page-requires c =
    let l = c.loop-k in
    let Z = c.args.moved.sizes in
    let inside : l.k < original_count Z = omega (arith, c.loop-k-test.true, c.requires.2) in
    (inside, c.from-set.ensures, c.requires.0, rw (lent-part Z.p l.k l.area) (length_part Z.p l.k l.area (fits Z l.k l.area inside (l.auto.area ∙ c.requires.1))), c.requires.3)

pub loop-k-preserved : goal.loop-k-preserved
loop-k-preserved c =
    let l = c.loop-k in
    let Z = c.args.moved.sizes in
    let p = Z.p in
    let M = move_in c.args.moved in
    let new = c.rebuild_page.new.page in
    let v = c.rebuild_page.result in
    let inside : l.k < original_count Z = omega (arith, c.loop-k-test.true, c.requires.2) in
    let there = fits Z l.k l.area inside (l.auto.area ∙ c.requires.1) in
    let whole : length new ≡ p = c.rebuild_page.auto.page ∙ rw (lent-part p l.k l.area) (length_part p l.k l.area there) in
    let more : l.k < length l.flags = omega (arith, c.loop-k-test.true, l.auto.flags) in
    let back = lent_back p l.k l.area new in
    subst (λ (area : List ℕ). MadeOf M c.args.store.now c.args.told c.args.slot area (set l.flags l.k v) (l.k + 1)) (sym back)
    (λ marks found S. (let E = c.rebuild_page.ensures marks found S in
    one-made p _ _ l.area l.flags l.k (l.invariant marks found S) new v there more whole E.1 E.0))

pub returns : goal.returns
returns c marks found S =
    let l = c.loop-k in
    let Z = c.args.moved.sizes in
    let end : l.k ≡ original_count Z = omega (arith, c.loop-k-test.false, c.requires.2) in
    all_made Z.p _ _ l.area l.flags (original_count Z)
    (subst (λ (x : ℕ). MadeOf (move_in c.args.moved) c.args.store.now c.args.told c.args.slot l.area l.flags x) end l.invariant marks found S)
    (l.auto.area ∙ c.requires.1) (l.auto.flags ∙ c.requires.2)
