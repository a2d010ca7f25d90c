-- The page of the set in block b, and the slots of the original that it holds.
use Rattle.flash.proofs.Kit.{◌≡◌, true, sym, ap, ◌∙◌, subst, List, [], ◌∷◌, ℕ, ◌+◌, ◌≤◌, arith, get_or, length, length-take-le}
use Rattle.method.specs.Cycle.{D, pred}
use Rattle.method.specs.Read.{read_slots}
use Rattle.method.specs.Rebuild.{apart}
use Rattle.walk.specs.declared.moment.Moment.{Moment}
use Rattle.walk.specs.declared.set.Rows.{Rows}
use Rattle.walk.specs.inner.Moments.{Tells, moment_in}
use Rattle.walk.specs.inner.Slots.{StartsWith}
use Rattle.walk.proofs.SetLaws.{moves, number-is, number_in}
use Rattle.walk.proofs.ZeroLaws.{some_back, zero-back}
use Rattle.walk.proofs.zero.backward_zero.Goals as goal

pub bounds-list-u : goal.bounds-list-u
bounds-list-u c =
    omega (arith, number_in c.args.rows c.args.b _ _ c.requires.0 c.requires.1 c.from-u.ensures c.from.ensures, c.args.rows.moved.accepted.list_length)

-- how many slots there are
module _ (rows : Rows) (b count : ℕ) (slots before : List ℕ) (moment : Moment) (is : moment ≡ moment_in true rows.moved.sizes.n b (b + 1)) (high : b ≤ rows.moved.sizes.n)
    (says : (begun : List ℕ) → Tells (moves rows) begun moment → StartsWith before 1 (read_slots (moves rows) begun (D (moves rows) rows.set (pred (moves rows) rows.set b))) slots count) where
  at-moment : (begun : List ℕ) → Tells (moves rows) begun (moment_in true rows.moved.sizes.n b (b + 1)) → Tells (moves rows) begun moment
  at-moment begun T = subst (Tells (moves rows) begun) (sym is) T

  gathered : (count + 1 ≤ 65) × (length slots ≡ 65)
  gathered =
      let T = some_back (moves rows) rows.moved.accepted rows.set rows.set_in b high in
      let G = says T.0 (at-moment T.0 T.1) in
      (G.few, G.room)

pub slice_bounds-slots-end : goal.slice_bounds-slots-end
slice_bounds-slots-end c =
    let G = gathered c.args.rows c.args.b _ _ _ _ c.moment_in-moment.ensures c.requires.1 c.source_slots-count.ensures in
    omega (arith, G.0, G.1)

pub slice_bounds-with_slot-end : goal.slice_bounds-with_slot-end
slice_bounds-with_slot-end c =
    let G = gathered c.args.rows c.args.b _ _ _ _ c.moment_in-moment.ensures c.requires.1 c.source_slots-count.ensures in
    sym (length-take-le c.source_slots-count.result c.source_slots-count.new.slots (omega (arith, G.0, G.1)))

pub returns : goal.returns
returns c =
    let rows = c.args.rows in
    let M = moves rows in
    let m = rows.moved.sizes.m in
    let w = c.with_slot.ensures in
    let at = at-moment rows c.args.b _ _ _ _ c.moment_in-moment.ensures c.requires.1 c.source_slots-count.ensures in
    let G = gathered rows c.args.b _ _ _ _ c.moment_in-moment.ensures c.requires.1 c.source_slots-count.ensures in
    let k = D M rows.set (pred M rows.set c.args.b) in
    let to : c.from-2.result ≡ get_or rows.moved.list.now k 0 =
    c.from-2.ensures ∙ ap (λ (j : ℕ). get_or rows.moved.list.now j 0) (number-is rows c.args.b _ _ c.requires.0 c.requires.1 c.from-u.ensures c.from.ensures) in (
      omega (arith, w.1, G.0, length-take-le c.source_slots-count.result c.source_slots-count.new.slots (omega (arith, G.0, G.1))),
      omega (arith, c.with_slot.auto.to, c.requires.2),
      λ begun T.
          w.0 ∙ ap (λ (ts : List ℕ). apart ((c.from-2.result + m) ∷ []) ts) (c.source_slots-count.ensures begun (at begun T)).slots-are
          ∙ ap (λ (x : ℕ). apart ((x + m) ∷ []) (read_slots M begun k)) to
          ∙ zero-back M rows.moved.accepted rows.set rows.set_in c.args.b c.requires.0 c.requires.1 begun,
    )
