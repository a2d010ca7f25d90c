-- The page of the set in the block below i, the page of D(i), and the slots of the other original that it holds.
use Rattle.flash.proofs.Kit.{◌≡◌, sym, ap, ◌∙◌, cond, List, [], ◌∷◌, ℕ, ◌+◌, ◌-◌, ◌*◌, arith, length-replicate, length-take-le}
use Rattle.flash.specs.Geometry.{slot}
use Rattle.method.specs.Cycle.{D, pred, is_top}
use Rattle.method.specs.Read.{read_slots}
use Rattle.method.specs.Rebuild.{apart}
use Rattle.walk.proofs.RowLaws.{plain_at_lem, home-is}
use Rattle.walk.proofs.SetLaws.{moves}
use Rattle.walk.proofs.ZeroLaws.{zero-forth}
use Rattle.walk.proofs.zero.forward_zero.Goals as goal

pub returns : goal.returns
returns c =
    let rows = c.args.rows in
    let M = moves rows in
    let m = rows.moved.sizes.m in
    let i = c.args.i in
    let F = c.forward_rest-count.ensures in
    let one = c.with_slot-more.ensures in
    let two = c.with_slot.ensures in
    let more = length-take-le c.forward_rest-count.result c.forward_rest-count.new.slots (omega (arith, F.result_bound.0, F.result_bound.1)) in
    let all = length-take-le c.with_slot-more.result c.with_slot-more.new.to (omega (arith, one.1, more, F.result_bound.0, c.with_slot-more.auto.to, length-replicate {A = ℕ} 66 0)) in
    let own : i * m + c.from.result ≡ D M rows.set i + m =
    ap (λ (x : ℕ). i * m + x) c.from.ensures
    ∙ plain_at_lem M rows.moved.accepted rows.set rows.set_in _ rows.pages_row i (record { low = c.requires.0; high = c.requires.1 })
    ∙ sym (home-is m (D M rows.set i)) in (
      omega (arith, two.1, all, one.1, more, F.result_bound.0),
      omega (arith, c.with_slot.auto.to, c.requires.2),
      λ begun T.
          let rest = cond (is_top M rows.set i) [] (read_slots M begun (D M rows.set (pred M rows.set i))) in
          two.0
          ∙ ap (λ (ts : List ℕ). apart (slot m (i - 1) rows.set ∷ []) ts)
          (one.0 ∙ ap (λ (ts : List ℕ). apart ((i * m + c.from.result) ∷ []) ts) (F.by_index begun T) ∙ ap (λ (x : ℕ). apart (x ∷ []) rest) own)
          ∙ zero-forth M rows.moved.accepted rows.set rows.set_in i c.requires.0 c.requires.1 begun T,
    )
