-- `enter_row` enters the sets of a row by destination, and gathers their bits.
use Rattle.flash.proofs.Kit.{refl, ap, ◌%◌, ℕ, arith}
use Rattle.split.proofs.RowsLaws.{bits-more, one-entered}
use Rattle.split.proofs.rows.enter_row.Goals as goal

pub loop-k-preserved : goal.loop-k-preserved
loop-k-preserved c =
    let l = c.loop-k in (
      one-entered _ _ _ l.k _ _ l.invariant.0 (omega arith) (ap (λ (x : ℕ). x % 4096) c.from.ensures) refl,
      bits-more _ _ l.k _ _ _ l.invariant.1 (omega arith) c.from-in-loop-k.ensures c.with_bit-met.ensures,
    )
