-- `place_in_turn` meets its contract: a turn is one of 2 × n, so that the place is small.
use Rattle.flash.proofs.Kit.{◌+◌, ◌*◌, ◌≤◌, arith}
use Rattle.flash.proofs.Bounds.{product_le}
use Rattle.recovery.specs.MarksRead.{place_in_turn}
use Rattle.recovery.proofs.mend.place_in_turn.Goals as goal
use Rattle.recovery.proofs.mend.place_in_turn.Goals.{else-backward, then-backward}
use Rattle.recovery.proofs.mend.place_in_turn.Lts as lts
use Rattle.recovery.proofs.mend.place_in_turn.Reads as reads

-- there are at most 128 turns, of at most 65 steps
few : (c : lts.After-row_known reads.Pre reads.Post) → c.if-backward.turn * (c.args.sizes.m + 1) ≤ 128 * 65
few c =
    let t = c.if-backward in
    let turns : t.turn ≤ 128 = elim t.branch [ then-backward w ↦ omega arith | else-backward w ↦ omega arith ] in
    product_le t.turn (c.args.sizes.m + 1) {c = 128} {d = 65} turns (omega arith)

pub overflow_mul-result : goal.overflow_mul-result
overflow_mul-result c = omega (arith, few c)

pub overflow_add-result-2 : goal.overflow_add-result-2
overflow_add-result-2 c = omega (arith, few c)

pub overflow_cast-result : goal.overflow_cast-result
overflow_cast-result c = omega (arith, few c)

pub returns : goal.returns
unfolding place_in_turn
returns c = elim c.if-backward.branch [
  | then-backward w ↦ rw (w.turn-is, w.if-backward.true)
  | else-backward w ↦ rw (w.turn-is, w.if-backward.false)
]
