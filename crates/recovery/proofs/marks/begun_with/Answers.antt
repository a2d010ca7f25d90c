-- `begun_with` answers a number of blocks that there are.
use Rattle.flash.proofs.Kit.{◌/◌, ◌+◌, ◌*◌, ◌≤◌, length, arith}
use Rattle.flash.proofs.Parts.{part-fits}
use Rattle.recovery.proofs.marks.begun_with.Goals as goal
use Rattle.recovery.proofs.marks.begun_with.Lts as lts
use Rattle.recovery.proofs.marks.begun_with.Reads as reads

pub loop-low-init : goal.loop-low-init
loop-low-init c = (omega arith, omega arith)

-- the middle block lies within the marks
middle-fits : (c : lts.In-loop reads.Pre reads.Post goal.the-invariant-loop-low goal.the-decreases-loop-low)
    → (let a = c.args in let middle = (c.loop-low.low + c.loop-low.high) / 2 in
    middle * a.m + a.m ≤ length a.marks.now)
middle-fits c =
    let f = part-fits ((c.loop-low.low + c.loop-low.high) / 2) c.args.blocks c.args.m (omega arith) in
    omega arith

pub overflow_mul-middle : goal.overflow_mul-middle
overflow_mul-middle c = let f = middle-fits c.before in omega arith

pub bounds-marks-middle : goal.bounds-marks-middle
bounds-marks-middle c = let f = middle-fits c.before.before in omega arith
