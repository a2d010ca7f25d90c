-- `are_full` tells whether each block of a stretch is full of a letter.
use Rattle.flash.proofs.Kit.{◌∙◌, mul-le-mul_right, arith}
use Rattle.recovery.proofs.Stretches.{full-stretch}
use Rattle.recovery.proofs.marks.are_full.Goals as goal

pub overflow_mul-from : goal.overflow_mul-from
overflow_mul-from c = omega (arith, mul-le-mul_right c.args.m c.requires.1)

pub slice_bounds-is_filled-count : goal.slice_bounds-is_filled-count
slice_bounds-is_filled-count c = omega (arith, mul-le-mul_right c.args.m c.requires.1)

pub slice_bounds-is_filled-start : goal.slice_bounds-is_filled-start
slice_bounds-is_filled-start c = omega (arith, mul-le-mul_right c.args.m c.requires.1)

pub returns : goal.returns
returns c =
    let a = c.args in
    c.is_filled.ensures ∙ full-stretch a.m a.marks.now c.requires.0 a.from a.to a.letter c.requires.1 c.requires.2
