-- `passed_over` counts blocks that are full of a letter.
use Rattle.flash.proofs.Kit.{sym, ◌∙◌, ◌-◌, ◌≤◌, mul-le-mul_right, arith}
use Rattle.flash.proofs.Ranges.{all_in}
use Rattle.flash.specs.Chip.{is_full}
use Rattle.recovery.proofs.marks.passed_over.Goals as goal

pub returns-then-begun-eq0 : goal.returns-then-begun-eq0
returns-then-begun-eq0 c = (omega arith, λ block h. absurd (omega arith))

pub are_full-requires : goal.are_full-requires
are_full-requires c =
    let below : c.begun_with-begun.result - 1 ≤ c.args.blocks = omega arith in
    (omega arith, omega arith, omega (arith, mul-le-mul_right c.args.m below))

pub returns-then-are_full : goal.returns-then-are_full
returns-then-are_full c =
    let a = c.args in
    let all = sym c.are_full.ensures ∙ c.if-are_full.true in
    (omega arith, λ block h. all_in (λ block. is_full a.m a.marks.now block a.letter) 0 _ all block (omega arith) (omega arith))

pub returns : goal.returns
returns c = (omega arith, λ block h. absurd (omega arith))
