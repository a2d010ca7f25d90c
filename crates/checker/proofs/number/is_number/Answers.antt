-- `is_number` tells whether digits are a number.
use Rattle.flash.proofs.Kit.{sym, ◌∙◌, ap, not, ℕ, arith, length, drop, eqb, ne_eqb, le-ltb}
use Rattle.checker.specs.Lines.{leading}
use Rattle.checker.proofs.TextLaws.{first-at, leading-first, number_short, number-long}
use Rattle.checker.proofs.number.is_number.Goals as goal

pub returns-then-size-eq1 : goal.returns-then-size-eq1
returns-then-size-eq1 c = ap (λ (s : ℕ). eqb s 1) c.requires.1 ∙ number_short _ (omega arith)

pub returns-then-size-gt1 : goal.returns-then-size-gt1
returns-then-size-gt1 c =
    let a = c.args in
    let size = c.requires.1 in
    ap (λ (x : ℕ). not (eqb x 48)) (sym (first-at a.text.now a.at) ∙ sym (leading-first (drop a.at a.text.now) (omega arith)))
    ∙ number-long _ (omega arith)

pub returns-else-size-gt1 : goal.returns-else-size-gt1
returns-else-size-gt1 c =
    let leads = leading (drop c.args.at c.args.text.now) in
    le-ltb 1 c.args.size (omega arith) ∙ sym (ne_eqb (length leads) 1 (λ e. absurd (omega arith))) ∙ number_short leads (omega arith)
