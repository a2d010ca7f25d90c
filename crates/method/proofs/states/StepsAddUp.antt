-- Runs add up.
use Rattle.flash.proofs.Kit.{◌≡◌, sym, ap, ap₂, ◌∙◌, ℕ, zero, suc, ◌+◌, zero-add, suc-add, add-zero, add-suc, arith}
use Rattle.flash.specs.declared.sizes.Sizes.{Sizes}
use Rattle.method.specs.Move.{Plan}
use Rattle.method.specs.Step.{Running, step, steps}
use Rattle.method.specs.Answers.{steps_taken}

-- some steps, and then more
pub steps-add : (X : Plan) (a b place : ℕ) (run : Running) → steps X (a + b) place run ≡ steps X b (place + a) (steps X a place run)
unfolding steps
steps-add X zero b place run = ap₂ (λ (x y : ℕ). steps X x y run) (zero-add b) (sym (add-zero place))
steps-add X (suc a) b place run =
    ap (λ (x : ℕ). steps X x place run) (suc-add a b) ∙ steps-add X a b (suc place) (step X place run)
    ∙ ap (λ (x : ℕ). steps X b x (steps X a (suc place) (step X place run))) (suc-add place a ∙ sym (add-suc place a))

pub taken-add : (Z : Sizes) (place a b : ℕ) → steps_taken Z place (a + b) ≡ steps_taken Z place a + steps_taken Z (place + steps_taken Z place a) b
unfolding steps_taken
taken-add Z place a b = omega arith
