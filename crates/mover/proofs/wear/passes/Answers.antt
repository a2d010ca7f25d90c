-- `passes` compares a limit with a sum that it does not make.
use Rattle.flash.proofs.Kit.{◌≡◌, sym, ℕ, ◌+◌, ◌-◌, ◌≤◌, arith, ltb, lt-ltb, ltb-true}
use Rattle.flash.proofs.Bools.{bool_eq}
use Rattle.mover.proofs.wear.passes.Goals as goal

-- what is left of the limit is less than what is added
left_less : (limit counter erases : ℕ) → counter ≤ limit → ltb (limit - counter) erases ≡ ltb limit (counter + erases)
left_less limit counter erases h = bool_eq _ _
    (λ e. lt-ltb limit (counter + erases) (omega (arith, ltb-true (limit - counter) erases e)))
    (λ e. lt-ltb (limit - counter) erases (omega (arith, ltb-true limit (counter + erases) e)))

pub returns-in-Some : goal.returns-in-Some
returns-in-Some c = let a = c.args in let e = c.in-Some.ensures in rw e.1 (left_less a.limit a.counter a.erases e.0)

pub returns-in-None : goal.returns-in-None
returns-in-None c =
    let a = c.args in
    let over : a.counter ≤ a.limit → ⊥ = c.in-None.ensures in
    sym (lt-ltb a.limit (a.counter + a.erases) (omega arith))
