-- The slots of the one list that the other lacks, and then the other way round.
use Rattle.flash.proofs.Kit.{◌∙◌, ap, not, List, ◌++◌, ℕ, arith, eqb}
use Rattle.flash.specs.Lists.{any, filter}
use Rattle.method.specs.Rebuild.{apart}
use Rattle.walk.proofs.apart.apart_slots.Goals as goal

pub returns : goal.returns
unfolding apart
returns c =
    let a = c.args in
    let one = c.keep_others-kept.ensures in
    let two = c.keep_others.ensures in
    (two.0 ∙ ap (λ (ts : List ℕ). ts ++ filter (λ t. not (any (eqb t) a.one.now)) a.other.now) one.0, omega (arith, one.1, two.1))
