-- The slots that the other list lacks go behind the first of the array.
use Rattle.flash.proofs.Kit.{◌≡◌, not, ◌++◌, ◌+◌, ◌≤◌, eqb, take}
use Rattle.flash.specs.Lists.{any, filter}
use Rattle.walk.proofs.apart.keep_others.Given as goal

abbrev pub invariant-loop-slot : goal.invariant-loop-slot
invariant-loop-slot l =
    (take l.end l.to ≡ take l.start l.initial.to ++ filter (λ t. not (any (eqb t) l.others)) (take l.slot-index l.slots)) × (l.end ≤ l.start + l.slot-index)
