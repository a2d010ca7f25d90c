-- `raise` raises each block, from the first on.
use Rattle.flash.proofs.Kit.{◌≡◌, ◌++◌, map, take, drop}
use Rattle.orders.specs.Dictionary.{leaving}
use Rattle.orders.proofs.search.raise.Given as goal

abbrev pub invariant-loop-block : goal.invariant-loop-block
invariant-loop-block l = l.part ≡ take l.block-index (map (leaving l.left) l.initial.part) ++ drop l.block-index l.initial.part
