-- `moves_pinned` meets its contract: where no byte pins, nothing pinned moves; else what is gathered tells whether a page passed does.
use Rattle.flash.proofs.Kit.{◌≡◌, ◌&&◌, not, eqb, get_or}
use Rattle.flash.specs.Lists.{range, any}
use Rattle.split.specs.Pins.{is_pinned}
use Rattle.split.proofs.pins.moves_pinned.Given as goal

abbrev pub invariant-loop-k : goal.invariant-loop-k
invariant-loop-k l =
    l.moved ≡ any (λ j. is_pinned l.pins j && not (eqb (get_or l.list j 0) j)) (range 0 l.k)
