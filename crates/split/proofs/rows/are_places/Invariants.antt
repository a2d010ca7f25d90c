-- `are_places` tells whether each number is a place of the table.
use Rattle.flash.proofs.Kit.{◌≡◌, ltb, take}
use Rattle.flash.specs.Lists.{all}
use Rattle.split.proofs.rows.are_places.Given as goal

abbrev pub invariant-loop-number : goal.invariant-loop-number
invariant-loop-number l = l.small ≡ all (λ number. ltb number 4096) (take l.number-index l.list)
