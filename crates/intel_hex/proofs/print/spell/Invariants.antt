-- `spell` gives the digits of each byte of an area, and their sum.
use Rattle.flash.proofs.Kit.{◌≡◌, ◌*◌, ◌≤◌, take}
use Rattle.flash.specs.Lists.{total}
use Rattle.intel_hex.proofs.Prints.{spelled}
use Rattle.intel_hex.proofs.print.spell.Given as goal

abbrev pub invariant-loop-i : goal.invariant-loop-i
invariant-loop-i l =
    (l.digits ≡ spelled l.area l.initial.digits l.i) × (l.sum ≡ total (take l.i l.area)) × (l.sum ≤ 255 * l.i)
