-- `gather` reads originals up to the first byte that is none of a field.
use Rattle.flash.proofs.Kit.{◌≡◌, ◌-◌, ◌≤◌, length, drop}
use Rattle.checker.specs.inner.Told.{gathering}
use Rattle.checker.proofs.line.gather.Given as goal

-- what is still to be gathered gives the whole
abbrev pub invariant-loop : goal.invariant-loop
invariant-loop l =
    (l.at ≤ l.next) × (l.next ≤ length l.text) × (l.least ≤ 64)
    × (gathering l.count l.count 0 0 (drop l.at l.text) ≡ gathering l.count (l.count - l.counter) l.least l.mask (drop l.next l.text))
