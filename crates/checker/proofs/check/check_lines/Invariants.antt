-- `check_lines` takes turns until one stops or no line is left.
use Rattle.flash.proofs.Kit.{◌≡◌, ◌+◌, ◌-◌, length, drop}
use Rattle.checker.specs.Answer.{check_from, start}
use Rattle.checker.specs.inner.Turns.{Standing}
use Rattle.checker.proofs.check.check_lines.Given as goal

-- the check from here on gives the whole answer
abbrev pub invariant-loop-done : goal.invariant-loop-done
invariant-loop-done l =
    Standing l.n l.m l.pages l.text l.done.writes l.done.erases l.done.at × (length l.pages ≡ length l.initial.pages)
    × (check_from l.n l.m l.list (length l.text) l.text (start l.n l.m l.list)
    ≡ check_from l.n l.m l.list (length l.text - (l.done.writes + l.done.erases)) (drop l.done.at l.text)
    (record { writes = l.done.writes; erases = l.done.erases; pages = l.pages }))

-- each turn takes a line, and a line is more than a byte
abbrev pub decreases-loop-done : goal.decreases-loop-done
decreases-loop-done l = length l.text - (l.done.writes + l.done.erases)
