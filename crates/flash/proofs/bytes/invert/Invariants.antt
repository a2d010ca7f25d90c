-- `invert` adds 255s to each byte that it has passed.
use Rattle.flash.proofs.Kit.{◌≡◌, List, ℕ, ◌++◌, ◌-◌, ◌≤◌, length, take, drop}
use Rattle.flash.proofs.Kit.{replicate}
use Rattle.flash.specs.PageSum.{◌⊕◌}
use Rattle.flash.proofs.bytes.invert.Given as goal

-- the page with 255s added
abbrev pub inverted : List ℕ → List ℕ
inverted page = replicate (length page) 255 ⊕ page

abbrev pub invariant-loop-byte : goal.invariant-loop-byte
invariant-loop-byte l = l.page ≡ take l.byte-index (inverted l.initial.page) ++ drop l.byte-index l.initial.page
