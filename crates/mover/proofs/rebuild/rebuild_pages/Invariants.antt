-- Each turn makes the page and the flag of one original more.
use Rattle.flash.proofs.Kit.{List, ℕ}
use Rattle.method.specs.Move.{Move}
use Rattle.method.specs.inner.MoveIn.{move_in}
use Rattle.method.specs.Mend.{Reading, seen}
use Rattle.method.specs.Rebuild.{rebuilt_from, rebuilt_page, rebuilt_flag}
use Rattle.mover.specs.inner.Rebuild.{Sees}
use Rattle.mover.specs.declared.rebuild.Told.{Told}
use Rattle.mover.proofs.RebuiltAll.{Made}
use Rattle.mover.proofs.rebuild.rebuild_pages.Given as goal

-- what the first k originals are rebuilt to
abbrev pub MadeOf : Move → (store : List ℕ) → Told → (slot : ℕ) → (area flags : List ℕ) → (k : ℕ) → Type 0
MadeOf M store told slot area flags k = (marks : List ℕ) (found : Reading) → Sees M marks found told
    → Made M.sizes.p (λ j. rebuilt_page M.sizes.p (record { store = store; marks = marks }) (rebuilt_from M (seen marks) found slot j))
    (λ j. rebuilt_flag (rebuilt_from M (seen marks) found slot j)) area flags k

abbrev pub invariant-loop-k : goal.invariant-loop-k
invariant-loop-k l =
    MadeOf (move_in l.moved) l.store l.told l.slot l.area l.flags l.k
