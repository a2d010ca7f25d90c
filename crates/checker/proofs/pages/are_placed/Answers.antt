-- `are_placed` looks for each original where the list sends it.
use Rattle.flash.proofs.Kit.{◌≡◌, sym, ◌∙◌, ℕ, ◌*◌, ◌%◌, ◌^◌, ◌<◌, one-mul, arith, length, get_or, eqb, shl_exact}
use Rattle.flash.specs.Geometry.{slot_of}
use Rattle.flash.proofs.Ranges.{all-is, all-not}
use Rattle.checker.proofs.PageLaws.{placed-elsewhere}
use Rattle.checker.proofs.pages.are_placed.Goals as goal

-- the mask of original k
one : (k : ℕ) → k < 64 → 1 * 2 ^ k % 2 ^ 64 ≡ 2 ^ k
one k h = shl_exact {a = 1} 1 k 64 (omega arith) (omega arith) ∙ one-mul (2 ^ k)

pub returns-then-pages-t : goal.returns-then-pages-t
returns-then-pages-t c =
    let l = c.loop-k in
    let a = c.args in
    sym (all-not (λ j. eqb (get_or a.pages.now (slot_of a.m (get_or a.list.now j 0)) 0) (2 ^ j)) 0 (length a.list.now) l.k (omega arith) (omega arith)
    (placed-elsewhere a.pages.now a.list.now a.m l.k _ _ c.from.ensures (one l.k (omega arith)) c.if-pages-t.true))

pub returns : goal.returns
returns c =
    let l = c.loop-k in
    let a = c.args in
    sym (all-is (λ j. eqb (get_or a.pages.now (slot_of a.m (get_or a.list.now j 0)) 0) (2 ^ j)) 0 (length a.list.now)
    (λ j b h. l.invariant j (omega arith)))
