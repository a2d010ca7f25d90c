-- `position` meets its contract: what is gathered is the one position, once it is met.
use Rattle.flash.proofs.Kit.{refl, ◌∙◌, arith, lt-ltb}
use Rattle.flash.proofs.Loops.{placed-none, placed-more}
use Rattle.flash.proofs.bytes.position.Goals as goal

pub loop-i-init : goal.loop-i-init
loop-i-init c = placed-none _ _

pub loop-i-preserved : goal.loop-i-preserved
loop-i-preserved c =
    let l = c.loop-i in
    rw c.kept-found.ensures (placed-more _ _ l.found l.i _ (omega arith) refl l.invariant)

pub returns : goal.returns
returns c = let l = c.loop-i in λ at h e only. l.invariant.told at h e only ∙ rw (lt-ltb at l.i (omega arith))
