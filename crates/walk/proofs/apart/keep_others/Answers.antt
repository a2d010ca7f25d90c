-- The slots that the other list lacks go behind the first of the array.
use Rattle.flash.proofs.Kit.{◌<◌, sym, Bool, not, append-nil, ℕ, arith, eqb, take, length}
use Rattle.flash.specs.Lists.{any, filter}
use Rattle.walk.proofs.ApartLaws.{turn-kept, turn-left}
use Rattle.walk.proofs.apart.keep_others.Goals as goal
use Rattle.walk.proofs.apart.keep_others.Goals.{else-not-has_slot, then-not-has_slot}

pub loop-slot-init : goal.loop-slot-init
unfolding filter
loop-slot-init c = (sym (append-nil _), omega arith)

pub loop-slot-preserved : goal.loop-slot-preserved
loop-slot-preserved c =
    let l = c.loop-slot in
    let h = c.has_slot in
    let a = c.args in
    let test : ℕ → Bool = λ t. not (any (eqb t) a.others.now) in
    let front = take a.start a.to.now in
    let fits : l.slot-index < length a.slots.now = omega arith in
    elim c.if-not-has_slot.branch [
      | then-not-has_slot w ↦ (
        rw (w.to-is, w.end-is) (turn-kept test a.slots.now front l.to l.end l.slot-index fits l.invariant.0 (rw (← h.ensures, w.if-not-has_slot.true)) (omega arith)),
        omega (arith, w.end-is),
      )
      | else-not-has_slot b ↦ (
        rw (b.to-is, b.end-is) (turn-left test a.slots.now front l.to l.end l.slot-index fits l.invariant.0 (rw (← h.ensures, b.if-not-has_slot.false))),
        omega (arith, b.end-is),
      )
    ]
