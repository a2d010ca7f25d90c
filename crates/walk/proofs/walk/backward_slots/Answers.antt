-- The slots of a write in the backward pass are those of `backward_by`.
use Rattle.flash.proofs.Kit.{arith}
use Rattle.walk.proofs.GatherLaws.{count-is}
use Rattle.walk.proofs.RowLaws.{walk-some}
use Rattle.walk.proofs.walk.backward_slots.Goals as goal

pub returns : goal.returns
returns c =
    let G = c.go_on.ensures in
    (G.slots-are, rw (count-is _ _ _ _ G) (walk-some _ _ _ _ _ _ (omega arith)), omega (arith, G.few), G.room)
