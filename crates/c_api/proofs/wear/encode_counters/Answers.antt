-- `encode_counters` writes the bytes of a counter a turn.
use Rattle.flash.proofs.Kit.{refl, ◌+◌, ◌*◌, ◌-◌, arith}
use Rattle.c_api.proofs.WearLaws.{write-more, write-all}
use Rattle.c_api.proofs.wear.encode_counters.Goals as goal

pub loop-b-init : goal.loop-b-init
loop-b-init c = refl

pub loop-b-preserved : goal.loop-b-preserved
loop-b-preserved c =
    let l = c.loop-b in
    write-more _ _ l.bytes l.b (l.b * 4 + 4 - l.b * 4) c.requires.1 c.requires.0 (omega arith) (omega arith) l.invariant _ c.spell.ensures

pub returns : goal.returns
returns c = write-all _ _ c.loop-b.bytes c.loop-b.b c.requires.1 c.requires.0 (omega arith) c.loop-b.invariant
