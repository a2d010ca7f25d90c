-- `decode_wear` reads a counter a turn, and then the pair.
use Rattle.flash.proofs.Kit.{refl, ap, ◌∙◌, arith}
use Rattle.c_api.specs.Wear.{wear_bytes}
use Rattle.c_api.proofs.WearLaws.{read_more, read_all, record-back}
use Rattle.c_api.proofs.wear.decode_wear.Goals as goal

pub loop-b-preserved : goal.loop-b-preserved
loop-b-preserved c =
    let l = c.loop-b in
    read_more c.args.bytes.now _ l.counter-items l.b _ refl c.loop-b-test.true l.invariant c.counter_at.ensures

pub returns : goal.returns
returns c =
    let bytes = c.args.bytes.now in
    let is = read_all bytes _ c.loop-b.counter-items c.loop-b.b _ refl (omega arith) c.loop-b.invariant c.counter_at-2.ensures in
    record { value = is; result_value = ap wear_bytes is ∙ record-back bytes (λ i. omega (arith, c.type_inv.bytes i)) c.requires }
