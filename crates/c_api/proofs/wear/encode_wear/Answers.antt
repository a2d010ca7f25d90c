-- `encode_wear` writes the counters, and the pair behind them.
use Rattle.flash.proofs.Kit.{sym, ap, ◌∙◌, arith, length, length-take-le}
use Rattle.c_api.proofs.WearLaws.{record-put, record-length}
use Rattle.c_api.proofs.wear.encode_wear.Goals as goal

pub slice_bounds-encode_counters-end-2 : goal.slice_bounds-encode_counters-end-2
slice_bounds-encode_counters-end-2 c = sym (length-take-le 260 c.args.bytes.now (omega (arith, c.requires.0)))

pub encode_counters-requires : goal.encode_counters-requires
encode_counters-requires c = (length-take-le 260 c.args.bytes.now (omega (arith, c.requires.0)), c.requires.1)

pub shape_of-bytes : goal.shape_of-bytes
shape_of-bytes c =
    ap length (record-put c.args.wear c.args.bytes.now _ _ c.requires.1 c.requires.0 c.encode_counters.ensures c.spell.ensures)
    ∙ record-length c.args.wear c.requires.1 ∙ sym c.requires.0

pub returns : goal.returns
returns c =
    record-put c.args.wear c.args.bytes.now _ _ c.requires.1 c.requires.0 c.encode_counters.ensures c.spell.ensures
