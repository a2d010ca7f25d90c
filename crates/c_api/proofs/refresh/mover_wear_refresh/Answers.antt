-- `mover_wear_refresh` writes back the record with a fresh pair.
use Rattle.flash.proofs.Kit.{ap, ◌∙◌}
use Rattle.flash.specs.Wear.{refreshed}
use Rattle.c_api.proofs.ExportLaws.{refresh-other-length, refresh-done}
use Rattle.c_api.proofs.refresh.mover_wear_refresh.Goals as goal

pub returns-then-wear-ne-WEAR : goal.returns-then-wear-ne-WEAR
returns-then-wear-ne-WEAR c = rw c.number.ensures (refresh-other-length _ c.if-wear-ne-WEAR.true)

pub returns : goal.returns
returns c =
    refresh-done _ c.if-wear-ne-WEAR.false _ _ (c.refresh-fresh.ensures ∙ ap refreshed c.decode_wear.ensures.value) c.encode_wear.ensures
