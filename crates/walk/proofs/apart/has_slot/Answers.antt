-- The library's search finds what `any` does.
use Rattle.flash.proofs.Kit.{◌∙◌}
use Rattle.walk.proofs.ApartLaws.{any-is}
use Rattle.walk.proofs.apart.has_slot.Goals as goal

pub returns : goal.returns
returns c = c.contains.ensures.value ∙ any-is c.args.slot c.args.slots.now
