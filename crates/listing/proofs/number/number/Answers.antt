-- `number` finds the next word from a position on and tells whether it is a number.
use Rattle.flash.proofs.Kit.{ap, ◌∙◌}
use Rattle.listing.specs.Numbers.{next}
use Rattle.listing.proofs.number.number.Goals as goal

pub spelled-requires : goal.spelled-requires
spelled-requires c = c.skip.ensures.result_value

pub returns : goal.returns
returns c = c.spelled.ensures ∙ ap next c.skip.ensures.text_value
