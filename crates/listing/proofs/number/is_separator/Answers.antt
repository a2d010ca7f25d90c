-- `is_separator` tells spaces and line feeds from all other bytes.
use Rattle.listing.specs.Numbers.{is_separator}
use Rattle.flash.proofs.Kit.{rules}
use Rattle.listing.proofs.number.is_separator.Goals as goal

pub returns : goal.returns
unfolding is_separator
returns c = search rules
