-- `refresh` puts the two parts of the pair together.
use Rattle.flash.proofs.CounterLaws.{refreshed-from}
use Rattle.flash.proofs.wear.Wear.refresh.Goals as goal

pub returns : goal.returns
returns c = refreshed-from _ _ _ c.highest_of-highest.ensures c.lowest_with.ensures
