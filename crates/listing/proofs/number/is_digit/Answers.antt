-- `is_digit` tells the ten digits from all other bytes.
use Rattle.listing.specs.Numbers.{is_digit}
use Rattle.listing.proofs.number.is_digit.Goals as goal

pub returns : goal.returns
unfolding is_digit
returns c = c.is_ascii_digit.ensures.value
