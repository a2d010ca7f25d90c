-- `digit_of` gives the character of a digit, decimal or hexadecimal.
use Rattle.flash.proofs.Kit.{lt-ltb, le-ltb}
use Rattle.listing.specs.Digits.{digit_of}
use Rattle.listing.proofs.digits.digit_of.Goals as goal

pub returns-then-d-lt10 : goal.returns-then-d-lt10
unfolding digit_of
returns-then-d-lt10 c = simp (lt-ltb _ _ c.if-d-lt10.true)

pub returns-else-d-lt10 : goal.returns-else-d-lt10
unfolding digit_of
returns-else-d-lt10 c = simp (le-ltb _ _ c.if-d-lt10.false)
