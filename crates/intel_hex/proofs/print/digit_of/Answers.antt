-- `digit_of` gives the character of a digit in capitals.
use Rattle.flash.proofs.Kit.{lt-ltb, le-ltb}
use Rattle.listing.specs.Digits.{digit_of}
use Rattle.intel_hex.proofs.print.digit_of.Goals as goal
use Rattle.intel_hex.proofs.print.digit_of.Goals.{else-d-lt10, then-d-lt10}

pub returns : goal.returns
unfolding digit_of
returns c = elim c.if-d-lt10.branch [
  | then-d-lt10 w ↦ rw (w.zero-is, lt-ltb _ 10 w.if-d-lt10.true)
  | else-d-lt10 w ↦ rw (w.zero-is, le-ltb _ 10 w.if-d-lt10.false)
]
