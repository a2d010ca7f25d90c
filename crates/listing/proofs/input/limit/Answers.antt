-- `limit` leaves of an input what counts: longer input ends in a byte that no number has.
use Rattle.listing.proofs.InputLaws.{limit-kept, limit-cut}
use Rattle.listing.proofs.input.limit.Goals as goal

pub returns-then-input-le-INPUT_LIMIT : goal.returns-then-input-le-INPUT_LIMIT
returns-then-input-le-INPUT_LIMIT c = limit-kept c.args.input.now c.if-input-le-INPUT_LIMIT.true

pub returns : goal.returns
returns c = limit-cut c.args.input.now c.if-input-le-INPUT_LIMIT.false
