-- The claims of crate listing: printed numbers are read as themselves, and the worked inputs and lines.
use Rattle.listing.proofs.ReadBack.{printed-is-read}
use Rattle.listing.proofs.Exampled.{examples}
use Rattle.listing.proofs.claims.Goals as goal

pub returns : goal.returns
returns c = record { printed_is_read = printed-is-read; examples = examples }
