-- The theorems that are claimed of the split.
use Rattle.split.proofs.Claimed.{split-ends, walk_ends, walk-is-short, walk-bound-met, completes, no-drops, drop-cases, filled-fits}
use Rattle.split.proofs.PinLaws.{split-pin-first}
use Rattle.split.proofs.claims.Goals as goal

pub returns : goal.returns
returns c = record { split_ends = split-ends; walk_ends = walk_ends; walk_is_short = walk-is-short; walk_bound_met = walk-bound-met; completes = completes; no_drops = no-drops; drop_cases = drop-cases; filled_fits = filled-fits; pin_first = split-pin-first }
