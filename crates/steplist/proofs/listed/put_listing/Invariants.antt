-- The loop over the places shows every step once and counts them; with the end line that is the listing of the move.
use Rattle.split.specs.Request.{unpinned}
use Rattle.method.specs.Move.{plan}
use Rattle.method.specs.Step.{running_of}
use Rattle.steplist.proofs.ListingLaws.{Shows}
use Rattle.steplist.proofs.listed.put_listing.Given as goal

abbrev pub invariant-loop-place : goal.invariant-loop-place
invariant-loop-place l =
    Shows (plan (unpinned l.sizes l.list l.sets))
    (running_of l.initial.store l.initial.marks l.initial.work) l.place l.at l.writes l.erases l.initial.out l.out l.store l.marks l.work
