-- `pair` gives the dropped pages their places: with each turn one page more has its place.
use Rattle.split.proofs.PairLaws.{Pairing}
use Rattle.split.proofs.drops.pair.Given as goal

abbrev pub invariant-loop-k : goal.invariant-loop-k
invariant-loop-k l =
    Pairing l.initial.list l.list l.pages l.places l.place l.k
