-- The worked cases with dropped pages hold: each by computing the definitions.
use Rattle.flash.proofs.Kit.{refl}
use Rattle.method.specs.Cases.{listing, line_of, chips_from}
use Rattle.method.specs.DropCases.{DropCasesHold}
use Rattle.method.proofs.basics.Open.{all-open}

pub drop-cases-hold : DropCasesHold
unfolding all-open listing line_of chips_from
drop-cases-hold = record {
  starts = record { store_length = refl; marks-length = refl; at_rest = refl; list-accepted = refl; split-correct = refl };
  pairs = (refl, refl, refl, refl);
  lines = refl;
  inner-lines = refl;
  whole = refl;
  reads = (refl, refl, refl);
  states = (refl, refl, refl);
  read_plain = refl;
  read-coded = refl;
  read_dropped = (refl, refl);
  zeros = refl;
  number-3 = ((refl, refl, refl), (refl, refl, refl));
  pinned = (refl, refl, refl, refl);
}
