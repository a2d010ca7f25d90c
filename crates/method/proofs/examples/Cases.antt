-- The worked cases hold: each by computing the definitions.
use Rattle.flash.proofs.Kit.{refl, ℕ}
use Rattle.method.specs.Cases.{listing, line_of, figure, written_at, chips_from, sum_of_bits, CasesHold}
use Rattle.method.proofs.basics.Open.{all-open}
use Rattle.method.proofs.examples.Largest.{largest-split, largest-run, largest-read}
use Rattle.method.proofs.examples.ExampleCuts.{cuts-open, cut-by-slots}

pub cases-hold : (byte : ℕ) → CasesHold byte
unfolding all-open cuts-open listing line_of figure written_at chips_from sum_of_bits
cases-hold byte = record {
  p1 = refl;
  p2 = refl;
  p3 = (refl, refl);
  p4 = refl;
  p5 = (refl, (refl, refl, refl));
  p6 = ((refl, refl, refl), refl);
  p7 = ((refl, refl, refl), refl, refl, largest-split, largest-run, refl, largest-read);
  p8 = (refl, refl);
  p9 = (refl, cut-by-slots _ _ _ _ refl refl refl, refl, refl);
  p9-on = (refl, refl);
  half-written = ((cut-by-slots _ _ _ _ refl refl refl, refl, refl, refl), (cut-by-slots _ _ _ _ refl refl refl, refl, refl, refl));
  p10 = refl;
  p11 = refl;
  number-2 = (refl, refl, refl, refl);
  number-4 = (refl, refl);
  number-6 = ((refl, refl), (refl, refl), (refl, refl));
  number-7 = refl;
  bytes = (refl, refl, refl, refl);
  pins = (refl, refl, refl, refl, refl, refl);
  program = refl;
  program-end = refl;
  program-reads = (refl, refl);
  figure-2 = refl;
  figure-bytes = (refl, refl);
  states = (refl, refl, refl);
}
