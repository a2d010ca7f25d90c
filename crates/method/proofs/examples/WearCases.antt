-- The worked cases with counters of erases hold: each by computing the definitions.
use Rattle.flash.proofs.Kit.{refl}
use Rattle.method.specs.Events.{starting, number_of, mend_steps, steps_of, chip_after, chip_returned, returns_finished, is_mend, returned, cut_short, after_call, after}
use Rattle.method.specs.Events.{wear_given, wear_returned, erases_returned, returns, wear_after, wear_at_end, erases_reported}
use Rattle.method.specs.WearCounts.{Carried}
use Rattle.method.specs.WearCases.{WearCasesHold}
use Rattle.method.proofs.basics.Open.{all-open}

pub wear-cases-hold : WearCasesHold
unfolding all-open starting number_of mend_steps steps_of chip_after chip_returned returns_finished is_mend returned cut_short after_call after wear_given wear_returned erases_returned returns wear_after wear_at_end erases_reported Carried
wear-cases-hold = record {
  limit-met = (refl, refl);
  each-block = (refl, refl, refl, refl, refl);
  above = refl;
  no_wrap = (refl, refl);
  begins = (refl, refl, refl);
  ended = refl;
  mended = (refl, refl);
  again = (refl, refl, refl, refl);
  left = (refl, refl);
  cut = ((refl, (refl, (refl, tt))), refl, refl);
}
