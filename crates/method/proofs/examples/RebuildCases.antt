-- The worked cases with a page that the chip has given up hold: each by computing the definitions.
use Rattle.flash.proofs.Kit.{refl, ℕ}
use Rattle.method.specs.Rebuild.{apart, added, set_page, zero_slots, rebuilt_from, rebuilt_page, rebuilt_flag, bad_areas, rebuild_rows, rebuilt, rebuild_answer}
use Rattle.method.specs.RebuildCases.{RebuildCasesHold}
use Rattle.method.proofs.basics.Open.{all-open}

pub rebuild-cases-hold : (byte : ℕ) → RebuildCasesHold byte
unfolding all-open apart added set_page zero_slots rebuilt_from rebuilt_page rebuilt_flag bad_areas rebuild_rows rebuilt rebuild_answer
rebuild-cases-hold byte = record {
  other-sum = refl;
  other-slots = refl;
  sum-of-three = refl;
  own-sum = refl;
  final-page = refl;
  lost-full = refl;
  lost-torn = refl;
  all-torn = refl;
  torn-slot = refl;
  one_set = refl;
  own-zero-sum = refl;
  other-set = (refl, refl, refl);
  number-7 = refl;
  number-6 = refl;
  number-3 = refl;
  number-11 = refl;
  number-4 = refl;
  number-2 = (refl, refl);
  number-1 = refl;
}
