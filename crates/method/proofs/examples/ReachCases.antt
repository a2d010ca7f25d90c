-- The worked cases of the reach of one page hold: each by computing the definitions.
use Rattle.flash.proofs.Kit.{refl, lit<}
use Rattle.flash.specs.Lists.{total}
use Rattle.method.specs.Reach.{lies, is_reached, reached, slots_apart, runs_of}
use Rattle.method.specs.ReachCases.{ReachCasesHold}
use Rattle.method.proofs.basics.Open.{all-open}

unfoldable pub reach-open : Unit {0}
unfolding all-open lies is_reached reached slots_apart runs_of total
reach-open = tt

pub reach-cases-hold : ReachCasesHold
unfolding reach-open
reach-cases-hold = record {
  changed = record {
    one-starts = record { store_length = refl; marks-length = refl; at_rest = refl; list-accepted = refl; split-correct = refl };
    other-starts = record { store_length = refl; marks-length = refl; at_rest = refl; list-accepted = refl; split-correct = refl };
    inside = lit< {m = 2} {n = 3} tt;
    kept = refl;
    single = refl;
  };
  lasting = record { work-length = refl; lasts = refl };
  from-the-top = refl;
  between = refl;
  to-the-top = refl;
  told = refl;
  dropped = (refl, refl);
  offsets = (refl, refl);
  budgets = (refl, refl);
}
