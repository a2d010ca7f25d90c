-- The pair of the highest count: the update rule, and what calls and lists of them keep.
use Rattle.flash.proofs.Kit.{◌≡◌, refl, sym, ◌∙◌, subst, List, [], ◌∷◌, ℕ, arith, length, lt-ltb, le-ltb}
use Rattle.flash.proofs.Kit.{eq-eqb, ne_eqb}
use Rattle.flash.specs.Chip.{Chip}
use Rattle.flash.specs.declared.wear.Wear.{Wear}
use Rattle.flash.specs.Wear.{counter_count, counter_at, raised, replaces, noted, risen, refreshed, PairCorrect, unworn}
use Rattle.flash.proofs.CounterLaws.{risen-length, risen-correct, refreshed-counters, refreshed-correct, correct-once}
use Rattle.method.specs.Place.{Operation, write, erase, done}
use Rattle.method.specs.Worn.{worn_once, worn_by}
use Rattle.method.specs.Events.{Call, Event, History, steps_of, wear_given, wear_returned, wear_at_end, operations_reported}
use Rattle.method.specs.WearCounts.{Counters, Carried}
use Rattle.method.specs.HighestCounter.{Updates, PairCases, HighestCounter}
use Rattle.method.proofs.basics.Open.{all-open}
use Rattle.method.proofs.wear.EachCounter.{HasCounter, HaveCounters}
use Rattle.method.proofs.wear.CallsWear.{every_call}
use Rattle.method.proofs.wear.WearCounts.{all-reported}

rule : (block : ℕ) (wear : Wear) → Updates block wear (risen block wear)
unfolding risen noted replaces
rule block wear =
    let count : ℕ = raised (counter_at wear block) in
    record {
      higher = λ h. rw (lt-ltb wear.highest count h) (refl, refl);
      equal-below = λ e l. rw (le-ltb wear.highest count (omega arith), eq-eqb count wear.highest e, lt-ltb block wear.block l) (e, refl);
      equal-above = λ e l. rw (le-ltb wear.highest count (omega arith), eq-eqb count wear.highest e, le-ltb block wear.block l) (refl, refl);
      lower = λ h. rw (le-ltb wear.highest count (omega arith), ne_eqb count wear.highest (λ e. omega arith)) (refl, refl);
    }

-- ---- operations whose erased blocks have a counter keep a correct pair
worn-correct : (operations : List Operation) (wear : Wear) → length wear.counters ≡ counter_count → HaveCounters operations → PairCorrect wear
    → PairCorrect (worn_by operations wear)
unfolding worn_by worn_once HaveCounters HasCounter
worn-correct [] wear long H C = C
worn-correct (write pass b q ∷ operations) wear long H C = worn-correct operations wear long H.1 C
worn-correct (done ∷ operations) wear long H C = worn-correct operations wear long H.1 C
worn-correct (erase b ∷ operations) wear long H C =
    worn-correct operations (risen b wear) (risen-length b wear ∙ long) H.1
    (risen-correct b wear long H.0 C)

call-keeps : (call : Call) (chip : Chip) (kept : Wear) → Counters (wear_given call kept) → PairCorrect (wear_given call kept) → PairCorrect (wear_returned call chip kept)
call-keeps call chip kept G C =
    let W = every_call call chip kept in
    subst PairCorrect (sym W.worn) (worn-correct (steps_of call chip) (wear_given call kept) G.length-is W.have-counters C)

list-keeps : (events : List Event) (h : History) (kept : Wear) → Counters kept → Carried events h kept → PairCorrect kept → PairCorrect (wear_at_end events h kept)
list-keeps events h kept G carried C =
    let R = all-reported events h kept carried in
    subst PairCorrect (sym R.worn) (worn-correct (operations_reported events h) kept G.length-is R.have-counters C)

-- ---- a fresh pair
fresh-same : (wear : Wear) → PairCorrect wear → refreshed wear ≡ wear
fresh-same wear C = correct-once counter_count (refreshed wear) wear (refreshed-counters wear) (refreshed-correct wear) C

fresh-unworn : refreshed unworn ≡ unworn
unfolding all-open
fresh-unworn = refl

cases : PairCases
unfolding all-open
cases = record {
  whole-move = refl;
  too-high = refl;
  equal-below = refl;
  equal-above = refl;
  refused = refl;
  at-the-end = refl;
  afresh = (refl, refl, refl);
}

pub highest-kept : HighestCounter
highest-kept = record {
  rule = rule;
  by-rule = λ call chip kept. (every_call call chip kept).worn;
  call-keeps = call-keeps;
  list-keeps = list-keeps;
  afresh = λ wear. (refreshed-correct wear, refreshed-counters wear);
  one-pair = λ one other. correct-once counter_count one other;
  call-fresh = λ call chip kept G C. fresh-same (wear_returned call chip kept) (call-keeps call chip kept G C);
  new = subst PairCorrect fresh-unworn (refreshed-correct unworn);
  cases = cases;
}
