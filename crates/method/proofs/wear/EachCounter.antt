-- What operations add to each counter, and to all together.
use Rattle.flash.proofs.Kit.{◌≡◌, sym, ap, ◌∙◌, ⊎_elim, ◌≢◌, List, [], ◌∷◌, ◌++◌, ℕ, zero, suc, ◌+◌, ◌≤◌, ◌<◌, min, arith, length}
use Rattle.flash.proofs.Kit.{get_or, set, get_or-set_same, get_or-set_other, not-suc-le-zero, le_of_suc-le-suc, lt-ltb, le-ltb, eq-eqb, ne_eqb}
use Rattle.flash.specs.Lists.{count, total}
use Rattle.flash.specs.declared.wear.Wear.{Wear}
use Rattle.flash.specs.Wear.{counter_end, counter_count, counter_at, raised, risen}
use Rattle.flash.proofs.CounterLaws.{risen-set, risen-length}
use Rattle.flash.proofs.Comparisons.{eq-cases, lt-cases}
use Rattle.method.specs.Place.{Operation, write, erase, done}
use Rattle.method.specs.Step.{is_erase, erases_block}
use Rattle.method.specs.Worn.{worn_once, worn_by}
use Rattle.method.specs.WearCounts.{Counters, NoneEnded}

-- ---- one erase
raised_is : (counter : ℕ) → counter ≤ counter_end → raised counter ≡ min (counter + 1) counter_end
unfolding raised
raised_is counter h = ⊎_elim
    (λ (l : counter < counter_end). rw (lt-ltb counter counter_end l) (omega arith))
    (λ (l : counter_end ≤ counter). rw (le-ltb counter counter_end l) (omega arith))
    (lt-cases counter counter_end)

module _ (wear : Wear) (C : Counters wear) where
  rises : (b : ℕ) → b < counter_count → counter_at (risen b wear) b ≡ min (counter_at wear b + 1) counter_end
  unfolding counter_at
  rises b h = ap (λ (xs : List ℕ). get_or xs b 0) (risen-set b wear) ∙ get_or-set_same wear.counters b _ 0 (omega (arith, C.length-is)) ∙ raised_is (counter_at wear b) (C.within b h)

  stays : (b c : ℕ) → c ≢ b → counter_at (risen b wear) c ≡ counter_at wear c
  unfolding counter_at
  stays b c apart = ap (λ (xs : List ℕ). get_or xs c 0) (risen-set b wear) ∙ get_or-set_other wear.counters b c _ 0 apart

  risen-counters : (b : ℕ) → Counters (risen b wear)
  risen-counters b = record {
    length-is = risen-length b wear ∙ C.length-is;
    within = λ c h. ⊎_elim
        (λ (e : c ≡ b). rw e (omega (arith, rises b (omega arith))))
        (λ (apart : c ≢ b). omega (arith, stays b c apart, C.within c h))
        (eq-cases c b);
  }

-- ---- operations
pub each-worn : (operations : List Operation) (wear : Wear) → Counters wear → (b : ℕ) → b < counter_count
    → counter_at (worn_by operations wear) b ≡ min (counter_at wear b + count (erases_block b) operations) counter_end
unfolding worn_by worn_once count erases_block
each-worn [] wear C b h = omega (arith, C.within b h)
each-worn (write pass c q ∷ operations) wear C b h = each-worn operations wear C b h
each-worn (done ∷ operations) wear C b h = each-worn operations wear C b h
each-worn (erase c ∷ operations) wear C b h =
    let rest = each-worn operations (risen c wear) (risen-counters wear C c) b h in
    ⊎_elim
    (λ (e : c ≡ b). rw (eq-eqb c b e) (omega (arith, rest, ap (λ (x : ℕ). counter_at (risen x wear) b) e, rises wear C b h)))
    (λ (apart : c ≢ b). rw (ne_eqb c b apart) (omega (arith, rest, stays wear C c b (λ e. apart (sym e)))))
    (eq-cases c b)

pub worn-up : (operations : List Operation) (wear : Wear) → Counters wear → (b : ℕ) → b < counter_count → counter_at wear b ≤ counter_at (worn_by operations wear) b
worn-up operations wear C b h = omega (arith, each-worn operations wear C b h, C.within b h)

-- ---- all counters together
-- every block that is erased has a counter
unfoldable pub HasCounter : Operation → Type 0
HasCounter (write pass b q) = Unit {0}
HasCounter (erase b) = b < counter_count
HasCounter done = Unit {0}

unfoldable pub HaveCounters : List Operation → Type 0
HaveCounters [] = Unit {0}
HaveCounters (operation ∷ operations) = HasCounter operation × HaveCounters operations

pub counters-append : (first second : List Operation) → HaveCounters first → HaveCounters second → HaveCounters (first ++ second)
unfolding HaveCounters
counters-append [] second a b = b
counters-append (operation ∷ first) second a b = (a.0, counters-append first second a.1 b)

total-set : (xs : List ℕ) (i x : ℕ) → i < length xs → total (set xs i x) + get_or xs i 0 ≡ total xs + x
unfolding total
total-set [] i x h = absurd (not-suc-le-zero h)
total-set (y ∷ xs) zero x h = omega arith
total-set (y ∷ xs) (suc i) x h = omega (arith, total-set xs i x (le_of_suc-le-suc h))

total-risen : (wear : Wear) → Counters wear → (b : ℕ) → b < counter_count → counter_at wear b < counter_end
    → total (risen b wear).counters ≡ total wear.counters + 1
unfolding counter_at
total-risen wear C b h l =
    let one : raised (counter_at wear b) ≡ counter_at wear b + 1 = omega (arith, raised_is (counter_at wear b) (omega arith)) in
    ap total (risen-set b wear) ∙ omega (arith, one, total-set wear.counters b (raised (counter_at wear b)) (omega (arith, C.length-is)))

pub total-worn : (operations : List Operation) (wear : Wear) → Counters wear → HaveCounters operations → NoneEnded (worn_by operations wear)
    → total (worn_by operations wear).counters ≡ total wear.counters + count is_erase operations
unfolding worn_by worn_once count is_erase HaveCounters HasCounter
total-worn [] wear C H ends = omega arith
total-worn (write pass b q ∷ operations) wear C H ends = total-worn operations wear C H.1 ends
total-worn (done ∷ operations) wear C H ends = total-worn operations wear C H.1 ends
total-worn (erase b ∷ operations) wear C H ends =
    let rest = total-worn operations (risen b wear) (risen-counters wear C b) H.1 ends in
    let up = worn-up operations (risen b wear) (risen-counters wear C b) b H.0 in
    let below : counter_at wear b < counter_end = omega (arith, up, ends b H.0, rises wear C b H.0) in
    omega (arith, rest, total-risen wear C b H.0 below)
