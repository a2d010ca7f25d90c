-- Number 12: where it is given, and what a move that it let pass leaves of the counters.
use Rattle.flash.proofs.Kit.{◌≡◌, sym, ap, ◌∙◌, ⊎_elim, ◌≢◌, Bool, true, false, List, [], ◌∷◌, ℕ, ◌+◌, ◌≤◌, ◌<◌, arith, eqb, eqb-true, eq-eqb}
use Rattle.flash.proofs.Kit.{ne_eqb, ltb, ltb-true, ltb-false, get_or, drop}
use Rattle.flash.specs.Lists.{range, count}
use Rattle.flash.specs.Tables.{Row, refusal}
use Rattle.flash.specs.declared.sizes.Sizes.{Sizes}
use Rattle.flash.specs.Geometry.{in_range}
use Rattle.flash.specs.Chip.{Chip}
use Rattle.flash.specs.declared.wear.Wear.{Wear}
use Rattle.flash.specs.Wear.{counter_at}
use Rattle.flash.proofs.Bools.{bool_cases, and_left, and_right, fails}
use Rattle.flash.proofs.Comparisons.{eq-cases}
use Rattle.flash.proofs.Bounds.{range-in}
use Rattle.flash.proofs.Searches.{any-find, count-take, count-drop}
use Rattle.flash.proofs.Ranges.{none_in, length-range, range_at}
use Rattle.flash.proofs.Tables.{refusal-hit, refusal-miss, refusal-zero, refusal-nil}
use Rattle.split.specs.Request.{Request}
use Rattle.method.specs.Place.{operations}
use Rattle.method.specs.Step.{erases_block, operations_from}
use Rattle.method.specs.Worn.{erases_of, wears_out, is_worn_out}
use Rattle.method.specs.Answers.{move_rows, run_rows, steps_taken, RunAnswer, run_carried_out, run_answer}
use Rattle.method.specs.WearCounts.{Counters, WornOut}
use Rattle.method.proofs.basics.AcceptedCalls.{run-taken}
use Rattle.method.proofs.places.ErasesCounted.{erases-counted}
use Rattle.method.proofs.states.RunsAddUp.{run-answer}
use Rattle.method.proofs.demand.RunEvents.{run-number}
use Rattle.method.proofs.wear.EachCounter.{each-worn}

-- a whole move
whole-move : (Z : Sizes) → in_range Z ≡ true → (b : ℕ) → b ≤ Z.n → count (erases_block b) (operations Z) ≡ erases_of Z.n b
unfolding erases_of
whole-move Z h b l = ⊎_elim
    (λ (e : b ≡ 0). rw (eq-eqb b 0 e) (rw e (erases-counted.spare Z h)))
    (λ (ne : b ≢ 0). ⊎_elim
    (λ (e : b ≡ Z.n). rw (ne_eqb b 0 ne, eq-eqb b Z.n e) (rw e (erases-counted.highest Z h)))
    (λ (apart : b ≢ Z.n). rw (ne_eqb b 0 ne, ne_eqb b Z.n apart) (erases-counted.between Z b (omega arith) (omega arith)))
    (eq-cases b Z.n))
    (eq-cases b 0)

module _ (n : ℕ) (wear : Wear) (limit : ℕ) where
  abbrev over : ℕ → Bool
  over b = ltb limit (counter_at wear b + erases_of n b)

  passes : wears_out n wear limit ≡ true → (b : ℕ) × (b ≤ n) × (limit < counter_at wear b + erases_of n b)
  unfolding wears_out
  passes e =
      let found = any-find over (range 0 (n + 1)) 0 e in
      let i = found.0 in
      let low : i < n + 1 = omega (arith, found.1, length-range 0 (n + 1)) in
      let at : get_or (range 0 (n + 1)) i 0 ≡ i = range_at 0 (n + 1) i 0 low ∙ omega arith in
      (i, omega arith, ltb-true limit _ (rw at at found.2))

  keeps : wears_out n wear limit ≡ false → (b : ℕ) → b ≤ n → counter_at wear b + erases_of n b ≤ limit
  unfolding wears_out
  keeps e b h = ltb-false limit _ (none_in over 0 (n + 1) e b (omega arith) (omega arith))

-- ---- the rows of run
-- another number is given by one of the rows after the first
later : (top : Row ℕ) (rows : List (Row ℕ)) (number : ℕ) → refusal (top ∷ rows) ≡ number → top.gives ≢ number → (top.fits ≡ false) × (refusal rows ≡ number)
later top rows number e ne =
    let miss : top.fits ≡ false = fails (λ f. ne (sym (refusal-hit top rows f) ∙ e)) in
    (miss, sym (refusal-miss top rows miss) ∙ e)

module _ (R : Request) (chip : Chip) (work : List ℕ) where
  worn-row : (wear : Wear) (place limit : ℕ) → refusal (run_rows R chip work wear place limit) ≡ 12 → is_worn_out R.sizes.n wear place limit ≡ true
  unfolding run_rows move_rows
  worn-row wear place limit e =
      let one = later _ _ 12 e (λ q. absurd (omega arith)) in
      let two = later _ _ 12 one.1 (λ q. absurd (omega arith)) in
      let three = later _ _ 12 two.1 (λ q. absurd (omega arith)) in
      let eleven = later _ _ 12 three.1 (λ q. absurd (omega arith)) in
      let four = later _ _ 12 eleven.1 (λ q. absurd (omega arith)) in
      let five = later _ _ 12 four.1 (λ q. absurd (omega arith)) in
      let last : Row ℕ = record { fits = is_worn_out R.sizes.n wear place limit; gives = 12 } in
      ⊎_elim
      (λ q. q)
      (λ (q : is_worn_out R.sizes.n wear place limit ≡ false). absurd (omega (arith, five.1, refusal-miss last [] q, refusal-nil)))
      (bool_cases (is_worn_out R.sizes.n wear place limit))

  worn-given : (wear other : Wear) (place limit least : ℕ) → refusal (run_rows R chip work other place least) ≡ 0 → is_worn_out R.sizes.n wear place limit ≡ true
      → refusal (run_rows R chip work wear place limit) ≡ 12
  unfolding run_rows move_rows
  worn-given wear other place limit least e out =
      let one = refusal-zero _ _ (omega arith) e in
      let two = refusal-zero _ _ (omega arith) one.1 in
      let three = refusal-zero _ _ (omega arith) two.1 in
      let eleven = refusal-zero _ _ (omega arith) three.1 in
      let four = refusal-zero _ _ (omega arith) eleven.1 in
      let five = refusal-zero _ _ (omega arith) four.1 in
      refusal-miss _ _ one.0 ∙ refusal-miss _ _ two.0 ∙ refusal-miss _ _ three.0 ∙ refusal-miss _ _ eleven.0 ∙ refusal-miss _ _ four.0
      ∙ refusal-miss _ _ five.0 ∙ refusal-hit _ [] out

at_rest : (R : Request) (chip : Chip) (work : List ℕ) (wear : Wear) (place budget limit : ℕ)
    → (run_answer R chip work wear place budget limit).number ≡ 12 → (place ≡ 0) × (wears_out R.sizes.n wear limit ≡ true)
unfolding is_worn_out
at_rest R chip work wear place budget limit e =
    let out = worn-row R chip work wear place limit (sym (run-number R chip work wear place budget limit) ∙ e) in
    (eqb-true place 0 (and_left (eqb place 0) _ out), and_right (eqb place 0) _ out)

alone : (R : Request) (chip : Chip) (work : List ℕ) (wear other : Wear) (budget limit least : ℕ)
    → refusal (run_rows R chip work other 0 least) ≡ 0 → wears_out R.sizes.n wear limit ≡ true
    → (run_answer R chip work wear 0 budget limit).number ≡ 12
unfolding is_worn_out
alone R chip work wear other budget limit least e out =
    run-number R chip work wear 0 budget limit ∙ worn-given R chip work wear other 0 limit least e out

holds : (R : Request) (chip : Chip) (work : List ℕ) (wear : Wear) (budget limit : ℕ) → Counters wear → refusal (run_rows R chip work wear 0 limit) ≡ 0
    → (b : ℕ) → b ≤ R.sizes.n → counter_at (run_answer R chip work wear 0 budget limit).wear b ≤ limit
unfolding run_carried_out is_worn_out operations_from
holds R chip work wear budget limit C ok b h =
    let T = run-taken R chip work wear 0 limit ok in
    let ranges = T.accepted.ranges in
    let taken = steps_taken R.sizes 0 budget in
    let is = ap (λ (a : RunAnswer). counter_at a.wear b) (run-answer R chip work wear 0 budget limit ok) in
    let each = each-worn (operations_from R.sizes 0 taken) wear C b (omega (arith, ranges.n-high)) in
    let some = count-take (erases_block b) taken (drop 0 (operations R.sizes)) in
    let all = count-drop (erases_block b) 0 (operations R.sizes) in
    let whole = whole-move R.sizes (range-in R.sizes ranges) b h in
    omega (arith, is, each, some, all, whole, keeps R.sizes.n wear limit T.lasts b h)

pub worn-out : WornOut
worn-out = record { erases = whole-move; passes = passes; keeps = keeps; at_rest = at_rest; alone = alone; holds = holds }
