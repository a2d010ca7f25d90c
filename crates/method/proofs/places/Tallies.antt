-- What is counted of the steps: of a list of operations, and of a run, whole, in two parts and step by step.
use Rattle.flash.proofs.Kit.{◌≡◌, refl, sym, ap, ap₂, ◌∙◌, ⊎_elim, List, ◌∷◌, ◌++◌, ℕ, zero, suc, ◌+◌, ◌/◌, ◌≤◌, ◌<◌, zero-add, suc-add, add-suc}
use Rattle.flash.proofs.Kit.{add-zero, arith, take, drop, drop-cons, take-add, drop-drop}
use Rattle.flash.specs.Lists.{count}
use Rattle.flash.specs.declared.sizes.Sizes.{Sizes}
use Rattle.method.specs.declared.tally.Tally.{Tally}
use Rattle.method.specs.Move.{Plan}
use Rattle.method.specs.Place.{Operation, write, erase, done, operations, last_place, operation_at, filled}
use Rattle.method.specs.Step.{Running, step, steps, is_write, is_erase, operations_from, nothing_done, tallied, tally_of, added}
use Rattle.method.specs.Claims.{StepsCounted}
use Rattle.method.proofs.places.StepsAtPlaces.{page-cases, operation-writes, operation-erases}
use Rattle.method.proofs.places.StepsCounted.{steps-counted}
use Rattle.method.proofs.places.Turns.{turn-writes, turn-erases}
use Rattle.method.proofs.states.StepsAddUp.{steps-add}

-- ---- the steps from a place on
module _ (Z : Sizes) where
  open Z use {m}

  -- first some, then the others from the place reached
  pub operations_from-split : (place a b : ℕ) → operations_from Z place (a + b) ≡ operations_from Z place a ++ operations_from Z (place + a) b
  unfolding operations_from
  operations_from-split place a b =
      take-add a b (drop place (operations Z))
      ∙ ap (λ (l : List Operation). take a (drop place (operations Z)) ++ take b l) (drop-drop a place (operations Z))

  pub operations_from-suc : (place count : ℕ) → place < last_place Z → operations_from Z place (suc count) ≡ operation_at Z place ∷ operations_from Z (suc place) count
  unfolding operations_from operation_at StepsCounted
  operations_from-suc place count h = ap (take (suc count)) (drop-cons (operations Z) place done (rw (steps-counted Z) h))

  -- a step is a write, or an erase where it ends a turn
  first_counted : (place : ℕ) (ops : List Operation) → place < last_place Z
      → (count is_write (operation_at Z place ∷ ops) + count is_erase (operation_at Z place ∷ ops) ≡ suc (count is_write ops + count is_erase ops))
      × (count is_erase (operation_at Z place ∷ ops) + place / (m + 1) ≡ count is_erase ops + suc place / (m + 1))
  unfolding count is_write is_erase
  first_counted place ops h = ⊎_elim
      (λ (k : filled Z place < m). (let e = turn-writes Z place k in rw (operation-writes Z place h k) (omega arith, omega arith)))
      (λ (k : filled Z place ≡ m). (let e = turn-erases Z place k in rw (operation-erases Z place h k) (omega arith, omega arith)))
      (page-cases Z place)

  -- rule 4.3: a step is a write or an erase
  pub writes-and-erases : (taken place : ℕ) → place + taken ≤ last_place Z
      → count is_write (operations_from Z place taken) + count is_erase (operations_from Z place taken) ≡ taken
  unfolding count operations_from
  writes-and-erases zero place h = refl
  writes-and-erases (suc taken) place h =
      ap (λ (l : List Operation). count is_write l + count is_erase l) (operations_from-suc place taken (omega arith))
      ∙ (first_counted place (operations_from Z (suc place) taken) (omega arith)).0 ∙ ap suc (writes-and-erases taken (suc place) (omega arith))

  -- an erase for each turn that the steps end
  pub erases-in : (taken place : ℕ) → place + taken ≤ last_place Z → count is_erase (operations_from Z place taken) + place / (m + 1) ≡ (place + taken) / (m + 1)
  unfolding count operations_from
  erases-in zero place h = omega (arith, ap (λ (p : ℕ). p / (m + 1)) (add-zero place))
  erases-in (suc taken) place h =
      let at : suc place + taken ≡ place + suc taken = omega arith in
      ap (λ (l : List Operation). count is_erase l + place / (m + 1)) (operations_from-suc place taken (omega arith))
      ∙ (first_counted place (operations_from Z (suc place) taken) (omega arith)).1
      ∙ erases-in taken (suc place) (omega arith)
      ∙ ap (λ (p : ℕ). p / (m + 1)) at

-- ---- the tally of a run
same-tally : {s t : Tally} → s.steps ≡ t.steps → s.writes ≡ t.writes → s.erases ≡ t.erases → s.bytes ≡ t.bytes → s.reads ≡ t.reads → s ≡ t
same-tally a b c d e = λ i. record { steps = a i; writes = b i; erases = c i; bytes = d i; reads = e i }

module _ (X : Plan) where
  abbrev Z : Sizes
  Z = X.move.sizes

  -- one step first, or as part of the first of two runs
  tallied-added : (op : Operation) (marks work : List ℕ) (s t : Tally) → tallied X op marks work (added s t) ≡ added (tallied X op marks work s) t
  unfolding tallied
  tallied-added (write pass b q) marks work s t = same-tally (omega arith) (omega arith) refl (omega arith) (omega arith)
  tallied-added (erase b) marks work s t = same-tally (omega arith) refl (omega arith) refl refl
  tallied-added done marks work s t = refl

  -- one step last
  tallied-last : (op : Operation) (marks work : List ℕ) (t : Tally) → added t (tallied X op marks work nothing_done) ≡ tallied X op marks work t
  unfolding tallied
  tallied-last (write pass b q) marks work t = same-tally refl refl (omega arith) (omega arith) (omega arith)
  tallied-last (erase b) marks work t = same-tally refl (omega arith) refl (omega arith) (omega arith)
  tallied-last done marks work t = same-tally (omega arith) (omega arith) (omega arith) (omega arith) (omega arith)

  -- some steps, and then more
  pub tally-split : (a b place : ℕ) (run : Running)
      → tally_of X (a + b) place run ≡ added (tally_of X a place run) (tally_of X b (place + a) (steps X a place run))
  unfolding tally_of steps
  tally-split zero b place run =
      ap₂ (λ (x y : ℕ). tally_of X x y run) (zero-add b) (sym (add-zero place)) ∙ same-tally (omega arith) (omega arith) (omega arith) (omega arith) (omega arith)
  tally-split (suc a) b place run =
      let next : Running = step X place run in
      let done = tallied X (operation_at Z place) run.chip.marks next.work in
      ap (λ (x : ℕ). tally_of X x place run) (suc-add a b) ∙ ap done (tally-split a b (suc place) next)
      ∙ tallied-added (operation_at Z place) run.chip.marks next.work _ _
      ∙ ap (λ (x : ℕ). added (done (tally_of X a (suc place) next)) (tally_of X b x (steps X a (suc place) next))) (suc-add place a ∙ sym (add-suc place a))

  -- one step more
  pub tally-next : (i place : ℕ) (run : Running)
      → tally_of X (i + 1) place run
      ≡ tallied X (operation_at Z (place + i)) (steps X i place run).chip.marks (steps X (i + 1) place run).work (tally_of X i place run)
  unfolding tally_of steps
  tally-next i place run =
      let now : Running = steps X i place run in
      tally-split i 1 place run ∙ tallied-last (operation_at Z (place + i)) now.chip.marks (step X (place + i) now).work (tally_of X i place run)
      ∙ ap (λ (r : Running). tallied X (operation_at Z (place + i)) now.chip.marks r.work (tally_of X i place run)) (sym (steps-add X i 1 place run))

  -- its writes and erases are those of the operations
  counted-first : (op : Operation) (marks work : List ℕ) (t : Tally) (ops : List Operation) → t.writes ≡ count is_write ops → t.erases ≡ count is_erase ops
      → ((tallied X op marks work t).writes ≡ count is_write (op ∷ ops)) × ((tallied X op marks work t).erases ≡ count is_erase (op ∷ ops))
  unfolding tallied count is_write is_erase
  counted-first (write pass b q) marks work t ops e f = (omega arith, f)
  counted-first (erase b) marks work t ops e f = (e, omega arith)
  counted-first done marks work t ops e f = (e, f)

  pub tally-counts : (taken place : ℕ) (run : Running) → place + taken ≤ last_place Z
      → ((tally_of X taken place run).writes ≡ count is_write (operations_from Z place taken))
      × ((tally_of X taken place run).erases ≡ count is_erase (operations_from Z place taken))
  unfolding tally_of count operations_from
  tally-counts zero place run h = (refl, refl)
  tally-counts (suc taken) place run h =
      let next : Running = step X place run in
      let rest = tally-counts taken (suc place) next (omega arith) in
      rw (operations_from-suc Z place taken (omega arith)) (counted-first (operation_at Z place) _ next.work _ (operations_from Z (suc place) taken) rest.0 rest.1)

  stepped-first : (place : ℕ) (marks work : List ℕ) (t : Tally) → place < last_place Z → (tallied X (operation_at Z place) marks work t).steps ≡ suc t.steps
  unfolding tallied
  stepped-first place marks work t h = ⊎_elim
      (λ (k : filled Z place < Z.m). rw (operation-writes Z place h k) (omega arith))
      (λ (k : filled Z place ≡ Z.m). rw (operation-erases Z place h k) (omega arith))
      (page-cases Z place)

  -- as many steps are counted as are taken
  pub steps-tallied : (taken place : ℕ) (run : Running) → place + taken ≤ last_place Z → (tally_of X taken place run).steps ≡ taken
  unfolding tally_of
  steps-tallied zero place run h = refl
  steps-tallied (suc taken) place run h =
      stepped-first place _ _ _ (omega arith) ∙ ap suc (steps-tallied taken (suc place) (step X place run) (omega arith))

  -- no count of steps is above the steps taken
  pub few-tallied : (taken place : ℕ) (run : Running) → place + taken ≤ last_place Z
      → (let t = tally_of X taken place run in (t.steps ≤ taken) × (t.writes ≤ taken) × (t.erases ≤ taken))
  few-tallied taken place run h =
      let counts = tally-counts taken place run h in
      let total = writes-and-erases Z taken place h in
      (omega (arith, steps-tallied taken place run h), omega arith, omega arith)
