-- A run step by step: what one step more leaves and counts, and the work page in the end.
use Rattle.std.specs.Prelude.{Ok}
use Rattle.flash.proofs.Kit.{◌≡◌, refl, sym, ap, ◌∙◌, ◌≢◌, ⊎_elim, false, List, [], ℕ, zero, suc, ◌+◌, ◌-◌, ◌*◌, ◌≤◌, ◌<◌, min}
use Rattle.flash.proofs.Kit.{add-one, arith, eqb}
use Rattle.flash.specs.declared.sizes.Sizes.{Sizes}
use Rattle.flash.specs.Geometry.{Bounds, slot, slot_count, store_len}
use Rattle.flash.specs.Chip.{Chip, page_at}
use Rattle.flash.specs.declared.wear.Wear.{Wear}
use Rattle.flash.specs.Wear.{risen}
use Rattle.flash.proofs.Bounds.{block-in-marks, block-in-store, slot-in-marks, slot-in-store, product_le}
use Rattle.flash.proofs.Chips.{erase-page-other}
use Rattle.method.specs.declared.tally.Tally.{Tally}
use Rattle.method.specs.Move.{Plan, AcceptedMove, Lent}
use Rattle.method.specs.Place.{Pass, forward, backward, Operation, write, erase, done, operation_at, last_place, pass_at, filling, filled}
use Rattle.method.specs.Step.{running_of, Running, perform, step, steps, operations_from, nothing_done, tallied, tally_of}
use Rattle.method.specs.Worn.{worn_once, worn_by}
use Rattle.method.specs.Answers.{is_elsewhere, steps_taken, run_carried_out}
use Rattle.method.proofs.basics.AcceptedCalls.{stands_at}
use Rattle.method.proofs.states.StepsAddUp.{steps-add}
use Rattle.method.proofs.states.StepsLeadOn.{Stood, steps-stand}
use Rattle.method.proofs.states.RunsCount.{page-kept, few_bytes}
use Rattle.method.proofs.states.ReadsCounted.{few-reads}
use Rattle.method.proofs.places.PagesHeld.{Change, by-write, by-erase, change}
use Rattle.method.proofs.places.StepsAtPlaces.{next_block, page-cases, backward-low, after_write, after-erase, operation-writes, filling-in}
use Rattle.method.proofs.wear.WornLaws.{worn-next}
use Rattle.method.proofs.places.Tallies.{tally-next, few-tallied}
use Rattle.places.specs.declared.place.Place.{Place}
use Rattle.places.specs.inner.Place.{place_of}
use Rattle.places.proofs.PlaceLaws.{last-small}
use Rattle.mover.specs.Answers.{run_as}
use Rattle.mover.specs.inner.Steps.{last_slot}

pub none-taken : (X : Plan) (place : ℕ) (run : Running) → run.chip ≡ (steps X 0 place run).chip
unfolding steps
none-taken X place run = refl

pub none-counted : (X : Plan) (place : ℕ) (run : Running) → nothing_done ≡ tally_of X 0 place run
unfolding tally_of
none-counted X place run = refl

-- what becomes of the chip does not hang on the work page
performed : (X : Plan) (run : Running) (op : Operation) → (perform X op (record { chip = run.chip; work = [] })).chip ≡ (perform X op run).chip
unfolding perform
performed X run (write pass block page) = refl
performed X run (erase block) = refl
performed X run done = refl

-- nor does what is counted: of a write its own page, of an erase none
counted-by : (X : Plan) (run : Running) (op : Operation) (t : Tally)
    → tallied X op run.chip.marks (perform X op (record { chip = run.chip; work = [] })).work t ≡ tallied X op run.chip.marks (perform X op run).work t
unfolding perform tallied
counted-by X run (write pass block page) t = refl
counted-by X run (erase block) t = refl
counted-by X run done t = refl

module _ (X : Plan) (place i : ℕ) where
  pub one-taken : (start : Running) (chip next : Chip) → chip ≡ (steps X i place start).chip
      → next ≡ (step X (place + i) (record { chip = chip; work = [] })).chip → next ≡ (steps X (i + 1) place start).chip
  unfolding steps step
  one-taken start chip next e f = rw (steps-add X i 1 place start) (f ∙ rw e (performed X (steps X i place start) (operation_at X.move.sizes (place + i))))

  pub one-counted : (start : Running) (chip : Chip) (tally next : Tally) → chip ≡ (steps X i place start).chip → tally ≡ tally_of X i place start
      → next ≡ tallied X (operation_at X.move.sizes (place + i)) chip.marks (step X (place + i) (record { chip = chip; work = [] })).work tally
      → next ≡ tally_of X (i + 1) place start
  unfolding steps step
  one-counted start chip tally next c e f =
      f ∙ rw (c, e) (counted-by X (steps X i place start) (operation_at X.move.sizes (place + i)) (tally_of X i place start))
      ∙ sym (rw (steps-add X i 1 place start) at (tally-next X i place start))

-- ---- the counters
pub none-worn : (Z : Sizes) (place : ℕ) (wear : Wear) → wear ≡ worn_by (operations_from Z place 0) wear
unfolding worn_by operations_from
none-worn Z place wear = refl

module _ (Z : Sizes) (place i : ℕ) (on : place + i < last_place Z) where
  pub erase-worn : (block : ℕ) (wear first next : Wear) → operation_at Z (place + i) ≡ erase block → wear ≡ worn_by (operations_from Z place i) first
      → next ≡ risen block wear → next ≡ worn_by (operations_from Z place (i + 1)) first
  unfolding worn_once
  erase-worn block wear first next is e f = f ∙ rw (worn-next Z place i first on, is, ← e)

  -- a block that is not full gets a page
  pub write-worn : filled Z (place + i) ≢ Z.m → (wear first : Wear) → wear ≡ worn_by (operations_from Z place i) first
      → wear ≡ worn_by (operations_from Z place (i + 1)) first
  unfolding worn_once
  write-worn ne wear first e = ⊎_elim
      (λ (k : filled Z (place + i) < Z.m). e ∙ sym (worn-next Z place i first on ∙ rw (operation-writes Z (place + i) on k)))
      (λ (k : filled Z (place + i) ≡ Z.m). absurd (ne k))
      (page-cases Z (place + i))

-- ---- the steps of a run are in the move, and the move has few
pub run-fits : (Z : Sizes) → Bounds Z → (chip : Chip) (place budget last taken : ℕ) → is_elsewhere Z chip place ≡ false
    → last ≡ last_place Z → taken ≡ min budget (last - place) → (place + taken ≤ last_place Z) × (last_place Z ≤ 8320)
run-fits Z B chip place budget last taken here e f =
    let inside = (stands_at Z chip place here).inside in
    (omega (arith, e, f, inside), last-small Z B)

-- ---- what the place of a last step tells, and where the slot of the last write lies
module _ (Z : Sizes) (B : Bounds Z) (at : ℕ) (in-move : at ≤ last_place Z) where
  pub last-told : (here : Place) → here ≡ place_of Z at → (here.block ≡ filling Z at) × (here.page ≡ filled Z at) × (here.block * Z.m ≤ 4096)
  unfolding place_of
  last-told here e =
      let block : here.block ≡ filling Z at = ap (λ (p : Place). p.block) e in
      let high = filling-in Z at in-move in
      (block, ap (λ (p : Place). p.page) e, product_le here.block Z.m {c = 64} {d = 64} (omega (arith, B.n-high)) B.m-high)

  pub last-inside : (last_slot Z at ≤ 4160) × (last_slot Z at * Z.p + Z.p ≤ store_len Z) × (store_len Z ≤ 17039360)
  last-inside =
      let inside : last_slot Z at < slot_count Z = slot-in-marks Z _ _ (filling-in Z at in-move) (omega (arith, B.m-low)) in
      let slots = product_le (Z.n + 1) Z.m {c = 65} {d = 64} (omega (arith, B.n-high)) B.m-high in
      (omega arith, slot-in-store Z (last_slot Z at) inside, product_le (slot_count Z) Z.p {c = 4160} {d = 4096} slots B.p-high)

-- ---- the answer of a run that is carried out
pub carried : (X : Plan) (store marks work : List ℕ) (wear : Wear) (place budget last taken : ℕ) (store' marks' work' : List ℕ) (tally : Tally) (wear' : Wear)
    → last ≡ last_place X.move.sizes → taken ≡ min budget (last - place)
    → ◌≡◌ {A = Chip} (record { store = store'; marks = marks' }) (steps X taken place (running_of store marks work)).chip
    → work' ≡ (steps X taken place (running_of store marks work)).work → tally ≡ tally_of X taken place (running_of store marks work)
    → wear' ≡ worn_by (operations_from X.move.sizes place taken) wear
    → run_as (Ok (record { place = place + taken; tally = tally; finished = eqb (place + taken) last })) store' marks' work' wear'
    ≡ run_carried_out X (record { store = store; marks = marks }) work wear place (steps_taken X.move.sizes place budget)
unfolding run_carried_out steps_taken
carried X store marks work wear place budget last taken store' marks' work' tally wear' e f L W C D =
    let t : taken ≡ min budget (last_place X.move.sizes - place) = rw e at f in
    rw (← t, ← e, C, ← L, ← W, D)

-- ---- a run that goes on: after so many steps it stands at the place that they lead to
module _ (X : Plan) (A : AcceptedMove X.move) (run : Running) (place : ℕ) (L : Lent X.move.sizes run.chip run.work)
    (here : is_elsewhere X.move.sizes run.chip place ≡ false) where
  open X.move.sizes use {m, p as P}

  abbrev Z : Sizes
  Z = X.move.sizes

  abbrev after : (i : ℕ) → Running
  after i = steps X i place run

  begins : Stood X A run place
  begins = record { lent = L; stands = stands_at Z run.chip place here }

  stood : (i : ℕ) → place + i ≤ last_place Z → Stood X A (after i) (place + i)
  stood i h = steps-stand X A i place run h begins

  pub goes_on : (i : ℕ) → place + i ≤ last_place Z → (chip : Chip) → chip ≡ (after i).chip → Stood X A (record { chip = chip; work = (after i).work }) (place + i)
  goes_on i h chip e = rw e (stood i h)

  -- ---- what it counts is small
  pub counts-fit : (i : ℕ) (tally : Tally) → place + i ≤ last_place Z → tally ≡ tally_of X i place run
      → (tally.steps ≤ 8320) × (tally.writes ≤ 8320) × (tally.erases ≤ 8320) × (tally.bytes ≤ 8320 * 4096) × (tally.reads ≤ 8320 * 64)
  counts-fit i tally h e =
      let few = last-small Z A.ranges in
      let counts = few-tallied X i place run h in
      let writes = (tally_of X i place run).writes in
      let bytes = few_bytes X A run place begins i h in
      let reads = few-reads X A run place begins i h in
      rw e (
        omega arith,
        omega arith,
        omega arith,
        omega (arith, bytes, product_le writes P {c = 8320} {d = 4096} (omega arith) A.ranges.p-high),
        omega (arith, reads, product_le writes Z.n {c = 8320} {d = 64} (omega arith) A.ranges.n-high),
      )

  -- ---- its work page: the old one where nothing was written, or else the page of the slot that was written last
  abbrev writes_in : (i : ℕ) → ℕ
  writes_in i = (tally_of X i place run).writes

  pub record WorkLeft (i : ℕ) : Type 0 where
    pub old : writes_in i ≡ 0 → (after i).work ≡ run.work
    pub new : 0 < writes_in i → (after i).work ≡ page_at P (after i).chip (last_slot Z (place + i - 1))

  -- an erase comes behind the write of the last page of the block that was filled, and erases another
  behind-full : (at : ℕ) → suc at ≤ last_place Z → filled Z (suc at) ≡ m → last_slot Z at ≡ slot m (filling Z (suc at)) (m - 1)
  behind-full at h full = ⊎_elim
      (λ (k : filled Z at < m).
      let S = after_write Z at (omega arith) k in
      let page : min (filled Z at) (m - 1) ≡ m - 1 = omega (arith, S.pages-is) in
      rw (S.block-is, page))
      (λ (k : filled Z at ≡ m). absurd (omega (arith, (after-erase Z at (omega arith) k).pages-is, A.ranges.m-low)))
      (page-cases Z at)

  next-other : (at : ℕ) → at < last_place Z → (pass : Pass) → pass_at Z at ≡ pass → filling Z at ≢ next_block pass (filling Z at)
  next-other at h forward e f = omega arith
  next-other at h backward e f = omega (arith, backward-low Z at h e)

  module _ (i : ℕ) (on : place + i < last_place Z) (before : WorkLeft i) where
    abbrev at : ℕ
    at = place + i

    last-is : place + (i + 1) - 1 ≡ at
    last-is = omega arith

    done-is : (op : Operation) → operation_at Z at ≡ op
        → (after (i + 1) ≡ perform X op (after i)) × (writes_in (i + 1) ≡ (tallied X op (after i).chip.marks (after (i + 1)).work (tally_of X i place run)).writes)
    unfolding steps step
    done-is op is = rw (← is) (steps-add X i 1 place run, ap (λ (t : Tally). t.writes) (tally-next X i place run))

    work-next : Change Z at → WorkLeft (i + 1)
    unfolding perform tallied
    work-next (by-write room op W) =
        let d = done-is _ op in
        let page : min (filled Z at) (m - 1) ≡ filled Z at = omega arith in
        record { old = λ e. absurd (omega (arith, d.1)); new = λ e. rw (last-is, page) (page-kept X A run place begins i on room op W) }
    work-next (by-erase full op E) =
        let S = stood i (omega arith) in
        let d = done-is _ op in
        let b : ℕ = next_block (pass_at Z at) (filling Z at) in
        let page : min (filled Z at) (m - 1) ≡ m - 1 = omega arith in
        let other = next-other at on (pass_at Z at) refl in
        let stays = erase-page-other m P b (after i).chip (rw S.lent.store_length (block-in-store Z b E.block_in))
        (rw S.lent.marks-length (block-in-marks Z b E.block_in)) (m - 1) (omega (arith, A.ranges.m-low)) (filling Z at) other in
        record {
          old = λ e. rw d.0 (before.old (sym d.1 ∙ e));
          new = λ e.
              let some : 0 < writes_in i = omega (arith, d.1) in
              let back : suc (at - 1) ≡ at = omega (arith, (few-tallied X i place run (omega arith)).1) in
              let behind : last_slot Z (at - 1) ≡ slot m (filling Z at) (m - 1) = rw back at (behind-full (at - 1) (omega arith) (rw back full)) in
              rw (d.0, last-is, page) (before.new some ∙ ap (page_at P (after i).chip) behind ∙ sym stays);
        }

  pub work-left : (i : ℕ) → place + i ≤ last_place Z → WorkLeft i
  unfolding steps
  work-left zero h = record { old = λ e. refl; new = λ e. absurd (omega (arith, (few-tallied X 0 place run h).1)) }
  work-left (suc i) h = rw (← add-one i) (work-next i (omega arith) (work-left i (omega arith)) (change Z (place + i) (omega arith)))
