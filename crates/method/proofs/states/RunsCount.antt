-- What a run counts: its steps, writes and erases are those of its operations, its bytes those of the pages that it wrote.
use Rattle.flash.proofs.Kit.{◌≡◌, refl, sym, ap, ap₂, ◌∙◌, subst, false, List, ℕ, zero, suc, ◌+◌, ◌*◌, ◌≤◌, ◌<◌, zero-add, add-one, suc-mul, mul-le-mul_right, arith, length, drop}
use Rattle.flash.specs.Lists.{range, count, total}
use Rattle.flash.specs.Tables.{refusal}
use Rattle.flash.specs.declared.sizes.Sizes.{Sizes}
use Rattle.flash.specs.Geometry.{slot, work_len, Bounds}
use Rattle.flash.specs.PageSum.{written_bytes}
use Rattle.flash.specs.declared.wear.Wear.{Wear}
use Rattle.flash.specs.Chip.{Chip, page_at}
use Rattle.flash.proofs.Bounds.{slot-in-marks, slot-in-store, product_le}
use Rattle.flash.proofs.Chips.{write-page}
use Rattle.flash.proofs.Ranges.{total-more, total-same}
use Rattle.flash.proofs.Searches.{count-take, count-drop}
use Rattle.flash.proofs.Written.{written-most}
use Rattle.split.specs.Request.{Request}
use Rattle.method.specs.declared.tally.Tally.{Tally}
use Rattle.method.specs.Move.{Plan, plan, AcceptedMove}
use Rattle.method.specs.Place.{write, mark_of, operations, operation_at, last_place, pass_at, filling, filled}
use Rattle.method.specs.State.{originals_in, state_of}
use Rattle.method.specs.Step.{Running, perform, step, steps, is_write, operations_from, tallied, tally_of}
use Rattle.method.specs.Worn.{wears_out}
use Rattle.method.specs.Answers.{RunAnswer, steps_taken, run_rows, run_carried_out, run_answer}
use Rattle.method.specs.Runs.{Start}
use Rattle.method.specs.Counts.{bytes_of_step, bytes_of_steps, Counted, RunsCount}
use Rattle.method.proofs.basics.AcceptedCalls.{RunTaken, run-taken, taken-run}
use Rattle.method.proofs.places.ErasesCounted.{all-writes}
use Rattle.method.proofs.places.PagesHeld.{Writes, Change, by-write, by-erase, change}
use Rattle.method.proofs.places.Tallies.{writes-and-erases, tally-next, tally-counts, steps-tallied}
use Rattle.method.proofs.states.StepsAddUp.{steps-add}
use Rattle.method.proofs.states.StepsLeadOn.{Stood, page-length, steps-stand}
use Rattle.method.proofs.states.RunsAddUp.{run-answer, taken_in, start-taken, after-steps}

-- ---- the bytes of a run, from a place where it stands
module _ (X : Plan) (A : AcceptedMove X.move) (run : Running) (place : ℕ) (S : Stood X A run place) where
  open X.move.sizes use {m, p as P}

  abbrev Z : Sizes
  Z = X.move.sizes

  abbrev after : (i : ℕ) → Running
  after i = steps X i place run

  abbrev tally : (i : ℕ) → Tally
  tally i = tally_of X i place run

  next-is : (i : ℕ) → after (i + 1) ≡ perform X (operation_at Z (place + i)) (after i)
  unfolding steps step
  next-is i = steps-add X i 1 place run

  stood : (i : ℕ) → place + i ≤ last_place Z → Stood X A (after i) (place + i)
  stood i h = steps-stand X A i place run h S

  -- a page that was written lies in its slot as it does in the work page
  pub page-kept : (i : ℕ) → place + i < last_place Z → filled Z (place + i) < m
      → operation_at Z (place + i) ≡ write (pass_at Z (place + i)) (filling Z (place + i)) (filled Z (place + i))
      → Writes Z (place + i) (pass_at Z (place + i)) (filling Z (place + i)) (filled Z (place + i))
      → (after (i + 1)).work ≡ page_at P (after (i + 1)).chip (slot m (filling Z (place + i)) (filled Z (place + i)))
  unfolding perform
  page-kept i on room op W =
      let at : ℕ = place + i in
      let t : ℕ = slot m (filling Z at) (filled Z at) in
      let here = stood i (omega arith) in
      let whole = page-length X A at on room (after i).chip (after i).work here.lent here.stands in
      let t-in = slot-in-marks Z (filling Z at) (filled Z at) W.block_in W.page-in in
      let fits : t * P + P ≤ length (after i).chip.store = rw here.lent.store_length (slot-in-store Z t t-in) in
      rw (next-is i, op) (sym (write-page P t _ (mark_of Z (pass_at Z at)) (after i).chip fits whole))

  -- one step more: what it programs, which is at most P bytes for a write
  one_more : (i : ℕ) → place + i < last_place Z
      → ((tally (i + 1)).bytes ≡ (tally i).bytes + bytes_of_step Z (operation_at Z (place + i)) (after (i + 1)).chip)
      × ((tally (i + 1)).bytes + (tally i).writes * P ≤ (tally i).bytes + (tally (i + 1)).writes * P)
  unfolding tallied bytes_of_step
  one_more i on = go (change Z (place + i) on)
    where
      go : Change Z (place + i)
          → ((tally (i + 1)).bytes ≡ (tally i).bytes + bytes_of_step Z (operation_at Z (place + i)) (after (i + 1)).chip)
          × ((tally (i + 1)).bytes + (tally i).writes * P ≤ (tally i).bytes + (tally (i + 1)).writes * P)
      go (by-write room op W) =
          let page = (after (i + 1)).work in
          let few : written_bytes page ≤ P = omega (arith, written-most page, (stood (i + 1) (omega arith)).lent.work-length) in
          let more : ((tally i).writes + 1) * P ≡ (tally i).writes * P + P = rw (add-one (tally i).writes) (suc-mul (tally i).writes P) in
          rw (tally-next X i place run, op) (ap (λ (x : List ℕ). (tally i).bytes + written_bytes x) (page-kept i on room op W), omega arith)
      go (by-erase full op E) = rw (tally-next X i place run, op) (omega arith, omega arith)

  pub few_bytes : (i : ℕ) → place + i ≤ last_place Z → (tally i).bytes ≤ (tally i).writes * P
  unfolding tally_of
  few_bytes zero h = omega arith
  few_bytes (suc i) h =
      subst (λ (x : ℕ). (tally x).bytes ≤ (tally x).writes * P) (add-one i) (omega (arith, few_bytes i (omega arith), (one_more i (omega arith)).1))

  abbrev programmed : (j : ℕ) → ℕ
  programmed j = bytes_of_step Z (operation_at Z (place + j)) (after (j + 1)).chip

  pub bytes-are : (i : ℕ) → place + i ≤ last_place Z → (tally i).bytes ≡ bytes_of_steps Z place i (λ j. (after j).chip)
  unfolding tally_of bytes_of_steps total range
  bytes-are zero h = refl
  bytes-are (suc i) h =
      ap (λ (x : ℕ). (tally x).bytes) (sym (add-one i)) ∙ (one_more i (omega arith)).0
      ∙ ap₂ (λ (x y : ℕ). x + y) (bytes-are i (omega arith)) (ap programmed (sym (zero-add i))) ∙ sym (total-more programmed 0 i)

-- ---- of a run that is not refused
most_bytes : (Z : Sizes) → Bounds Z → (bytes writes : ℕ) → bytes ≤ writes * Z.p → writes ≤ 2 * Z.n * Z.m → (bytes ≤ 2 * Z.n * Z.m * Z.p) × (bytes ≤ 33554432)
most_bytes Z B bytes writes few h =
    let pages = product_le (2 * Z.n) Z.m {c = 128} {d = 64} (omega (arith, B.n-high)) B.m-high in
    let all = product_le (2 * Z.n * Z.m) Z.p {c = 8192} {d = 4096} pages B.p-high in
    let some = mul-le-mul_right Z.p h in
    (omega arith, omega arith)

module _ (R : Request) (chip : Chip) (work : List ℕ) (wear : Wear) (place budget limit : ℕ) (ok : refusal (run_rows R chip work wear place limit) ≡ 0) where
  abbrev W : Sizes
  W = R.sizes

  abbrev taken : ℕ
  taken = steps_taken W place budget

  abbrev start : Running
  start = record { chip = chip; work = work }

  T : RunTaken R chip work wear place limit
  T = run-taken R chip work wear place limit ok

  pub in-move : place + taken ≤ last_place W
  in-move = taken_in W place budget T.stands.inside

  stands : Stood (plan R) T.accepted start place
  stands = record { lent = T.lent; stands = T.stands }

  -- a run of i steps, where there are as many
  chip-at : (i : ℕ) → i ≤ taken → (run_answer R chip work wear place i limit).chip ≡ (steps (plan R) i place start).chip
  unfolding run_carried_out steps_taken
  chip-at i h =
      let all : steps_taken W place i ≡ i = omega (arith, in-move) in
      ap (λ (a : RunAnswer). a.chip) (run-answer R chip work wear place i limit ok) ∙ ap (λ (x : ℕ). (steps (plan R) x place start).chip) all

  pub few-writes : count is_write (operations_from W place taken) ≤ 2 * W.n * W.m
  unfolding operations_from
  few-writes =
      omega (arith, count-take is_write taken (drop place (operations W)), count-drop is_write place (operations W), all-writes W)

  abbrev tally-told : Tally
  tally-told = (run_answer R chip work wear place budget limit).tally

  pub told : tally-told ≡ tally_of (plan R) taken place start
  unfolding run_carried_out
  told = ap (λ (a : RunAnswer). a.tally) (run-answer R chip work wear place budget limit ok)

  bytes-told : tally-told.bytes ≡ bytes_of_steps W place taken (λ i. (run_answer R chip work wear place i limit).chip)
  unfolding bytes_of_steps
  bytes-told =
      ap (λ (t : Tally). t.bytes) told ∙ bytes-are (plan R) T.accepted start place stands taken in-move
      ∙ total-same _ _ 0 taken (λ i l h. ap (bytes_of_step W (operation_at W (place + i))) (sym (chip-at (i + 1) (omega arith))))

  pub run-counts : Counted R chip work wear place budget limit
  run-counts =
      let counts = tally-counts (plan R) taken place start in-move in
      let steps-are = steps-tallied (plan R) taken place start in-move in
      let few = few_bytes (plan R) T.accepted start place stands taken in-move in
      let most = most_bytes W T.accepted.ranges _ _ few (rw counts.0 few-writes) in
      record {
        steps = rw told steps-are;
        either = rw told (omega (arith, steps-are, counts, writes-and-erases W taken place in-move));
        writes = rw told counts.0;
        erases = rw told counts.1;
        bytes = bytes-told;
        most = rw told most.0;
        fits = rw told most.1;
      }

-- ---- from rest
from-rest : (R : Request) (chip : Chip) → Start R chip → (work : List ℕ) → length work ≡ work_len R.sizes
    → (wear : Wear) (limit : ℕ) → wears_out R.sizes.n wear limit ≡ false → (t : ℕ) → t ≤ last_place R.sizes
    → (run_answer R chip work wear 0 t limit).tally.bytes ≡ bytes_of_steps R.sizes 0 t (state_of (plan R) (originals_in R.sizes chip))
unfolding bytes_of_steps steps_taken
from-rest R chip S work l wear limit lasts t h =
    let all : steps_taken R.sizes 0 t ≡ t = omega arith in
    let ok = taken-run R chip work wear 0 limit (start-taken R chip S work l wear limit lasts) in
    rw all at (bytes-told R chip work wear 0 t limit ok)
    ∙ total-same _ _ 0 t (λ i low high.
    ap (bytes_of_step R.sizes (operation_at R.sizes (0 + i))) (after-steps R chip S work l wear limit lasts (i + 1) (omega arith)).2)

pub runs-count : RunsCount
runs-count = record { counted = run-counts; from-rest = from-rest }
