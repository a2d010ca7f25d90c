-- The stored pages that a run reads: those of each page that it writes, at the marks of its place.
use Rattle.flash.proofs.Kit.{◌≡◌, refl, sym, ap, ap₂, ◌∙◌, subst, cond, List, ℕ, zero, suc, ◌+◌, ◌*◌, ◌≤◌, ◌<◌, zero-add, add-zero, add-one, suc-mul}
use Rattle.flash.proofs.Kit.{mul-le-mul_right, arith}
use Rattle.flash.specs.Lists.{range, total}
use Rattle.flash.specs.Tables.{refusal}
use Rattle.flash.specs.declared.sizes.Sizes.{Sizes}
use Rattle.flash.specs.Geometry.{number_at, original_count, Bounds}
use Rattle.flash.specs.Chip.{Chip}
use Rattle.flash.specs.declared.wear.Wear.{Wear}
use Rattle.flash.proofs.Bounds.{product_le}
use Rattle.flash.proofs.Ranges.{total-more}
use Rattle.split.specs.Drops.{is_dropped}
use Rattle.split.specs.Request.{Request}
use Rattle.method.specs.declared.tally.Tally.{Tally}
use Rattle.method.specs.Move.{Move, Plan, move, plan, AcceptedMove}
use Rattle.method.specs.Cycle.{D, pred, is_top, sent_to}
use Rattle.method.specs.Place.{Pass, forward, backward, Operation, write, erase, operation_at, last_place, pass_at, filling, filled, marks_of}
use Rattle.method.specs.Step.{Running, pages_read, steps, tallied, tally_of}
use Rattle.method.specs.Answers.{steps_taken, run_rows, run_answer, read_answer}
use Rattle.method.specs.PagesRead.{reads_of_step, reads_of_steps, Cost, ReadsCounted}
use Rattle.method.specs.inner.Shape.{Shape}
use Rattle.method.proofs.basics.AcceptedCalls.{RunTaken, run-taken}
use Rattle.method.proofs.basics.Indexes.{clash}
use Rattle.method.proofs.cycles.SetCycles.{D-page, pred_in, sent-in}
use Rattle.method.proofs.places.StepsAtPlaces.{forward-high, filling-in, backward-low, operation-done}
use Rattle.method.proofs.places.PagesHeld.{Change, by-write, by-erase, change, MarksAt, marks_of-at, stands-marks}
use Rattle.method.proofs.places.PagesRise.{WriteAt, write-at}
use Rattle.method.proofs.places.PlaceShape.{letter_above, shape-filling}
use Rattle.method.proofs.places.Tallies.{tally-next, tally-counts, few-tallied}
use Rattle.method.proofs.places.Turns.{resumes_at}
use Rattle.method.proofs.recovery.Moments.{stands-moment}
use Rattle.method.proofs.recovery.ReadAnswers.{read_number, read_count_lem}
use Rattle.method.proofs.states.PagesWritten.{number_in}
use Rattle.method.proofs.states.StepsLeadOn.{Stood, steps-stand}
use Rattle.method.proofs.states.RunsCount.{told, in-move, few-writes}
use Rattle.method.proofs.walks.ReadCosts.{cost, cost-dropped, coded-cost, coded-few, final-cost, final-few}

-- ---- what a write at a place costs
module _ (X : Plan) (A : AcceptedMove X.move) where
  open X.move.sizes use {n, m}

  abbrev Z : Sizes
  Z = X.move.sizes

  module _ (place : ℕ) (marks : List ℕ) (At : MarksAt Z place marks) where
    shape_at : (pass : Pass) (block page : ℕ) → WriteAt Z place pass block page → Shape Z marks block (suc block) (letter_above pass)
    shape_at pass block page W =
        let h = W.in-move in
        rw (W.stands.pass-is, W.stands.block-is) at (shape-filling Z place (omega arith) marks At (omega (arith, W.stands.pages-is, W.page-in)))

    forward-in : (block page : ℕ) → WriteAt Z place forward block page → block < n
    forward-in block page W = (let h = W.in-move in rw W.stands.block-is at (forward-high Z place (omega arith) W.stands.pass-is))

    backward-in : (block page : ℕ) → WriteAt Z place backward block page → (1 ≤ block) × (block ≤ n)
    backward-in block page W =
        let h = W.in-move in
        (rw W.stands.block-is at (backward-low Z place h W.stands.pass-is), rw W.stands.block-is at (filling-in Z place (omega arith)))

    pub coded-at : (block set : ℕ) → WriteAt Z place forward block set
        → (let i : ℕ = block + 1 in
        pages_read X forward block set marks ≡ cond (X.is_dropped (D X.move set i)) 0 1 + cond (is_top X.move set i) 0 (cost X marks (D X.move set (pred X.move set i))))
    coded-at block set W = coded-cost X A marks block (shape_at forward block set W) (forward-in block set W) set W.page-in

    pub final-at : (block page : ℕ) → WriteAt Z place backward block page → pages_read X backward block page marks ≡ cost X marks (sent_to X.move (number_at m block page))
    final-at block page W =
        let b = backward-in block page W in
        final-cost X A marks block (shape_at backward block page W) b.0 b.1 page W.page-in

    -- the originals that read is asked for
    pub behind-in : (block set : ℕ) → WriteAt Z place forward block set → D X.move set (pred X.move set (block + 1)) < original_count Z
    behind-in block set W =
        let high = forward-in block set W in
        (D-page X.move A set W.page-in (pred X.move set (block + 1))
        (pred_in X.move A set W.page-in (block + 1) (record { low = omega arith; high = omega arith }))).inside

    pub sent-at : (block page : ℕ) → WriteAt Z place backward block page → sent_to X.move (number_at m block page) < original_count Z
    sent-at block page W =
        let b = backward-in block page W in
        sent-in X.move A (number_at m block page) (number_in X.move A block page b.0 b.1 W.page-in)

    few-at : (pass : Pass) (block page : ℕ) → WriteAt Z place pass block page → pages_read X pass block page marks ≤ n
    few-at forward block set W = coded-few X A marks block (shape_at forward block set W) (forward-in block set W) set W.page-in
    few-at backward block page W =
        let b = backward-in block page W in
        final-few X A marks block (shape_at backward block page W) b.0 b.1 page W.page-in

  -- ---- a run, from a place where it stands
  module _ (run : Running) (place : ℕ) (S : Stood X A run place) where
    abbrev after : (i : ℕ) → Running
    after i = steps X i place run

    abbrev tally : (i : ℕ) → Tally
    tally i = tally_of X i place run

    abbrev costs : (j : ℕ) → ℕ
    costs j = reads_of_step X (operation_at Z (place + j)) (marks_of Z (place + j))

    -- one step more: what it reads, which is at most n pages for a write
    one_more : (i : ℕ) → place + i < last_place Z
        → ((tally (i + 1)).reads ≡ (tally i).reads + costs i) × ((tally (i + 1)).reads + (tally i).writes * n ≤ (tally i).reads + (tally (i + 1)).writes * n)
    unfolding tallied reads_of_step
    one_more i on = go (change Z (place + i) on)
      where
        go : Change Z (place + i)
            → ((tally (i + 1)).reads ≡ (tally i).reads + costs i) × ((tally (i + 1)).reads + (tally i).writes * n ≤ (tally i).reads + (tally (i + 1)).writes * n)
        go (by-write room op W) =
            let at : ℕ = place + i in
            let marks-are : (after i).chip.marks ≡ marks_of Z at = (steps-stand X A i place run (omega arith) S).stands.marks in
            let few = few-at at (marks_of Z at) (marks_of-at Z at) (pass_at Z at) (filling Z at) (filled Z at) (write-at Z at _ _ _ op) in
            let more : ((tally i).writes + 1) * n ≡ (tally i).writes * n + n = rw (add-one (tally i).writes) (suc-mul (tally i).writes n) in
            rw (tally-next X i place run, op, marks-are) (refl, omega arith)
        go (by-erase full op E) = rw (tally-next X i place run, op) (omega arith, omega arith)

    pub few-reads : (i : ℕ) → place + i ≤ last_place Z → (tally i).reads ≤ (tally i).writes * n
    unfolding tally_of
    few-reads zero h = omega arith
    few-reads (suc i) h =
        subst (λ (x : ℕ). (tally x).reads ≤ (tally x).writes * n) (add-one i) (omega (arith, few-reads i (omega arith), (one_more i (omega arith)).1))

    pub reads-are : (i : ℕ) → place + i ≤ last_place Z → (tally i).reads ≡ reads_of_steps X place i
    unfolding tally_of reads_of_steps total range
    reads-are zero h = refl
    reads-are (suc i) h =
        ap (λ (x : ℕ). (tally x).reads) (sym (add-one i)) ∙ (one_more i (omega arith)).0
        ∙ ap₂ (λ (x y : ℕ). x + y) (reads-are i (omega arith)) (ap costs (sym (zero-add i))) ∙ sym (total-more costs 0 i)

  -- a run of one step
  pub first_reads : (place : ℕ) → reads_of_steps X place 1 ≡ reads_of_step X (operation_at Z place) (marks_of Z place)
  unfolding reads_of_steps total range
  first_reads place =
      add-zero (reads_of_step X (operation_at Z (place + 0)) (marks_of Z (place + 0)))
      ∙ ap (λ (at : ℕ). reads_of_step X (operation_at Z at) (marks_of Z at)) (add-zero place)

-- ---- of a run that is not refused
most-reads : (Z : Sizes) → Bounds Z → (reads writes : ℕ) → reads ≤ writes * Z.n → writes ≤ 2 * Z.n * Z.m → (reads ≤ 2 * Z.n * Z.n * Z.m) × (reads ≤ 524288)
most-reads Z B reads writes few h =
    let pages = product_le (2 * Z.n) Z.n {c = 128} {d = 64} (omega (arith, B.n-high)) B.n-high in
    let all = product_le (2 * Z.n * Z.n) Z.m {c = 8192} {d = 64} pages B.m-high in
    let some = mul-le-mul_right Z.n h in
    (omega arith, omega arith)

module _ (R : Request) (chip : Chip) (work : List ℕ) (wear : Wear) (place limit : ℕ) (ok : refusal (run_rows R chip work wear place limit) ≡ 0) where
  abbrev W : Sizes
  W = R.sizes

  abbrev M : Move
  M = move R

  abbrev start : Running
  start = record { chip = chip; work = work }

  T : RunTaken R chip work wear place limit
  T = run-taken R chip work wear place limit ok

  abbrev reads : (budget : ℕ) → ℕ
  reads budget = (run_answer R chip work wear place budget limit).tally.reads

  abbrev taken : (budget : ℕ) → ℕ
  taken budget = steps_taken W place budget

  stood : Stood (plan R) T.accepted start place
  stood = record { lent = T.lent; stands = T.stands }

  tally-is : (budget : ℕ) → (run_answer R chip work wear place budget limit).tally ≡ tally_of (plan R) (taken budget) place start
  tally-is budget = told R chip work wear place budget limit ok

  inside : (budget : ℕ) → place + taken budget ≤ last_place W
  inside budget = in-move R chip work wear place budget limit ok

  of-run : (budget : ℕ) → reads budget ≡ reads_of_steps (plan R) place (taken budget)
  of-run budget =
      ap (λ (t : Tally). t.reads) (tally-is budget) ∙ reads-are (plan R) T.accepted start place stood (taken budget) (inside budget)

  few-told : (budget : ℕ) → reads budget ≤ (tally_of (plan R) (taken budget) place start).writes * W.n
  few-told budget =
      subst (λ (t : Tally). t.reads ≤ (tally_of (plan R) (taken budget) place start).writes * W.n) (sym (tally-is budget))
      (few-reads (plan R) T.accepted start place stood (taken budget) (inside budget))

  most : (budget : ℕ) → (reads budget ≤ 2 * W.n * W.n * W.m) × (reads budget ≤ 524288)
  most budget =
      let counts = tally-counts (plan R) (taken budget) place start (inside budget) in
      most-reads W T.accepted.ranges (reads budget) _ (few-told budget) (rw counts.0 (few-writes R chip work wear place budget limit ok))

  few : reads 1 ≤ W.n
  unfolding steps_taken
  few =
      let one = (few-tallied (plan R) (taken 1) place start (inside 1)).1 in
      let le : (tally_of (plan R) (taken 1) place start).writes ≤ 1 = omega arith in
      omega (arith, few-told 1, mul-le-mul_right W.n le)

  -- ---- the step at the place
  first : place < last_place W → reads 1 ≡ reads_of_step (plan R) (operation_at W place) chip.marks
  unfolding steps_taken
  first h =
      let one : taken 1 ≡ 1 = omega arith in
      of-run 1 ∙ ap (reads_of_steps (plan R) place) one ∙ first_reads (plan R) T.accepted place
      ∙ ap (reads_of_step (plan R) (operation_at W place)) (sym T.stands.marks)

  At : MarksAt W place chip.marks
  At = stands-marks W T.stands

  abbrev read_count : (k : ℕ) → ℕ
  read_count k = (read_answer R chip work k).count

  count-is : (k : ℕ) → k < original_count W → read_count k ≡ cost (plan R) chip.marks k
  count-is k h = read_count_lem R T.accepted T.fits chip work T.lent (resumes_at W place) (stands-moment W chip place T.stands) k h

  of-coded : (block set : ℕ) → operation_at W place ≡ write forward block set
      → (let i : ℕ = block + 1 in reads 1 ≡ cond (is_dropped R.list (D M set i)) 0 1 + cond (is_top M set i) 0 (read_count (D M set (pred M set i))))
  unfolding reads_of_step
  of-coded block set op =
      let w = write-at W place forward block set op in
      first w.in-move ∙ ap (λ (o : Operation). reads_of_step (plan R) o chip.marks) op ∙ coded-at (plan R) T.accepted place chip.marks At block set w
      ∙ ap (λ (x : ℕ). cond (is_dropped R.list (D M set (block + 1))) 0 1 + cond (is_top M set (block + 1)) 0 x)
      (sym (count-is _ (behind-in (plan R) T.accepted place chip.marks At block set w)))

  of-final : (block page : ℕ) → operation_at W place ≡ write backward block page → reads 1 ≡ read_count (sent_to M (number_at W.m block page))
  unfolding reads_of_step
  of-final block page op =
      let w = write-at W place backward block page op in
      first w.in-move ∙ ap (λ (o : Operation). reads_of_step (plan R) o chip.marks) op ∙ final-at (plan R) T.accepted place chip.marks At block page w
      ∙ sym (count-is _ (sent-at (plan R) T.accepted place chip.marks At block page w))

  of-erase : (block : ℕ) → operation_at W place ≡ erase block → reads 1 ≡ 0
  unfolding reads_of_step
  of-erase block op =
      let late : last_place W ≤ place → ⊥ = λ l. (let d = operation-done W place l in clash (cc)) in
      let h : place < last_place W = omega (arith, late) in
      first h ∙ ap (λ (o : Operation). reads_of_step (plan R) o chip.marks) op

  pub run-reads : Cost R chip work wear place limit
  run-reads = record {
    of-run = of-run;
    of-coded = of-coded;
    of-final = of-final;
    of-erase = of-erase;
    read-answers = λ k h. read_number R T.accepted T.fits chip work T.lent (resumes_at W place) (stands-moment W chip place T.stands) k h;
    of-dropped = λ k h gone. count-is k h ∙ cost-dropped (plan R) chip.marks k gone;
    few = few;
    most = λ budget. (most budget).0;
    fits = λ budget. (most budget).1;
  }

pub reads-counted : ReadsCounted
unfolding ReadsCounted
reads-counted = run-reads
