-- The read answers as its definition does: refused by a row of the table, or with the page rebuilt.
use Rattle.std.proofs.lemmas.Result.{err_from_is_err_and}
use Rattle.flash.proofs.Kit.{List, length, length-take-le, ◌+◌, ◌≤◌, ◌≡◌, refl, sym, ◌∙◌, subst, [], ℕ, ◌*◌, ◌<◌, arith}
use Rattle.flash.specs.Lists.{any}
use Rattle.flash.specs.Tables.{refusal}
use Rattle.flash.specs.declared.sizes.Sizes.{Sizes}
use Rattle.flash.specs.Geometry.{original_count}
use Rattle.flash.specs.Chip.{Chip}
use Rattle.flash.proofs.Bounds.{slot-in-store}
use Rattle.split.specs.Drops.{completed, list_left}
use Rattle.split.specs.Request.{Request, request_of}
use Rattle.method.specs.Move.{AcceptedMove, Lent, move, Plan}
use Rattle.method.specs.Read.{read_terms, read_page}
use Rattle.method.specs.Answers.{move_rows}
use Rattle.method.proofs.basics.AcceptedCalls.{move-accepted}
use Rattle.walk.specs.inner.Terms.{AddsUp}
use Rattle.mover.proofs.StepLaws.{of-front}
use Rattle.mover.proofs.PlanLaws.{left-0, move-told, plan-told}
use Rattle.mover.proofs.ReadLaws.{refused-by-move, refused-6, refused-7, rebuilt, none-fits, Readable, full, torn}
use contract.Lifetimes.{Lfts}
use Rattle.mover.proofs.read.read.Goals as goal
use Rattle.mover.proofs.read.read.Goals.{in-Full, in-Torn}
use Rattle.mover.proofs.read.read.Lts as lts
use Rattle.mover.proofs.read.read.Reads as reads
use Rattle.mover.proofs.read.read.Tie as tie

abbrev asked : {κs : Lfts 6} → lts.Args tie.the-claims reads.Pre reads.Post tie.handed_clauses κs → Request
asked a = request_of a.sizes a.list.now a.pins.now a.sets.now

abbrev chip : {κs : Lfts 6} → lts.Args tie.the-claims reads.Pre reads.Post tie.handed_clauses κs → Chip
chip a = record { store = a.store.now; marks = a.marks.now }

pub move_refusal-requires : goal.move_refusal-requires
move_refusal-requires c = (refl, refl)

pub returns-in_err-move_refusal : goal.returns-in_err-move_refusal
returns-in_err-move_refusal c =
    let a = c.args in
    let e = err_from_is_err_and c.from_residual.result c.from_residual.ensures.1 in
    let k = c.in_err-move_refusal.ensures in
    rw (e.1, e.2) (record { work_after = refused-by-move (asked a) (chip a) a.work.now a.k _ k.value; list_after = k.list_after })

-- ---- past the rows of the move
accepted : (R : Request) (chip : Chip) (work : List ℕ) → 0 ≡ refusal (move_rows R chip work [])
    → AcceptedMove (move R) × Lent R.sizes chip work
accepted R chip work e = (let g = move-accepted R chip work [] (sym e) in (g.0, g.1))

-- the list is completed
left : (list : List ℕ) {after : List ℕ} → after ≡ list_left 0 list → after ≡ completed list
left list e = e ∙ left-0 list

pub read_marks-requires : goal.read_marks-requires
read_marks-requires c =
    let g = accepted (asked c.args) (chip c.args) c.args.work.now c.in_ok-move_refusal.ensures.value in
    let B = g.0.ranges in
    record { n_bound = (B.n-high, B.m-low, B.m-high, B.s-high); marks_len = g.1.marks-length }

pub returns-in-NoMoment : goal.returns-in-NoMoment
unfolding list_left any
returns-in-NoMoment c =
    let a = c.args in
    let k = c.in_ok-move_refusal.ensures in
    record {
      work_after = refused-6 (asked a) (chip a) a.work.now a.k k.value
          (none-fits a.sizes a.marks.now c.read_marks.result c.read_marks.ensures.result_value c.in-NoMoment.is);
      list_after = left a.list.now k.list_after;
    }

-- ---- the marks tell a moment
pub moment_in-moment-requires : goal.moment_in-moment-requires
moment_in-moment-requires c = (accepted (asked c.args) (chip c.args) c.args.work.now c.in_ok-move_refusal.ensures.value).0.ranges.n-high

pub overflow_add-block : goal.overflow_add-block
overflow_add-block c =
    let S = rw c.in-Torn.is at c.read_marks.ensures.shown in
    omega (arith, S.inside, (accepted (asked c.args) (chip c.args) c.args.work.now c.in_ok-move_refusal.ensures.value).0.ranges.n-high)

pub moment_in-moment-requires-in-Torn : goal.moment_in-moment-requires-in-Torn
moment_in-moment-requires-in-Torn c = (accepted (asked c.args) (chip c.args) c.args.work.now c.in_ok-move_refusal.ensures.value).0.ranges.n-high

pub original_count-requires : goal.original_count-requires
original_count-requires c = (let B = (accepted (asked c.args) (chip c.args) c.args.work.now c.in_ok-move_refusal.ensures.value).0.ranges in (B.n-high, B.m-high))

pub returns-then-original_count-k : goal.returns-then-original_count-k
unfolding list_left any
returns-then-original_count-k c =
    let a = c.args in
    let k = c.in_ok-move_refusal.ensures in
    let r = c.read_marks in
    let readable : Readable a.sizes a.marks.now r.result r.ensures.result_value c.match-read_marks.moment = elim c.match-read_marks.branch [
      | in-Full w ↦ full a.sizes a.marks.now r.result r.ensures.result_value r.ensures.shown _ _ _ w.in-Full.is (w.moment-is ∙ w.moment_in-moment.ensures)
      | in-Torn w ↦ torn a.sizes a.marks.now r.result r.ensures.result_value r.ensures.shown _ _ _ w.in-Torn.is
          (w.moment-is ∙ w.moment_in-moment-in-Torn.ensures)
    ] in
    record {
      work_after = refused-7 (asked a) (chip a) a.work.now a.k k.value readable.fits_one (rw (← c.original_count.ensures) c.if-original_count-k.true);
      list_after = left a.list.now k.list_after;
    }

-- ---- the page is one of the originals
within : (Z : Sizes) (k : ℕ) {count : ℕ} → count ≡ original_count Z → k < count → k < Z.n * Z.m
within Z k e h = rw e at h

pub invariant_of-moved : goal.invariant_of-moved
invariant_of-moved c =
    let k = c.in_ok-move_refusal.ensures in
    let same = move-told (asked c.args) _ _ _ (left c.args.list.now k.list_after) (k.by_destination refl).1 in
    record { accepted = subst AcceptedMove (sym same) (accepted (asked c.args) (chip c.args) c.args.work.now k.value).0 }

pub slice_bounds-read_terms-end : goal.slice_bounds-read_terms-end
slice_bounds-read_terms-end c = sym (c.in_ok-move_refusal.ensures.by_destination refl).1.pages-length

pub read_terms-terms-requires : goal.read_terms-terms-requires
read_terms-terms-requires c =
    let a = c.args in
    let r = c.read_marks in
    let readable : Readable a.sizes a.marks.now r.result r.ensures.result_value c.match-read_marks.moment = elim c.match-read_marks.branch [
      | in-Full w ↦ full a.sizes a.marks.now r.result r.ensures.result_value r.ensures.shown _ _ _ w.in-Full.is (w.moment-is ∙ w.moment_in-moment.ensures)
      | in-Torn w ↦ torn a.sizes a.marks.now r.result r.ensures.result_value r.ensures.shown _ _ _ w.in-Torn.is
          (w.moment-is ∙ w.moment_in-moment-in-Torn.ensures)
    ] in
    (within a.sizes a.k c.original_count.ensures c.if-original_count-k.false, (c.in_ok-move_refusal.ensures.by_destination refl).1.pages-length, refl, (a.marks.now, readable.has-moment))

pub slice_bounds-total_to_page-end : goal.slice_bounds-total_to_page-end
slice_bounds-total_to_page-end c =
    let F = c.read_terms-terms.ensures.count_le_slots_length in
    sym (length-take-le c.read_terms-terms.result.count c.read_terms-terms.new.slots (omega (arith, F.0, F.1)))

pub total_to_page-bytes-requires : goal.total_to_page-bytes-requires
total_to_page-bytes-requires c =
    let Z = c.args.sizes in
    let r = c.read_terms-terms.result in
    let slots = c.read_terms-terms.new.slots in
    let L = (accepted (asked c.args) (chip c.args) c.args.work.now c.in_ok-move_refusal.ensures.value).1 in
    let F = c.read_terms-terms.ensures.count_le_slots_length in
    let cut : r.count ≤ length slots = omega (arith, F.0, F.1) in record {
      slots_in_bounds = (omega (arith, F.0, length-take-le r.count slots cut), L.work-length);
      by_index = of-front (λ t. t * Z.p + Z.p ≤ length c.args.store.now) slots r.count cut (λ j h. rw L.store_length (slot-in-store Z _ (F.2 j h)));
    }

pub overflow_cast-bytes : goal.overflow_cast-bytes
overflow_cast-bytes c =
    omega (arith, c.total_to_page-bytes.ensures.2, (accepted (asked c.args) (chip c.args) c.args.work.now c.in_ok-move_refusal.ensures.value).0.ranges.p-high)

pub overflow_cast-count : goal.overflow_cast-count
overflow_cast-count c = omega (arith, c.read_terms-terms.ensures.count_le_slots_length.0)

pub returns : goal.returns
unfolding read_page list_left any
returns c =
    let a = c.args in
    let R = asked a in
    let k = c.in_ok-move_refusal.ensures in
    let r = c.read_marks in
    let readable : Readable a.sizes a.marks.now r.result r.ensures.result_value c.match-read_marks.moment = elim c.match-read_marks.branch [
      | in-Full w ↦ full a.sizes a.marks.now r.result r.ensures.result_value r.ensures.shown _ _ _ w.in-Full.is (w.moment-is ∙ w.moment_in-moment.ensures)
      | in-Torn w ↦ torn a.sizes a.marks.now r.result r.ensures.result_value r.ensures.shown _ _ _ w.in-Torn.is
          (w.moment-is ∙ w.moment_in-moment-in-Torn.ensures)
    ] in
    -- the terms add up to the page
    let same = plan-told R _ _ _ (left a.list.now k.list_after) (k.by_destination refl).1 in
    let S = subst (λ (X : Plan). AddsUp a.sizes (read_terms X a.marks.now a.k) c.read_terms-terms.new.slots c.read_terms-terms.result) same
    (c.read_terms-terms.ensures.by_index a.marks.now readable.has-moment) in
    record {
      work_after = rebuilt R (chip a) a.work.now a.k k.value _ _ _ readable.fits_one
          (within a.sizes a.k c.original_count.ensures c.if-original_count-k.false) (sym S.number)
          (c.total_to_page-bytes.ensures.0 ∙ sym (S.page (chip a) (accepted R (chip a) a.work.now k.value).1.store_length)) c.total_to_page-bytes.ensures.1;
      list_after = left a.list.now k.list_after;
    }
