-- The rebuild answers as its definition does: refused by a row of the table, or with every original.
use Rattle.std.proofs.lemmas.Result.{err_from_is_err_and}
use Rattle.flash.proofs.Kit.{◌≡◌, ap₂, ◌∙◌, List, ℕ, ◌<◌, arith}
use Rattle.flash.specs.declared.sizes.Sizes.{Sizes}
use Rattle.flash.specs.Chip.{Chip}
use Rattle.flash.specs.Geometry.{slot_count}
use Rattle.split.specs.Request.{Request, request_of}
use Rattle.method.specs.Rebuild.{RebuildAnswer, rebuilt}
use Rattle.mover.specs.inner.Refusals.{rebuild_number}
use Rattle.mover.proofs.ReadLaws.{none-fits}
use Rattle.mover.proofs.RefusalLaws.{not-0}
use Rattle.mover.proofs.RebuildLaws.{refused-first, refused-6, refused-7, carried-out, Passed, past_first}
use Rattle.mover.proofs.SeesLaws.{Learnt, learnt-full, learnt-torn}
use contract.Lifetimes.{Lfts}
use Rattle.mover.proofs.rebuild.rebuild.Goals as goal
use Rattle.mover.proofs.rebuild.rebuild.Goals.{in-Full, in-Torn}
use Rattle.mover.proofs.rebuild.rebuild.Lts as lts
use Rattle.mover.proofs.rebuild.rebuild.Reads as reads
use Rattle.mover.proofs.rebuild.rebuild.Tie as tie

abbrev asked : {κs : Lfts 7} → lts.Args tie.the-claims reads.Pre reads.Post tie.handed_clauses κs → Request
asked a = request_of a.sizes a.list.now a.pins.now a.sets.now

abbrev chip : {κs : Lfts 7} → lts.Args tie.the-claims reads.Pre reads.Post tie.handed_clauses κs → Chip
chip a = record { store = a.store.now; marks = a.marks.now }

pub returns-in_err-rebuild_refusal : goal.returns-in_err-rebuild_refusal
returns-in_err-rebuild_refusal c =
    let a = c.args in
    let e = err_from_is_err_and c.from_residual.result c.from_residual.ensures.1 in
    rw (e.1, e.2) (refused-first (asked a) (chip a) a.area.now a.flags.now a.slot _ c.in_err-rebuild_refusal.ensures (not-0 c.in_err-rebuild_refusal.field-0.0))

-- ---- past the first rows
passed : (R : Request) (chip : Chip) (area flags : List ℕ) → 0 ≡ rebuild_number R chip area flags → Passed R chip area flags
passed R chip area flags e = past_first R chip area flags e

pub read_marks-requires : goal.read_marks-requires
read_marks-requires c =
    (let g = passed (asked c.args) (chip c.args) c.args.area.now c.args.flags.now c.in_ok-rebuild_refusal.ensures in let B = g.accepted.ranges in record { n_bound = (B.n-high, B.m-low, B.m-high, B.s-high); marks_len = g.marks-length })

pub returns-in-NoMoment : goal.returns-in-NoMoment
returns-in-NoMoment c =
    refused-6 (asked c.args) (chip c.args) c.args.area.now c.args.flags.now c.args.slot c.in_ok-rebuild_refusal.ensures
    (none-fits c.args.sizes c.args.marks.now c.read_marks.result c.read_marks.ensures.result_value c.in-NoMoment.is)

-- ---- the marks tell a moment
pub moment_in-requires : goal.moment_in-requires
moment_in-requires c = (passed (asked c.args) (chip c.args) c.args.area.now c.args.flags.now c.in_ok-rebuild_refusal.ensures).accepted.ranges.n-high

pub overflow_add-block : goal.overflow_add-block
overflow_add-block c =
    let S = rw c.in-Torn.is at c.read_marks.ensures.shown in
    omega (arith, S.inside, (passed (asked c.args) (chip c.args) c.args.area.now c.args.flags.now c.in_ok-rebuild_refusal.ensures).accepted.ranges.n-high)

pub moment_in-requires-in-Torn : goal.moment_in-requires-in-Torn
moment_in-requires-in-Torn c = (passed (asked c.args) (chip c.args) c.args.area.now c.args.flags.now c.in_ok-rebuild_refusal.ensures).accepted.ranges.n-high

learnt : (c : lts.At-match2-branch tie.the-claims reads.Pre reads.Post tie.handed_clauses) → (let a = c.args in
    Learnt a.sizes a.list.now a.sets.now a.marks.now c.read_marks.result c.read_marks.ensures.result_value c.read_marks.ensures.shown c.match-read_marks.told)
learnt c =
    let a = c.args in
    let r = c.read_marks in
    let told = c.match-read_marks.told in
    elim c.match-read_marks.branch [
      | in-Full w ↦ learnt-full a.sizes a.list.now a.sets.now a.marks.now r.result r.ensures.result_value r.ensures.shown told _ _ _
          w.in-Full.is w.told-is w.moment_in.ensures
      | in-Torn w ↦ learnt-torn a.sizes a.list.now a.sets.now a.marks.now r.result r.ensures.result_value r.ensures.shown told _ _ _
          w.in-Torn.is w.told-is w.moment_in-in-Torn.ensures
    ]

pub slot_count-requires : goal.slot_count-requires
slot_count-requires c = (let B = (passed (asked c.args) (chip c.args) c.args.area.now c.args.flags.now c.in_ok-rebuild_refusal.ensures).accepted.ranges in (B.n-high, B.m-high))

pub returns-then-slot_count-slot : goal.returns-then-slot_count-slot
returns-then-slot_count-slot c =
    refused-7 (asked c.args) (chip c.args) c.args.area.now c.args.flags.now c.args.slot c.in_ok-rebuild_refusal.ensures
    (learnt c.before.before.before).fits_one (rw (← c.slot_count.ensures) c.if-slot_count-slot.true)

-- ---- the slot is one of the store
pub rebuild_all-requires : goal.rebuild_all-requires
rebuild_all-requires c =
    let g = passed (asked c.args) (chip c.args) c.args.area.now c.args.flags.now c.in_ok-rebuild_refusal.ensures in
    let L = learnt c.before.before.before.before.before.before in
    (g.store_length, g.area-length, g.flags-length, (c.args.marks.now, L.found, L.sees))

within : (Z : Sizes) (slot : ℕ) {count : ℕ} → count ≡ slot_count Z → slot < count → slot < slot_count Z
within Z slot e h = rw e at h

abbrev made : (area flags : List ℕ) → RebuildAnswer
made area flags = record { number = 0; area = area; flags = flags }

pub returns : goal.returns
unfolding rebuilt
returns c =
    let L = learnt c.before.before.before.before.before.before.before.before.before.before.before in
    let E = c.rebuild_all.ensures c.args.marks.now L.found L.sees in
    ap₂ made E.0 E.1
    ∙ carried-out (asked c.args) (chip c.args) c.args.area.now c.args.flags.now c.args.slot
    c.in_ok-rebuild_refusal.ensures L.found L.sees.reads L.fits_one
    (within c.args.sizes c.args.slot c.slot_count.ensures c.if-slot_count-slot.false)

pub invariant_of-moved : goal.invariant_of-moved
invariant_of-moved c = record { accepted = (passed (asked c.args) (chip c.args) c.args.area.now c.args.flags.now c.in_ok-rebuild_refusal.ensures).accepted }
