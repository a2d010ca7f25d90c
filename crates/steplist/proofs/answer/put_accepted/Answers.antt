-- A store is filled as it is at rest, and its move is listed; here the lent parts get their lengths.
use Rattle.flash.proofs.Kit.{arith, ◌≡◌, sym, ◌∙◌, ◌+◌, ◌*◌, ◌≤◌, length, take, replicate}
use Rattle.flash.proofs.Bounds.{product_le}
use Rattle.method.specs.State.{chip_at_rest}
use Rattle.method.specs.Step.{Running, running_of}
use Rattle.listing.proofs.InputLaws.{Bounded, bounded}
use Rattle.steplist.proofs.RestLaws.{zeros-taken, zeros-length, whole, room-again, front-again, length-again}
use Rattle.steplist.proofs.StartLaws.{listable, is-listed, filled}
use Rattle.steplist.proofs.answer.put_accepted.Goals as goal
use Rattle.steplist.proofs.answer.put_accepted.Lts as lts
use Rattle.steplist.proofs.answer.put_accepted.Reads as reads
use Rattle.steplist.proofs.answer.put_accepted.Tie as tie

limits : (c : lts.Start tie.the-claims reads.Pre reads.Post tie.handed_clauses) → Bounded c.args.sizes
limits c = bounded c.args.sizes c.requires.0.readable.allowed

-- the lent parts fit into the arrays
in-ranges : (c : lts.After-slot_count tie.the-claims reads.Pre reads.Post tie.handed_clauses)
    → (c.store_length-size.result ≤ 4608) × (c.slot_count-slots.result ≤ 72)
in-ranges c =
    let a = c.args in
    let l = limits c.before.before.before.before.before.before in
    let slots = product_le (a.sizes.n + 1) a.sizes.m {c = 9} {d = 8} (omega arith) l.few-pages in
    let store = product_le ((a.sizes.n + 1) * a.sizes.m) a.sizes.p {c = 72} {d = 64} (omega arith) l.short-pages in
    (omega (arith, store, c.store_length-size.ensures), omega (arith, slots, c.slot_count-slots.ensures))

store-size : (c : lts.After-put_store tie.the-claims reads.Pre reads.Post tie.handed_clauses)
    → length c.put_store.new.store ≡ c.store_length-size.result
store-size c = c.put_store.auto.store ∙ zeros-length c.store_length-size.result 4608 (in-ranges c.before.before).0

marks-size : (c : lts.After-put_marks tie.the-claims reads.Pre reads.Post tie.handed_clauses)
    → length c.put_marks.new.marks ≡ c.slot_count-slots.result
marks-size c = c.put_marks.auto.marks ∙ zeros-length c.slot_count-slots.result 72 (in-ranges c.before.before.before.before.before).1

-- what is lent for the listing is the store at rest
at_rest : (c : lts.After-put_marks tie.the-claims reads.Pre reads.Post tie.handed_clauses)
    → (let a = c.args in let size = c.store_length-size.result in let slots = c.slot_count-slots.result in
    ◌≡◌ {A = Running} (running_of (take size (whole size 4608 c.put_store.new.store)) (take slots (whole slots 72 c.put_marks.new.marks))
    (take a.sizes.p (replicate 64 0)))
    (record { chip = chip_at_rest a.sizes a.originals.now; work = replicate a.sizes.p 0 }))
at_rest c =
    let a = c.args in
    let slots = c.slot_count-slots in
    filled a.sizes a.list.now a.sets.now a.originals.now c.requires.0 _ _ _ (take slots.result (replicate 72 0))
    (front-again c.store_length-size.result 4608 c.put_store.new.store (store-size c.before.before.before) ∙ c.put_store.ensures)
    (front-again slots.result 72 c.put_marks.new.marks (marks-size c) ∙ c.put_marks.ensures)
    (zeros-length slots.result 72 (in-ranges c.before.before.before.before.before).1 ∙ slots.ensures)
    (zeros-taken a.sizes.p 64 (limits c.before.before.before.before.before.before.before.before.before.before.before).short-pages)

pub store_length-size-requires : goal.store_length-size-requires
store_length-size-requires c = omega (arith, limits c.before.before.before.before.before)

pub slot_count-slots-requires : goal.slot_count-slots-requires
slot_count-slots-requires c = omega (arith, limits c.before.before.before.before.before.before)

pub slice_bounds-store-end : goal.slice_bounds-store-end
slice_bounds-store-end c = (in-ranges c.before).0

pub slice_bounds-put_store-end : goal.slice_bounds-put_store-end
slice_bounds-put_store-end c = sym (zeros-length c.store_length-size.result 4608 (in-ranges c.before.before).0)

pub put_store-requires : goal.put_store-requires
put_store-requires c =
    let given = c.requires.0.readable in
    let size = c.store_length-size in
    record {
      store_len = zeros-length size.result 4608 (in-ranges c.before.before).0 ∙ omega (arith, size.ensures, given.bytes-length);
      originals_value = given.bytes_fit;
    }

pub overflow_cast-s : goal.overflow_cast-s
overflow_cast-s c = omega (arith, limits c.before.before.before.before.before.before.before.before.before.before)

pub slice_bounds-marks-end : goal.slice_bounds-marks-end
slice_bounds-marks-end c = (in-ranges c.before.before.before.before).1

pub slice_bounds-put_marks-end : goal.slice_bounds-put_marks-end
slice_bounds-put_marks-end c = sym (zeros-length c.slot_count-slots.result 72 (in-ranges c.before.before.before.before.before).1)

pub put_marks-requires : goal.put_marks-requires
put_marks-requires c =
    omega (arith, zeros-length c.slot_count-slots.result 72 (in-ranges c.before.before.before.before.before).1, c.slot_count-slots.ensures)

pub slice_bounds-store-end-2 : goal.slice_bounds-store-end-2
slice_bounds-store-end-2 c =
    room-again c.store_length-size.result 4608 c.put_store.new.store (store-size c.before.before.before.before.before.before)

pub slice_bounds-put_listing-end : goal.slice_bounds-put_listing-end
slice_bounds-put_listing-end c =
    length-again c.store_length-size.result 4608 c.put_store.new.store (store-size c.before.before.before.before.before.before.before)

pub slice_bounds-marks-end-2 : goal.slice_bounds-marks-end-2
slice_bounds-marks-end-2 c =
    room-again c.slot_count-slots.result 72 c.put_marks.new.marks (marks-size c.before.before.before.before)

pub slice_bounds-put_listing-end-2 : goal.slice_bounds-put_listing-end-2
slice_bounds-put_listing-end-2 c =
    length-again c.slot_count-slots.result 72 c.put_marks.new.marks (marks-size c.before.before.before.before.before)

pub slice_bounds-work-end : goal.slice_bounds-work-end
slice_bounds-work-end c =
    (limits c.before.before.before.before.before.before.before.before.before.before.before.before.before.before.before.before).short-pages

pub slice_bounds-put_listing-end-3 : goal.slice_bounds-put_listing-end-3
slice_bounds-put_listing-end-3 c =
    sym (zeros-length c.args.sizes.p 64
    (limits c.before.before.before.before.before.before.before.before.before.before.before.before.before.before.before.before.before).short-pages)

pub put_listing-requires : goal.put_listing-requires
put_listing-requires c =
    let a = c.args in
    (listable a.sizes a.list.now a.sets.now a.originals.now c.requires.0 _ (at_rest c.before.before.before.before.before.before), omega arith)

pub returns : goal.returns
returns c =
    let a = c.args in
    is-listed a.sizes a.list.now a.sets.now a.originals.now c.requires.0 _ _ _ _
    (at_rest c.before.before.before.before.before.before.before.before.before.before.before.before) c.put_listing.ensures.written
