-- A step does the operation of its place, and counts it.
use Rattle.flash.proofs.Kit.{refl, sym, ◌∙◌, ◌≢◌, subst, length, length-take-le, Bool, ◌||◌, ◌+◌, ◌*◌, ◌≤◌, arith}
use Rattle.std.specs.Prelude.{is_none}
use Rattle.flash.proofs.Bounds.{slot-in-store, block-in-marks, block-in-store}
use Rattle.method.specs.Place.{write, erase, done, operation_at}
use Rattle.method.specs.Step.{perform, tallied}
use Rattle.method.specs.inner.MoveIn.{move_in}
use Rattle.places.specs.inner.Place.{pass_of}
use Rattle.places.proofs.StepTold.{is-write, is-erase, told-done}
use Rattle.mover.specs.inner.Prepared.{plan_in}
use Rattle.mover.specs.inner.Steps.{OtherTable}
use Rattle.mover.proofs.StepLaws.{of-front, wrote, wrote-bytes, wrote-reads, stepped, write_known, slot-inside}
use Rattle.mover.proofs.step.step.Goals as goal

-- ---- a write: its page, and its slot, which is one of the store
pub write_terms-terms-requires : goal.write_terms-terms-requires
write_terms-terms-requires c =
    let P = c.args.prepared in
    let M = move_in P.moved in
    let R = c.requires.place_is in
    let W = is-write _ _ _ _ _ _ (sym c.in-Write.is ∙ c.operation.ensures) in
    let K = write_known M P.moved.accepted c.args.place R.0 c.args.marks.now R.1 c.in-Write.backward c.in-Write.block c.in-Write.page W.is in
    record {
      other_tells = subst (λ (t : Bool). OtherTable M (t || is_none P.pages) c.args.other.now) K.pass-is c.requires.other_tells;
      block_in = (R.2, W.page-in, W.block_in, W.low, W.high);
    }

pub overflow_mul-slot : goal.overflow_mul-slot
overflow_mul-slot c =
    let W = is-write _ _ _ _ _ _ (sym c.in-Write.is ∙ c.operation.ensures) in
    omega (arith, slot-inside _ c.args.prepared.moved.accepted.ranges _ _ W.block_in W.page-in)

pub overflow_add-slot : goal.overflow_add-slot
overflow_add-slot c =
    let W = is-write _ _ _ _ _ _ (sym c.in-Write.is ∙ c.operation.ensures) in
    omega (arith, slot-inside _ c.args.prepared.moved.accepted.ranges _ _ W.block_in W.page-in)

pub total_to_slot-written-requires : goal.total_to_slot-written-requires
total_to_slot-written-requires c =
    let Z = c.args.prepared.moved.sizes in
    let W = is-write _ _ _ _ _ _ (sym c.in-Write.is ∙ c.operation.ensures) in
    let F = c.write_terms-terms.ensures.count_le_slots_length in
    let r = c.write_terms-terms.result in
    let slots = c.write_terms-terms.new.slots in
    let cut : r.count ≤ length slots = omega (arith, F.0, F.1) in
    let fits = slot-in-store Z in record {
      slots_in_bounds = (
        omega (arith, F.0, length-take-le r.count slots cut),
        rw c.requires.place_is.3
            (fits _ (slot-inside _ c.args.prepared.moved.accepted.ranges _ _ W.block_in W.page-in).0),
      );
      by_index = of-front (λ t. t * Z.p + Z.p ≤ length c.args.store.now) slots r.count cut (λ j h. rw c.requires.place_is.3 (fits _ (F.2 j h).0));
      by_index_2 = of-front (λ t. t ≢ c.in-Write.block * Z.m + c.in-Write.page) slots r.count cut (λ j h. (F.2 j h).1);
    }

pub bounds-marks-slot : goal.bounds-marks-slot
bounds-marks-slot c =
    let W = is-write _ _ _ _ _ _ (sym c.in-Write.is ∙ c.operation.ensures) in
    omega (arith, slot-inside _ c.args.prepared.moved.accepted.ranges _ _ W.block_in W.page-in, c.requires.place_is.4)

pub overflow_add-tally : goal.overflow_add-tally
overflow_add-tally c = omega (arith, c.requires.tally_small)

pub overflow_add-tally-in-Write : goal.overflow_add-tally-in-Write
overflow_add-tally-in-Write c = omega (arith, c.requires.tally_small)

-- the bytes of its page are few
pub overflow_cast-tally : goal.overflow_cast-tally
overflow_cast-tally c = omega (arith, c.total_to_slot-written.ensures.2, c.args.prepared.moved.accepted.ranges.p-high)

pub overflow_add-tally-in-Write-2 : goal.overflow_add-tally-in-Write-2
overflow_add-tally-in-Write-2 c =
    omega (arith, c.total_to_slot-written.ensures.2, c.args.prepared.moved.accepted.ranges.p-high, c.requires.tally_small)

-- and so are the slots that were summed
pub overflow_cast-tally-in-Write : goal.overflow_cast-tally-in-Write
overflow_cast-tally-in-Write c = (omega (arith, c.write_terms-terms.ensures.count_le_slots_length.0))

pub overflow_add-tally-in-Write-3 : goal.overflow_add-tally-in-Write-3
overflow_add-tally-in-Write-3 c = omega (arith, c.write_terms-terms.ensures.count_le_slots_length.0, c.requires.tally_small)

-- ---- an erase
pub erase_block-requires : goal.erase_block-requires
erase_block-requires c =
    let Z = c.args.prepared.moved.sizes in
    let E = is-erase Z c.args.place.at _ (sym c.in-Erase.is ∙ c.operation.ensures) in
    record {
      p_in_bounds = rw c.requires.place_is.3 (block-in-store Z c.in-Erase.block E.block_in);
      m_in_bounds = rw c.requires.place_is.4 (block-in-marks Z c.in-Erase.block E.block_in);
    }

-- ---- what is left
pub returns-in-Write : goal.returns-in-Write
unfolding tallied
returns-in-Write c =
    let a = c.args in
    let P = a.prepared in
    let X = plan_in P in
    let R = c.requires.place_is in
    let v = c.in-Write in
    let pass = pass_of v.backward in
    let W = is-write _ _ _ _ _ _ (sym v.is ∙ c.operation.ensures) in
    let K = write_known (move_in P.moved) P.moved.accepted a.place R.0 a.marks.now R.1 v.backward v.block v.page W.is in
    let summed = c.total_to_slot-written.ensures in
    let sums = c.write_terms-terms.ensures.by_index a.marks.now K.shape in
    let room = c.write_terms-terms.ensures.count_le_slots_length.1 in record {
      fact = (stepped X a.place.at (write pass v.block v.page) W.is _ _ _ _
          (wrote X pass v.block v.page a.store.now a.marks.now R.3 _ _ sums _ v.mark summed.0 W.mark-is)
          (rw (
            ← wrote-bytes X pass v.block v.page a.store.now a.marks.now R.3 _ _ sums _ summed.1,
            wrote-reads X pass v.block v.page a.store.now a.marks.now R.3 _ _ sums,
          )) room).0;
      slots_len = room;
    }

pub returns-in-Erase : goal.returns-in-Erase
unfolding perform tallied
returns-in-Erase c =
    let P = c.args.prepared in
    let E = is-erase P.moved.sizes c.args.place.at _ (sym c.in-Erase.is ∙ c.operation.ensures) in
    let room = c.requires.place_is.2 in
    record {
      fact = (stepped (plan_in P) c.args.place.at (erase c.in-Erase.block) E.is _ _ _ _ c.erase_block.ensures refl room).0;
      slots_len = room;
    }

pub returns-in-Done : goal.returns-in-Done
unfolding perform tallied
returns-in-Done c =
    let P = c.args.prepared in
    let Z = P.moved.sizes in
    let op = told-done Z (operation_at Z c.args.place.at) (sym c.in-Done.is ∙ c.operation.ensures) in
    let room = c.requires.place_is.2 in
    record { fact = (stepped (plan_in P) c.args.place.at done op _ _ _ _ refl refl room).0; slots_len = room }
