-- The loop over the places shows every step once and counts them; with the end line that is the listing of the move.
use Rattle.flash.proofs.Kit.{◌≡◌, ◌+◌, ◌≤◌, arith}
use Rattle.split.specs.Request.{unpinned}
use Rattle.method.specs.Move.{plan}
use Rattle.steplist.proofs.LengthLaws.{few-steps, end_short}
use Rattle.method.specs.Place.{last_place}
use Rattle.method.specs.Step.{running_of}
use Rattle.steplist.proofs.ListingLaws.{Shows, listable-at, few-counted, shows-none, shows_more, all_shown}
use Rattle.steplist.proofs.listed.put_listing.Goals as goal
use Rattle.steplist.proofs.listed.put_listing.Lts as lts
use Rattle.steplist.proofs.listed.put_listing.Reads as reads
use Rattle.steplist.proofs.listed.put_listing.Tie as tie

-- a step more is shown
shown : (c : lts.After-put_step tie.the-claims reads.Pre reads.Post goal.the-invariant-loop-place goal.the-decreases-loop-place tie.handed_clauses)
    → (let a = c.args in let l = c.loop-place in let r = c.put_step-step.result in
    Shows (plan (unpinned a.sizes a.list.now a.sets.now)) (running_of a.store.now a.marks.now a.work.now) (l.place + 1) r.at (l.writes + r.writes)
    (l.erases + r.erases) a.out.now c.put_step-step.new.out c.put_step-step.new.store c.put_step-step.new.marks c.put_step-step.new.work)
shown c =
    let a = c.args in
    let l = c.loop-place in
    shows_more (plan (unpinned a.sizes a.list.now a.sets.now)) (running_of a.store.now a.marks.now a.work.now) l.place l.at l.writes l.erases
    _ _ _ _ _ _ _ _ _ c.put_step-step.result l.invariant c.put_step-step.ensures

-- and few steps are counted
counted : (c : lts.After-put_step tie.the-claims reads.Pre reads.Post goal.the-invariant-loop-place goal.the-decreases-loop-place tie.handed_clauses)
    → (let l = c.loop-place in let r = c.put_step-step.result in (l.writes + r.writes ≤ 144) × (l.erases + r.erases ≤ 144))
counted c =
    few-counted _ _ _ _ _ _ _ _ _ _ _ c.requires.0.few-blocks c.requires.0.few-pages (omega (arith, c.last_place-place-end.ensures)) (shown c)

-- behind the loop all steps are shown
all-steps : (c : lts.After-loop tie.the-claims reads.Pre reads.Post goal.the-invariant-loop-place goal.the-decreases-loop-place tie.handed_clauses)
    → (let a = c.args in let l = c.loop-place in
    Shows (plan (unpinned a.sizes a.list.now a.sets.now)) (running_of a.store.now a.marks.now a.work.now)
    (last_place a.sizes) l.at l.writes l.erases a.out.now l.out l.store l.marks l.work)
all-steps c =
    let all : c.loop-place.place ≡ last_place c.args.sizes = omega (arith, c.last_place-place-end.ensures) in
    rw all at c.loop-place.invariant

pub last_place-place-end-requires : goal.last_place-place-end-requires
last_place-place-end-requires c = (omega (arith, c.requires.0.few-blocks), omega (arith, c.requires.0.few-pages))

pub loop-place-init : goal.loop-place-init
loop-place-init c =
    let a = c.args in
    shows-none (plan (unpinned a.sizes a.list.now a.sets.now)) (running_of a.store.now a.marks.now a.work.now) a.out.now

pub put_step-step-requires : goal.put_step-step-requires
put_step-step-requires c =
    let a = c.args in
    let l = c.loop-place in
    let last = few-steps a.sizes c.requires.0.few-blocks c.requires.0.few-pages in
    record {
      listable = listable-at (unpinned a.sizes a.list.now a.sets.now) (running_of a.store.now a.marks.now a.work.now) l.place _ c.requires.0
          (omega (arith, c.last_place-place-end.ensures)) l.invariant.left;
      place_bound = (omega (arith, c.last_place-place-end.ensures), omega (arith, l.invariant.at_high));
    }

pub overflow_add-writes : goal.overflow_add-writes
overflow_add-writes c = omega (arith, counted c.before.before.before.before.before.before.before.before.before.before)

pub overflow_add-erases : goal.overflow_add-erases
overflow_add-erases c = omega (arith, counted c.before.before.before.before.before.before.before.before.before.before.before)

pub loop-place-preserved : goal.loop-place-preserved
loop-place-preserved c = shown c.before.before.before.before.before.before.before.before.before.before.before

pub put_end-requires : goal.put_end-requires
put_end-requires c =
    let l = c.loop-place in
    let few = few-counted _ _ _ _ _ _ _ _ _ _ _ c.requires.0.few-blocks c.requires.0.few-pages (omega arith) (all-steps c.before.before) in
    let last = few-steps c.args.sizes c.requires.0.few-blocks c.requires.0.few-pages in
    omega (arith, (all-steps c.before.before).at_high, end_short l.writes l.erases (omega arith) (omega arith))

pub returns : goal.returns
returns c =
    let shows = all-steps c.before.before.before.before.before in
    record { written = all_shown _ _ _ _ _ _ _ _ _ _ _ _ shows c.put_end.ensures; work_after = shows.left }
