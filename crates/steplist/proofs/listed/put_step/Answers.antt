-- One step is taken as the run takes it, and its line printed.
use Rattle.flash.proofs.Kit.{arith}
use Rattle.split.specs.Request.{unpinned}
use Rattle.method.specs.Move.{plan}
use Rattle.method.specs.Step.{running_of}
use Rattle.method.proofs.basics.AcceptedCalls.{run-taken}
use Rattle.steplist.proofs.StepLaws.{OneStep, one-step}
use Rattle.steplist.proofs.listed.put_step.Goals as goal
use Rattle.steplist.proofs.listed.put_step.Lts as lts
use Rattle.steplist.proofs.listed.put_step.Reads as reads
use Rattle.steplist.proofs.listed.put_step.Tie as tie

-- what the run left and counted
told : (c : lts.After-run_unpinned tie.the-claims reads.Pre reads.Post tie.handed_clauses)
    → (let a = c.args in let l = c.run_unpinned-ran.new in
    OneStep (plan (unpinned a.sizes a.list.now a.sets.now))
    (running_of a.store.now a.marks.now a.work.now) a.place c.run_unpinned-ran.result l.store l.marks l.work)
told c =
    let a = c.args in
    one-step (unpinned a.sizes a.list.now a.sets.now)
    (running_of a.store.now a.marks.now a.work.now) a.place c.requires.listable c.requires.place_bound.0 _ _ _ _ c.run_unpinned-ran.ensures

pub run_unpinned-ran-requires : goal.run_unpinned-ran-requires
run_unpinned-ran-requires c =
    let a = c.args in
    let fits = (run-taken (unpinned a.sizes a.list.now a.sets.now) _ _ _ a.place _ c.requires.listable.taken).fits in
    (c.requires.listable.few-blocks, c.requires.listable.few-pages, fits.list_length)

pub put_line-next-requires : goal.put_line-next-requires
put_line-next-requires c =
    let a = c.args in
    let given = (run-taken (unpinned a.sizes a.list.now a.sets.now) _ _ _ a.place _ c.requires.listable.taken).accepted.ranges in
    record { bounds = (given, omega arith); work_in_bounds = omega (arith, (told c.before.before.before.before.before.before.before.before).short) }

pub returns-in-Ok : goal.returns-in-Ok
returns-in-Ok c =
    let a = c.args in
    let one =
    one-step (unpinned a.sizes a.list.now a.sets.now)
    (running_of a.store.now a.marks.now a.work.now) a.place c.requires.listable c.requires.place_bound.0 c.run_unpinned-ran.result _ _ _ c.run_unpinned-ran.ensures in
    record {
      left = one.left;
      printed = c.put_line-next.ensures;
      short = one.short;
      writes-is = rw c.in-Ok.is at one.writes-is;
      erases-is = rw c.in-Ok.is at one.erases-is;
    }

pub returns-in-Err : goal.returns-in-Err
returns-in-Err c =
    let a = c.args in
    let one =
    one-step (unpinned a.sizes a.list.now a.sets.now)
    (running_of a.store.now a.marks.now a.work.now) a.place c.requires.listable c.requires.place_bound.0 c.run_unpinned-ran.result _ _ _ c.run_unpinned-ran.ensures in
    record {
      left = one.left;
      printed = c.put_line-next.ensures;
      short = one.short;
      writes-is = rw c.in-Err.is at one.writes-is;
      erases-is = rw c.in-Err.is at one.erases-is;
    }
