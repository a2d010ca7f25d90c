-- A run that passed its tests does the steps that its definition has, each with the tables of its pass, and tells them.
use Rattle.std.specs.Prelude.{is_none, not}
use Rattle.std.proofs.Math.Bool.{not-not}
use Rattle.flash.proofs.Kit.{◌≡◌, refl, sym, ap, ◌∙◌, subst, Bool, ◌||◌, ℕ, ◌+◌, ◌-◌, ◌<◌, arith}
use Rattle.flash.specs.Lists.{part}
use Rattle.flash.specs.Chip.{Chip, page_at}
use Rattle.flash.proofs.Bools.{never_both}
use Rattle.method.specs.declared.tally.Tally.{Tally}
use Rattle.method.specs.Place.{last_place, filled}
use Rattle.method.specs.Step.{running_of, steps, operations_from}
use Rattle.method.specs.Worn.{worn_by}
use Rattle.method.proofs.basics.AcceptedCalls.{stands_at}
use Rattle.method.proofs.places.Tallies.{few-tallied}
use Rattle.places.specs.inner.Place.{place_of}
use Rattle.places.proofs.PlaceLaws.{number_is, is-place, page-is}
use Rattle.places.proofs.StepTold.{bounds-erase}
use Rattle.mover.specs.inner.Prepared.{plan_in}
use Rattle.method.specs.inner.MoveIn.{move_in}
use Rattle.mover.specs.inner.Steps.{OtherTable, last_slot}
use Rattle.mover.proofs.RunLaws.{run-fits, none-taken, none-counted, none-worn, one-taken, one-counted, counts-fit, erase-worn, write-worn, carried, goes_on}
use Rattle.mover.proofs.RunLaws.{work-left}
use Rattle.mover.proofs.run.take_steps.Goals as goal
use Rattle.mover.proofs.run.take_steps.Goals.{else-at-sizes, else-tally-gt0, then-at-sizes, then-tally-gt0}

pub overflow_sub-last : goal.overflow_sub-last
overflow_sub-last c = omega (arith, c.last_place-last.ensures, (stands_at _ _ _ c.requires.1).inside)

pub new-at-requires : goal.new-at-requires
new-at-requires c =
    let a = c.args in
    let P = a.prepared in
    let Z = P.moved.sizes in
    let G = run-fits Z P.moved.accepted.ranges _ a.place _ _ _ c.requires.1 c.last_place-last.ensures c.min-taken.ensures in
    (P.moved.accepted.ranges, omega (arith, G))

pub loop-i-init : goal.loop-i-init
loop-i-init c =
    let first : c.args.place ≡ c.args.place + 0 = omega arith in (
      none-taken _ _ _,
      c.nothing_done-tally.ensures ∙ none-counted _ _ _,
      c.new-at.ensures ∙ ap (place_of c.args.prepared.moved.sizes) first,
      record { sources-tell = λ e. absurd (never_both refl e); sets-tell = λ e. c.requires.2 },
      refl,
      none-worn _ _ _,
    )

-- ---- a step of the loop
pub step-tally-requires : goal.step-tally-requires
step-tally-requires c =
    let l = c.loop-i in
    let a = c.args in
    let P = a.prepared in
    let Z = P.moved.sizes in
    let G = run-fits Z P.moved.accepted.ranges _ a.place _ _ _ c.requires.1 c.last_place-last.ensures c.min-taken.ensures in
    let start = running_of a.store.now a.marks.now a.work.now in
    let A = P.moved.accepted in
    let S = goes_on (plan_in P) A start a.place c.requires.0 c.requires.1 l.i (omega (arith, G)) _ l.invariant.0 in
    let at = number_is _ _ _ l.invariant.2 in
    let few : c.is_none-few.result ≡ is_none P.pages = sym (ap not c.is_none-few.ensures ∙ not-not _) in
    record {
      other_tells = subst (λ (t : Bool). OtherTable (move_in P.moved) (l.at.backward || t) c.fill_other.new.other) few c.fill_other.ensures;
      place_is = (is-place _ _ _ l.invariant.2, rw at S.stands.marks, l.invariant.4, S.lent.store_length, S.lent.marks-length);
      tally_small = counts-fit (plan_in P) A start a.place c.requires.0 c.requires.1 l.i l.tally (omega (arith, G)) l.invariant.1;
    }

pub freed-requires : goal.freed-requires
freed-requires c =
    let l = c.loop-i in
    let a = c.args in
    let P = a.prepared in
    let Z = P.moved.sizes in
    let G = run-fits Z P.moved.accepted.ranges _ a.place _ _ _ c.requires.1 c.last_place-last.ensures c.min-taken.ensures in
    let on : a.place + l.i < last_place Z = omega (arith, G) in
    (is-place _ _ _ l.invariant.2, rw (number_is _ _ _ l.invariant.2) on, c.if-at-sizes.true)

-- the block of an erase has a counter
pub rise-requires : goal.rise-requires
rise-requires c =
    let M = c.args.prepared.moved in
    omega (arith, bounds-erase M.sizes _ _ c.freed.ensures, M.accepted.ranges.n-high)

pub next-at-requires : goal.next-at-requires
next-at-requires c =
    let l = c.loop-i in
    let a = c.args in
    let P = a.prepared in
    let Z = P.moved.sizes in
    let G = run-fits Z P.moved.accepted.ranges _ a.place _ _ _ c.requires.1 c.last_place-last.ensures c.min-taken.ensures in
    let on : a.place + l.i < last_place Z = omega (arith, G) in
    (P.moved.accepted.ranges, is-place _ _ _ l.invariant.2, rw (number_is _ _ _ l.invariant.2) on)

pub loop-i-preserved : goal.loop-i-preserved
loop-i-preserved c =
    let l = c.loop-i in
    let a = c.args in
    let P = a.prepared in
    let Z = P.moved.sizes in
    let G = run-fits Z P.moved.accepted.ranges _ a.place _ _ _ c.requires.1 c.last_place-last.ensures c.min-taken.ensures in
    let start = running_of a.store.now a.marks.now a.work.now in
    let X = plan_in P in
    let on : a.place + l.i < last_place Z = omega (arith, G) in
    let at : l.at.at ≡ a.place + l.i = number_is _ _ _ l.invariant.2 in
    let next : l.at.at + 1 ≡ a.place + (l.i + 1) = omega arith in
    let worn : c.if-at-sizes.wear ≡ worn_by (operations_from Z a.place (l.i + 1)) a.wear.now = elim c.if-at-sizes.branch [
      | then-at-sizes w ↦ w.wear-is ∙ erase-worn Z a.place l.i on w.freed.result _ a.wear.now _ (rw at at w.freed.ensures) l.invariant.5 w.rise.ensures
      | else-at-sizes w ↦ w.wear-is
          ∙ write-worn Z a.place l.i on
          (λ full. w.if-at-sizes.false (page-is _ _ (is-place _ _ _ l.invariant.2) ∙ ap (filled Z) at ∙ full)) _ a.wear.now l.invariant.5
    ] in (
      one-taken X a.place l.i start _ _ l.invariant.0 (rw at at c.step-tally.ensures.fact.0),
      one-counted X a.place l.i start _ _ _ l.invariant.0 l.invariant.1 (rw at at c.step-tally.ensures.fact.1),
      c.next-at.ensures ∙ ap (place_of Z) next,
      c.fill_other.ensures,
      c.step-tally.ensures.slots_len,
      worn,
    )

-- ---- where it ends: the place reached is in the move
pub overflow_sub-reached : goal.overflow_sub-reached
overflow_sub-reached c =
    let l = c.loop-i in
    let a = c.args in
    let P = a.prepared in
    let Z = P.moved.sizes in
    let G = run-fits Z P.moved.accepted.ranges _ a.place _ _ _ c.requires.1 c.last_place-last.ensures c.min-taken.ensures in
    let start = running_of a.store.now a.marks.now a.work.now in
    let few = few-tallied (plan_in P) l.i a.place start (omega (arith, G)) in
    omega (arith, ap (λ (t : Tally). t.writes) l.invariant.1, c.if-tally-gt0.true)

pub keep_last_page-requires : goal.keep_last_page-requires
keep_last_page-requires c =
    let l = c.loop-i in
    let a = c.args in
    let P = a.prepared in
    let Z = P.moved.sizes in
    let G = run-fits Z P.moved.accepted.ranges _ a.place _ _ _ c.requires.1 c.last_place-last.ensures c.min-taken.ensures in
    let start = running_of a.store.now a.marks.now a.work.now in
    let S = goes_on (plan_in P) P.moved.accepted start a.place c.requires.0 c.requires.1 l.i (omega (arith, G)) _ l.invariant.0 in
    (P.moved.accepted.ranges, omega (arith, G), S.lent.store_length, c.requires.0.work-length)

pub overflow_cast-result : goal.overflow_cast-result
overflow_cast-result c =
    let a = c.args in
    let P = a.prepared in
    let Z = P.moved.sizes in
    let G = run-fits Z P.moved.accepted.ranges _ a.place _ _ _ c.requires.1 c.last_place-last.ensures c.min-taken.ensures in
    omega (arith, G)

pub returns : goal.returns
unfolding page_at
returns c =
    let l = c.loop-i in
    let a = c.args in
    let P = a.prepared in
    let Z = P.moved.sizes in
    let G = run-fits Z P.moved.accepted.ranges _ a.place _ _ _ c.requires.1 c.last_place-last.ensures c.min-taken.ensures in
    let start = running_of a.store.now a.marks.now a.work.now in
    let X = plan_in P in
    let taken : ℕ = c.min-taken.result in
    let all : l.i ≡ taken = omega arith in
    let chip = rw all at l.invariant.0 in
    let tally = rw all at l.invariant.1 in
    let L = work-left X P.moved.accepted start a.place c.requires.0 c.requires.1 taken (omega (arith, G)) in
    let writes = ap (λ (t : Tally). t.writes) tally in
    let there : part Z.p (last_slot Z (a.place + taken - 1)) l.store ≡ page_at Z.p (steps X taken a.place start).chip (last_slot Z (a.place + taken - 1)) =
    ap (λ (chip : Chip). page_at Z.p chip (last_slot Z (a.place + taken - 1))) chip in
    let work : c.if-tally-gt0.work ≡ (steps X taken a.place start).work = elim c.if-tally-gt0.branch [
      | then-tally-gt0 t ↦ t.work-is ∙ t.keep_last_page.ensures ∙ there ∙ sym (L.new (omega (arith, t.if-tally-gt0.true)))
      | else-tally-gt0 t ↦ t.work-is ∙ sym (L.old (omega (arith, t.if-tally-gt0.false)))
    ] in
    carried _ _ _ _ _ _ _ _ _ _ _ _ _ _ c.last_place-last.ensures c.min-taken.ensures chip work tally (rw all at l.invariant.5)
