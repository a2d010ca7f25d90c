-- The listing step by step: what is shown after one step more.
use Rattle.flash.proofs.Kit.{◌≡◌, refl, sym, ap, ◌∙◌, subst, List, ◌++◌, append_assoc, append-nil, ℕ, zero, suc, ◌+◌, ◌*◌, ◌≤◌, zero-add, suc-add}
use Rattle.flash.proofs.Kit.{add-zero, arith, take, take-length}
use Rattle.flash.specs.Lists.{count}
use Rattle.flash.proofs.Searches.{count-append}
use Rattle.flash.specs.Wear.{counter_end, unworn}
use Rattle.split.specs.Request.{Request}
use Rattle.method.specs.Move.{Plan, plan}
use Rattle.method.specs.Place.{operations, operation_at, last_place}
use Rattle.method.specs.Step.{running_of, Running, step, steps, is_write, is_erase, operations_from}
use Rattle.method.specs.Claims.{StepsCounted}
use Rattle.method.proofs.places.StepsCounted.{steps-counted}
use Rattle.method.proofs.states.StepsAddUp.{steps-add}
use Rattle.method.proofs.places.Tallies.{operations_from-split, writes-and-erases}
use Rattle.method.proofs.basics.AcceptedCalls.{run-taken, taken-run}
use Rattle.method.proofs.states.RunsAddUp.{still-taken}
use Rattle.method.proofs.wear.WornLaws.{unworn-passes}
use Rattle.listing.specs.Area.{Written}
use Rattle.listing.specs.Lines.{Printed, end_line}
use Rattle.listing.proofs.PrintLaws.{over-printed}
use Rattle.steplist.specs.declared.listed.Shown.{Shown}
use Rattle.steplist.specs.Output.{step_line, step_lines, move_lines}
use Rattle.steplist.specs.inner.Listing.{Listable, Stepped, most_line}
use Rattle.steplist.proofs.LengthLaws.{few-steps}

-- the steps before a place were taken, and their lines were written over the front of what the output was before
pub record Shows (X : Plan) (start : Running) (place at writes erases : ℕ) (before out store marks work : List ℕ) : Type 0 where
  pub left : running_of store marks work ≡ steps X place 0 start
  pub lines_are : Written (step_lines X place 0 start) before out at
  pub at_high : at ≤ most_line * place
  pub writes-is : writes ≡ count is_write (operations_from X.move.sizes 0 place)
  pub erases-is : erases ≡ count is_erase (operations_from X.move.sizes 0 place)

-- the lines of some steps, and then of more
lines-add : (X : Plan) (a b place : ℕ) (run : Running) → step_lines X (a + b) place run ≡ step_lines X a place run ++ step_lines X b (place + a) (steps X a place run)
unfolding step_lines steps
lines-add X zero b place run = rw (zero-add b, add-zero place)
lines-add X (suc a) b place run =
    let next : suc place + a ≡ place + suc a = omega arith in
    let after = step X place run in
    rw (suc-add a b, lines-add X a b (suc place) after, next)
    (sym (append_assoc (step_line place (operation_at X.move.sizes place) after.work) (step_lines X a (suc place) after) (step_lines X b (place + suc a) (steps X a (suc place) after))))

-- at every place the run goes on
pub listable-at : (R : Request) (start : Running) (place : ℕ) (run : Running) → Listable R start 0 → place ≤ last_place R.sizes → run ≡ steps (plan R) place 0 start
    → Listable R run place
listable-at R start place run L h e =
    let T = still-taken R start.chip start.work unworn 0 place counter_end (omega arith) (run-taken R start.chip start.work unworn 0 counter_end L.taken) in
    record {
      few-blocks = L.few-blocks;
      few-pages = L.few-pages;
      short-pages = L.short-pages;
      taken = rw e (taken-run R _ _ unworn place counter_end (record {
        accepted = T.accepted;
        lent = T.lent;
        stands = rw (zero-add place) at T.stands;
        fits = T.fits;
        lasts = unworn-passes R.sizes.n place;
      }));
    }

module _ (X : Plan) (start : Running) where
  -- the line of the step at a place, behind those of the steps before it
  line-more : (place : ℕ) → step_lines X (place + 1) 0 start ≡ step_lines X place 0 start ++ step_line place (operation_at X.move.sizes place) (step X place (steps X place 0 start)).work
  unfolding step_lines
  line-more place =
      lines-add X place 1 0 start ∙ rw (zero-add place, append-nil)

  step-more : (place : ℕ) → steps X (place + 1) 0 start ≡ step X place (steps X place 0 start)
  unfolding steps
  step-more place = steps-add X place 1 0 start ∙ rw (zero-add place)

  -- no more is counted than steps were taken
  pub few-counted : (place at writes erases : ℕ) (before out store marks work : List ℕ) → X.move.sizes.n ≤ 8 → X.move.sizes.m ≤ 8 → place ≤ last_place X.move.sizes
      → Shows X start place at writes erases before out store marks work → (writes ≤ 144) × (erases ≤ 144)
  few-counted place at writes erases before out store marks work few-blocks few-pages h S =
      let few = writes-and-erases X.move.sizes place 0 (omega arith) in
      let last = few-steps X.move.sizes few-blocks few-pages in
      (omega (arith, S.writes-is), omega (arith, S.erases-is))

  pub shows-none : (out : List ℕ) → Shows X start 0 0 0 0 out out start.chip.store start.chip.marks start.work
  unfolding steps step_lines count operations_from
  shows-none out = record { left = refl; lines_are = (refl, refl); at_high = omega arith; writes-is = refl; erases-is = refl }

  pub shows_more : (place at writes erases : ℕ) (before out store marks work out' store' marks' work' : List ℕ) (shown : Shown)
      → Shows X start place at writes erases before out store marks work → Stepped X place (running_of store marks work) out at shown out' store' marks' work'
      → Shows X start (place + 1) shown.at (writes + shown.writes) (erases + shown.erases) before out' store' marks' work'
  shows_more place at writes erases before out store marks work out' store' marks' work' shown S T =
      let after = T.left ∙ ap (step X place) S.left in
      let done = rw (zero-add place) at (operations_from-split X.move.sizes 0 place 1) in
      let lines : step_lines X place 0 start ++ step_line place (operation_at X.move.sizes place) work' ≡ step_lines X (place + 1) 0 start = sym (line-more place ∙ rw (← after)) in
      record {
        left = after ∙ sym (step-more place);
        lines_are = subst (λ (lines : List ℕ). Written lines before out' shown.at) lines (over-printed (step_lines X place 0 start) before S.lines_are.0 S.lines_are.1 T.printed);
        at_high = omega (arith, T.printed.next-is, T.short, S.at_high);
        writes-is = rw (done, count-append) (omega (arith, S.writes-is, T.writes-is));
        erases-is = rw (done, count-append) (omega (arith, S.erases-is, T.erases-is));
      }

  -- all steps, and the end line
  pub all_shown : (at writes erases next : ℕ) (before out store marks work out' : List ℕ) → Shows X start (last_place X.move.sizes) at writes erases before out store marks work
      → Printed (end_line writes erases) out at out' next → Written (move_lines X start) before out' next
  unfolding move_lines operations_from StepsCounted
  all_shown at writes erases next before out store marks work out' S T =
      let all : take (last_place X.move.sizes) (operations X.move.sizes) ≡ operations X.move.sizes = rw (← steps-counted X.move.sizes) (take-length (operations X.move.sizes)) in
      let lines : step_lines X (last_place X.move.sizes) 0 start ++ end_line writes erases ≡ move_lines X start = rw (S.writes-is, S.erases-is, all) in
      subst (λ (text : List ℕ). Written text before out' next) lines (over-printed (step_lines X (last_place X.move.sizes) 0 start) before S.lines_are.0 S.lines_are.1 T)
