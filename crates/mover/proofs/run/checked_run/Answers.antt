-- The run answers as its definition does: refused by a row of the table, or carried out.
use Rattle.std.proofs.lemmas.Result.{err_from_is_err_and}
use Rattle.flash.proofs.Kit.{◌≡◌, refl, sym, ap, ◌∙◌, subst, [], List, ℕ, length}
use Rattle.flash.specs.Lists.{any}
use Rattle.flash.specs.Tables.{refusal}
use Rattle.flash.specs.Chip.{Chip}
use Rattle.split.specs.Drops.{completed, list_left}
use Rattle.split.specs.Request.{Request, request_of}
use Rattle.split.proofs.DropLaws.{completed-length}
use Rattle.method.specs.Move.{AcceptedMove, Lent, move, Plan}
use Rattle.method.specs.Answers.{steps_taken, move_rows, run_carried_out}
use Rattle.method.proofs.basics.AcceptedCalls.{ListFits, move-accepted}
use Rattle.mover.proofs.PlanLaws.{left-0, move-told, plan-told, drops-told}
use Rattle.mover.proofs.RefusalLaws.{refused-by-move, refused-by-place, refused-by-wear, not-refused}
use contract.Lifetimes.{Lfts}
use Rattle.mover.proofs.run.checked_run.Goals as goal
use Rattle.mover.proofs.run.checked_run.Lts as lts
use Rattle.mover.proofs.run.checked_run.Reads as reads
use Rattle.mover.proofs.run.checked_run.Tie as tie

abbrev asked : {κs : Lfts 7} → lts.Args tie.the-claims reads.Pre reads.Post tie.handed_clauses κs → Request
asked a = request_of a.sizes a.list.now a.pins.now a.sets.now

abbrev chip : {κs : Lfts 7} → lts.Args tie.the-claims reads.Pre reads.Post tie.handed_clauses κs → Chip
chip a = record { store = a.store.now; marks = a.marks.now }

pub move_refusal-requires : goal.move_refusal-requires
move_refusal-requires c = (refl, refl)

pub returns-in_err-move_refusal : goal.returns-in_err-move_refusal
returns-in_err-move_refusal c =
    let a = c.args in
    let e = err_from_is_err_and c.from_residual.result c.from_residual.ensures.1 in
    let k = c.in_err-move_refusal.ensures in
    rw (e.1, e.2) (record {
      work_after = refused-by-move (asked a) (chip a) a.work.now a.wear.now a.place a.limit a.budget _ k.value;
      list_after = k.list_after;
    })

-- ---- past the rows of the move
accepted : (R : Request) (chip : Chip) (work : List ℕ) → 0 ≡ refusal (move_rows R chip work [])
    → AcceptedMove (move R) × Lent R.sizes chip work × ListFits R
accepted R chip work e = (let g = move-accepted R chip work [] (sym e) in (g.0, g.1, g.2))

-- the list is completed
left : (list : List ℕ) {after : List ℕ} → after ≡ list_left 0 list → after ≡ completed list
left list e = e ∙ left-0 list

pub is_elsewhere-requires : goal.is_elsewhere-requires
is_elsewhere-requires c =
    let g = accepted (asked c.args) (chip c.args) c.args.work.now c.in_ok-move_refusal.ensures.value in (g.0.ranges, g.1.marks-length, g.1.store_length)

pub returns-then-is_elsewhere : goal.returns-then-is_elsewhere
unfolding list_left any
returns-then-is_elsewhere c =
    let a = c.args in
    let k = c.in_ok-move_refusal.ensures in
    record {
      work_after = refused-by-place (asked a) (chip a) a.work.now a.wear.now a.place a.limit a.budget k.value
          (sym c.if-is_elsewhere.true ∙ c.is_elsewhere.ensures);
      list_after = left a.list.now k.list_after;
    }

pub is_worn_out-requires : goal.is_worn_out-requires
is_worn_out-requires c = (accepted (asked c.args) (chip c.args) c.args.work.now c.in_ok-move_refusal.ensures.value).0.ranges.n-high

pub returns-then-is_worn_out : goal.returns-then-is_worn_out
unfolding list_left any
returns-then-is_worn_out c =
    let a = c.args in
    let k = c.in_ok-move_refusal.ensures in
    record {
      work_after = refused-by-wear (asked a) (chip a) a.work.now a.wear.now a.place a.limit a.budget k.value
          (sym c.if-is_elsewhere.false ∙ c.is_elsewhere.ensures) (sym c.if-is_worn_out.true ∙ c.is_worn_out.ensures);
      list_after = left a.list.now k.list_after;
    }

-- ---- past row 12
pub invariant_of-moved : goal.invariant_of-moved
invariant_of-moved c =
    let k = c.in_ok-move_refusal.ensures in
    let same = move-told (asked c.args) _ _ _ (left c.args.list.now k.list_after) (k.by_destination refl).1 in
    record { accepted = subst AcceptedMove (sym same) (accepted (asked c.args) (chip c.args) c.args.work.now k.value).0 }

pub carry_out-requires : goal.carry_out-requires
carry_out-requires c =
    let R = asked c.args in
    let k = c.in_ok-move_refusal.ensures in
    let g = accepted R (chip c.args) c.args.work.now k.value in
    let told = k.by_destination refl in (
      g.1,
      sym (sym c.if-is_elsewhere.false ∙ c.is_elsewhere.ensures),
      told.0,
      drops-told R _ _ _ (left c.args.list.now k.list_after) told.1 g.2,
    )

-- the list is as long as it was
pub shape_of-list : goal.shape_of-list
shape_of-list c = ap length (left c.args.list.now c.in_ok-move_refusal.ensures.list_after) ∙ completed-length c.args.list.now

pub returns : goal.returns
returns c =
    let a = c.args in
    let k = c.in_ok-move_refusal.ensures in
    let same = plan-told (asked a) _ _ _ (left a.list.now k.list_after) (k.by_destination refl).1 in
    record {
      work_after = not-refused (asked a) (chip a) a.work.now a.wear.now a.place a.limit a.budget k.value
          (sym c.if-is_elsewhere.false ∙ c.is_elsewhere.ensures) (sym c.if-is_worn_out.false ∙ c.is_worn_out.ensures) _
          (c.carry_out.ensures
          ∙ ap (λ (X : Plan). run_carried_out X (chip a) a.work.now a.wear.now a.place (steps_taken a.sizes a.place a.budget)) same);
      list_after = k.list_after;
    }
