-- The slots of a write in the forward pass are those of `forward_by`.
use Rattle.flash.proofs.Kit.{sym, ◌∙◌, ◌≤◌, arith, length-set, eq-eqb, ne_eqb}
use Rattle.walk.specs.inner.Slots.{forward_by}
use Rattle.walk.proofs.GatherLaws.{count-is, first-put}
use Rattle.walk.proofs.RowLaws.{walk-some}
use Rattle.walk.proofs.walk.forward_slots.Goals as goal
use Rattle.walk.proofs.walk.forward_slots.Lts as lts
use Rattle.walk.proofs.walk.forward_slots.Reads as reads
use Rattle.walk.proofs.walk.forward_slots.Tie as tie

some : (c : lts.After-go_back tie.the-claims reads.Pre reads.Post tie.handed_clauses) → 1 ≤ c.go_back-count.result
some c = rw (count-is _ _ _ _ c.go_back-count.ensures) (walk-some _ _ _ _ _ _ (omega arith))

pub overflow_sub-count : goal.overflow_sub-count
overflow_sub-count c = rw (count-is _ _ _ _ c.go_back-count.ensures) (walk-some _ _ _ _ _ _ (omega arith))

pub returns-then-slots-count : goal.returns-then-slots-count
unfolding forward_by
returns-then-slots-count c =
    let G = c.go_back-count.ensures in
    let F = first-put _ _ _ _ G _ (some c.before.before.before.before) in
    (F.0 ∙ sym (rw (← c.from.ensures, eq-eqb _ _ (sym F.2 ∙ c.if-slots-count.true))), omega arith, omega arith, simp length-set G.room)

pub returns : goal.returns
unfolding forward_by
returns c =
    let G = c.go_back-count.ensures in
    let F = first-put _ _ _ _ G _ (some c.before.before.before.before) in
    (F.1 ∙ sym (rw (← c.from.ensures, ne_eqb _ _ (λ e. c.if-slots-count.false (F.2 ∙ e)))), some c.before.before.before.before, omega (arith, G.few), simp length-set G.room)
