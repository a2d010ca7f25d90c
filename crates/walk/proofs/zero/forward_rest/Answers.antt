-- Where i is the top, c(i) holds one original alone; else the slots of the other are gathered.
use Rattle.flash.proofs.Kit.{◌≡◌, refl, sym, ◌∙◌, subst, true, false, List, ℕ, ◌-◌, arith}
use Rattle.flash.proofs.Bools.{fails}
use Rattle.method.specs.Cycle.{is_top}
use Rattle.method.proofs.cycles.Tops.{is_top-true, top-is_top}
use Rattle.walk.specs.inner.Moments.{Tells, moment_in}
use Rattle.walk.proofs.SetLaws.{moves}
use Rattle.walk.proofs.ZeroLaws.{some-forth}
use Rattle.walk.proofs.zero.forward_rest.Goals as goal

pub returns-then-top_of-i : goal.returns-then-top_of-i
returns-then-top_of-i c =
    let rows = c.args.rows in
    let tip = c.top_of.ensures (moves rows) rows.set rows.moved.accepted rows.set_in refl rows.sources_row in
    let is : is_top (moves rows) rows.set c.args.i ≡ true = top-is_top (moves rows) rows.set c.args.i (sym tip ∙ c.if-top_of-i.true) in
    record { result_bound = (omega arith, c.requires.2); by_index = λ begun T. sym (rw is) }

pub returns : goal.returns
returns c =
    let rows = c.args.rows in
    let M = moves rows in
    let tip = c.top_of.ensures M rows.set rows.moved.accepted rows.set_in refl rows.sources_row in
    let at : (begun : List ℕ) → Tells M begun (moment_in false rows.moved.sizes.n (c.args.i - 1) c.args.i) → Tells M begun c.moment_in-moment.result =
    λ begun T. subst (Tells M begun) (sym c.moment_in-moment.ensures) T in
    let some = some-forth M rows.moved.accepted rows.set rows.set_in c.args.i c.requires.0 c.requires.1 in
    let G = c.source_slots.ensures some.0 (at some.0 some.1) in
    let not : is_top M rows.set c.args.i ≡ false = fails (λ q. c.if-top_of-i.false (tip ∙ is_top-true M rows.set c.args.i q)) in
    record { result_bound = (G.few, G.room); by_index = λ begun T. (c.source_slots.ensures begun (at begun T)).slots-are ∙ sym (rw not) }
