-- 255s for a dropped page, and else the slots of the walk.
use Rattle.flash.proofs.Kit.{sym, ◌∙◌, ◌≤◌, arith, length}
use Rattle.method.proofs.cycles.Orbits.{DataBlock}
use Rattle.walk.proofs.GatherLaws.{among}
use Rattle.walk.proofs.RowLaws.{Read, backward-read}
use Rattle.walk.proofs.WriteLaws.{backward-dropped, backward-kept}
use Rattle.walk.proofs.terms.backward_terms.Goals as goal

pub returns-then-is_marked : goal.returns-then-is_marked
returns-then-is_marked c =
    let a = c.args in
    rw c.only_filler.ensures record {
      count_le_slots_length = (omega arith, c.requires.n_bound.3, λ j h. absurd (omega arith));
      by_index = λ sets drops marks A e P S. backward-dropped a.sizes a.list.now sets drops A marks a.block S a.page a.set c.requires.pages_in.2 c.requires.pages_in.3 c.requires.pages_in.4
          a.slots.now (sym e.1 ∙ sym c.is_marked.ensures ∙ c.if-is_marked.true);
    }

pub returns : goal.returns
returns c =
    let a = c.args in
    let G = c.backward_slots-count.ensures in
    let block_in : DataBlock a.sizes.n a.block = record { low = c.requires.pages_in.2; high = c.requires.pages_in.3 } in
    let fits : c.backward_slots-count.result ≤ length c.backward_slots-count.new.slots = omega (arith, G.2, G.3) in
    let read = backward-read a.sizes a.set c.requires.n_bound.2 a.pages.now c.requires.pages_in.0 a.page c.requires.pages_in.4 a.list.now c.requires.pages_in.1 a.block block_in in record {
      count_le_slots_length = (G.2, G.3, among (Read a.sizes a.page a.block) _ _ c.backward_slots-count.result fits G.0 read);
      by_index = λ sets drops marks A e P S. backward-kept a.sizes a.list.now sets drops A marks a.block S a.page a.set c.requires.pages_in.2 c.requires.pages_in.3 c.requires.pages_in.4
          _ c.backward_slots-count.result fits (sym e.1 ∙ sym c.is_marked.ensures ∙ c.if-is_marked.false) e.0 a.pages.now P G.0;
    }
