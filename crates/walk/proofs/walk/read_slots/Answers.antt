-- The rows of the set of original k are filled, and give its slots.
use Rattle.flash.proofs.Kit.{refl}
use Rattle.split.specs.Split.{set_of}
use Rattle.method.proofs.cycles.SetCycles.{set-in}
use Rattle.walk.proofs.walk.read_slots.Goals as goal

pub set_rows-requires : goal.set_rows-requires
unfolding set_of
set_rows-requires c =
    (rw c.from-set.ensures (set-in _ c.args.moved.accepted c.args.k c.requires.0), refl, refl)

pub invariant_of-rows : goal.invariant_of-rows
unfolding set_of
invariant_of-rows c =
    record { set_in = rw c.from-set.ensures (set-in _ c.args.moved.accepted c.args.k c.requires.0); pages_row = c.set_rows.ensures.0; sources_row = c.set_rows.ensures.1 }

pub row_slots-requires : goal.row_slots-requires
unfolding set_of
row_slots-requires c = (c.requires.0, c.requires.1, c.from-set.ensures)
