-- A run that passed its tests takes its steps with tables, or without them where they are few.
use Rattle.std.specs.Prelude.{is_none}
use Rattle.flash.proofs.Kit.{◌≡◌, refl, ap, subst, true≢false}
use Rattle.method.specs.inner.MoveIn.{move_in}
use Rattle.walk.specs.inner.Rows.{PagesTable}
use Rattle.walk.proofs.TableLaws.{pages-tell}
use Rattle.mover.proofs.run.carry_out.Goals as goal

pub new-divisor-requires : goal.new-divisor-requires
new-divisor-requires c = (c.args.moved.accepted.ranges.m-low, c.args.moved.accepted.ranges.m-high)

pub invariant_of-prepared : goal.invariant_of-prepared
invariant_of-prepared c =
    record { by_pages = c.new-divisor.ensures; pages_tell = λ table e. absurd (true≢false (ap is_none e)); drops_in = c.requires.3 }

pub invariant_of-prepared-2 : goal.invariant_of-prepared-2
invariant_of-prepared-2 c =
    let M = move_in c.args.moved in
    let A = c.args.moved.accepted in
    let tell : PagesTable M c.pages_table.new.pages = rw (c.pages_table.ensures, A.sets-length) (pages-tell M A _ refl) in
    record {
      by_pages = c.new-divisor.ensures;
      pages_tell = λ table e. (let same : c.pages_table.new.pages ≡ table.now = cc in subst (PagesTable M) same tell);
      drops_in = c.requires.3;
    }
