-- The table that a pass needs is there already, or is filled for it.
use Rattle.flash.proofs.Kit.{Bool·beq, ◌≡◌, refl, sym, subst, Bool, true, false, ◌*◌, ◌≤◌, arith}
use Rattle.flash.proofs.Bools.{never_both}
use Rattle.flash.proofs.Bounds.{product_le}
use Rattle.split.proofs.RowsLaws.{by-destination}
use Rattle.method.specs.Move.{Move, AcceptedMove}
use Rattle.method.specs.inner.MoveIn.{move_in}
use Rattle.walk.proofs.TableLaws.{sources-tell}
use Rattle.mover.specs.inner.Steps.{OtherTable}
use Rattle.mover.proofs.run.fill_other.Goals as goal

pub returns-then-held-backward : goal.returns-then-held-backward
returns-then-held-backward c =
    let a = c.args in
    let held = same a.held a.backward c.if-held-backward.true in
    subst (λ (t : Bool). OtherTable (move_in a.moved) t a.other.now) held c.requires
  where
    same : (a b : Bool) → Bool·beq a b ≡ true → a ≡ b
    same true true e = refl
    same true false e = sym e
    same false true e = e
    same false false e = refl

-- the originals fit the table
few : (M : Move) → AcceptedMove M → M.sizes.n * M.sizes.m ≤ 4096
few M A = product_le M.sizes.n M.sizes.m {c = 64} {d = 64} A.ranges.n-high A.ranges.m-high

pub sets_by_destination-requires : goal.sets_by_destination-requires
sets_by_destination-requires c =
    let A = c.args.moved.accepted in
    (A.ranges.m-high, few _ A, A.list_length, A.sets-length, omega arith)

pub returns-then-backward : goal.returns-then-backward
returns-then-backward c =
    let A = c.args.moved.accepted in
    record {
      sources-tell = λ e. absurd (never_both c.if-backward.true e);
      sets-tell = λ e. by-destination _ _ _ _ A.list_length (few _ A) c.sets_by_destination.ensures.0 A.one-to-one;
    }

pub returns : goal.returns
returns c =
    let a = c.args in
    let A = a.moved.accepted in
    let S = sources-tell (move_in a.moved) A a.other.now (omega arith) in
    record {
      sources-tell = λ e. rw (← A.sets-length, ← c.sources_table.ensures) at S;
      sets-tell = λ e. absurd (never_both e c.if-backward.false);
    }
