-- The claims on tops and walks.
use Rattle.flash.proofs.Kit.{◌≡◌, refl, sym, ap, ◌∙◌, subst, ℕ, zero, suc, arith}
use Rattle.flash.specs.Geometry.{block_of, letter}
use Rattle.flash.proofs.Blocks.{full-finished}
use Rattle.split.specs.Split.{set_of}
use Rattle.method.specs.Move.{Move}
use Rattle.method.specs.Cycle.{dest}
use Rattle.method.specs.Claims.{InCycle, start, next, TopIsHighest, WalksEnd}
use Rattle.method.proofs.cycles.Orbits.{iterate, iterate-last}
use Rattle.method.proofs.cycles.SetCycles.{set-in, block_in}
use Rattle.method.proofs.cycles.Tops.{top-is, top-ge}
use Rattle.method.proofs.walks.WalkBounds.{back-bound}
use Rattle.method.proofs.walks.ReadsOriginals.{reads, reads-on-bound}
use Rattle.method.proofs.places.PlaceShape.{letter_above, which-pass}
use Rattle.method.proofs.recovery.FittingMarks.{shaped}

-- the blocks of a cycle are the iterates of dest
iterate-cycle : (M : Move) (set i steps : ℕ) → InCycle M set i (iterate (dest M set) steps i)
unfolding iterate
iterate-cycle M set i zero = start
iterate-cycle M set i (suc steps) = subst (InCycle M set i) (sym (iterate-last (dest M set) steps i)) (next (iterate-cycle M set i steps))

cycle-iterate : (M : Move) (set i j : ℕ) → InCycle M set i j → (steps : ℕ) × (j ≡ iterate (dest M set) steps i)
unfolding iterate
cycle-iterate M set i _ start = (0, refl)
cycle-iterate M set i _ (next {j} c) =
    let r = cycle-iterate M set i j c in
    (suc r.0, ap (dest M set) r.1 ∙ sym (iterate-last (dest M set) r.0 i))

pub top-is-highest : TopIsHighest
top-is-highest = record {
  in-cycle = λ M A set i h l u.
      let r = top-is M A set h i (record { low = l; high = u }) in
      subst (InCycle M set i) (sym r.2) (iterate-cycle M set i r.0);
  highest = λ M A set i j h l u c.
      let r = cycle-iterate M set i j c in
      rw r.1 (top-ge M A set h r.0 i (record { low = l; high = u }));
}

pub walks-end : WalksEnd
unfolding WalksEnd letter
walks-end M A marks found e k h =
    let Z = M.sizes in
    let shape = shaped Z A.ranges.m-low marks found e in
    let r = reads M A marks shape.low shape.high k h (letter_above shape.pass) (which-pass shape.pass) shape.shape in
    record {
      slots = record {
        some = r.some;
        few = r.few;
        once = r.distinct;
        inside = λ i l. (r.sited i l).inside;
        whole = λ i l. (r.sited i l).whole;
        finished = λ i l.
            let t = r.sited i l in
            full-finished Z.m marks _ (letter Z t.index) (omega arith) t.full;
      };
      back = λ extra. back-bound M A marks (set_of M.sets k) (set-in M A k h) (block_of Z.m k) extra (block_in M A k h);
      on = reads-on-bound M A marks shape.low shape.high k h (letter_above shape.pass) (which-pass shape.pass) shape.shape;
    }
