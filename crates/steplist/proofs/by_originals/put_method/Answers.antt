-- The loop over the places prints every step once; with the end line that is the method's listing.
use Rattle.flash.proofs.Kit.{◌≡◌, ℕ, ◌*◌, ◌≤◌, arith}
use Rattle.flash.proofs.Bounds.{product_le}
use Rattle.method.specs.Place.{last_place}
use Rattle.checker.specs.Method.{move_by}
use Rattle.steplist.proofs.LengthLaws.{few-steps, end_short}
use Rattle.steplist.proofs.MethodLines.{lists-none, lists-more, all_listed}
use Rattle.steplist.proofs.by_originals.put_method.Goals as goal

-- there are few steps
few : (n m : ℕ) → n ≤ 8 → m ≤ 8 → (last_place (record { n = n; m = m; p = 1; s = 0 }) ≤ 144) × (2 * n * m ≤ 128)
few n m h k = (few-steps (record { n = n; m = m; p = 1; s = 0 }) h k, product_le (2 * n) m {c = 16} {d = 8} (omega arith) k)

pub last_place-place-end-requires : goal.last_place-place-end-requires
last_place-place-end-requires c = (omega (arith, c.requires.1), omega (arith, c.requires.2))

pub invariant_of-moved : goal.invariant_of-moved
invariant_of-moved c = record { accepted = c.requires.0 }

pub loop-place-init : goal.loop-place-init
loop-place-init c =
    let a = c.args in
    lists-none (move_by a.n a.m a.list.now a.sets.now) a.out.now

pub put_step_line-at-requires : goal.put_step_line-at-requires
put_step_line-at-requires c =
    let l = c.loop-place in (
      c.requires.1,
      c.requires.2,
      omega (arith, c.last_place-place-end.ensures),
      omega (arith, l.invariant.at_high, few c.args.n c.args.m c.requires.1 c.requires.2, c.last_place-place-end.ensures, c.requires.3),
    )

pub loop-place-preserved : goal.loop-place-preserved
loop-place-preserved c =
    let a = c.args in
    let l = c.loop-place in
    let printed = c.put_step_line-at.ensures in
    lists-more (move_by a.n a.m a.list.now a.sets.now) l.place l.at _ _ _ _ l.invariant (omega (arith, c.last_place-place-end.ensures)) printed.0 printed.1

pub overflow_mul-n : goal.overflow_mul-n
overflow_mul-n c = omega (arith, c.requires.1)

pub overflow_mul-n-2 : goal.overflow_mul-n-2
overflow_mul-n-2 c = omega (arith, few c.args.n c.args.m c.requires.1 c.requires.2)

pub overflow_mul-n-3 : goal.overflow_mul-n-3
overflow_mul-n-3 c = omega (arith, c.requires.1)

pub put_end-requires : goal.put_end-requires
put_end-requires c =
    let l = c.loop-place in
    let small = few c.args.n c.args.m c.requires.1 c.requires.2 in
    let short = end_short (2 * c.args.n * c.args.m) (2 * c.args.n) (omega (arith, small)) (omega (arith, c.requires.1)) in
    omega (arith, short, l.invariant.at_high, small, c.last_place-place-end.ensures, c.requires.3)

pub returns : goal.returns
returns c =
    let a = c.args in
    let l = c.loop-place in
    let all : l.place ≡ last_place (record { n = a.n; m = a.m; p = 1; s = 0 }) = omega (arith, c.last_place-place-end.ensures) in
    all_listed a.n a.m a.list.now a.sets.now _ _ _ _ _ (rw all at l.invariant) c.put_end.ensures
