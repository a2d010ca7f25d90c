-- `gather` reads originals up to the first byte that is none of a field.
use Rattle.flash.proofs.Kit.{◌≡◌, sym, ap, ◌∙◌, [], ℕ, suc, ◌+◌, ◌-◌, ◌≤◌, ◌<◌, arith, one-mul, ltb, leb, drop, shl_exact, ltb-false, leb-false, lt-ltb, le-ltb}
use Rattle.flash.proofs.Bools.{or-false-left, or-false-right}
use Rattle.checker.specs.Lines.{fields, behind_fields}
use Rattle.checker.specs.inner.Told.{Gathering, gathering}
use Rattle.checker.proofs.LineLaws.{taken, missed, gather-bad, gather-more, gather-end}
use Rattle.checker.proofs.line.gather.Goals as goal
use Rattle.checker.proofs.line.gather.Goals.{else-loop-test, then-loop-test+in_default}
use Rattle.checker.proofs.line.gather.Lts as lts
use Rattle.checker.proofs.line.gather.Reads as reads
use Rattle.checker.proofs.line.gather.Tie as tie

pub loop-init : goal.loop-init
loop-init c =
    let all : c.args.count - 0 ≡ c.args.count = omega arith in
    (omega arith, omega arith, omega arith, rw all)

-- one turn fewer is left
one_left : (count counter : ℕ) → counter < count → suc (count - (counter + 1)) ≡ count - counter
one_left count counter h = omega arith

pub returns-then-k-least : goal.returns-then-k-least
returns-then-k-least c =
    let l = c.loop in
    let a = c.args in
    let bad = gather-bad a.text.now a.count (omega arith) (a.count - (l.counter + 1)) l.least l.mask l.next l.invariant.2 _
    (taken a.text.now l.next _ c.in-Some.ensures) c.if-k-least.true in
    ap (λ (g : Gathering). g.good) l.invariant.3 ∙ rw (one_left a.count l.counter c.loop-test.true) at bad

-- an original that is not refused lies in its bounds
bounds : (c : lts.Else1 tie.the-claims reads.Pre reads.Post goal.the-invariant-loop goal.the-decreases-loop)
    → (c.loop.least ≤ c.in-Some.one.value) × (c.in-Some.one.value < c.args.count)
bounds c =
    let k = c.in-Some.one.value in
    let least = c.loop.least in
    let count = c.args.count in (
      ltb-false k least (or-false-left (ltb k least) (leb count k) c.if-k-least.false),
      leb-false count k (or-false-right (ltb k least) (leb count k) c.if-k-least.false),
    )

pub overflow_shl-mask : goal.overflow_shl-mask
overflow_shl-mask c = omega (arith, bounds c.before)

pub overflow_add-least : goal.overflow_add-least
overflow_add-least c = omega (arith, bounds c.before)

pub loop-preserved : goal.loop-preserved
loop-preserved c =
    let l = c.loop in
    let a = c.args in
    let b = bounds c.before in
    let k = c.in-Some.one.value in
    let one = taken a.text.now l.next _ c.in-Some.ensures in
    let more = gather-more a.text.now a.count (omega arith) (a.count - (l.counter + 1)) l.least l.mask l.next l.invariant.2 _ one b.0 b.1 in (
      omega (arith, l.invariant.0, one.ahead),
      one.within,
      omega (arith, b.1),
      l.invariant.3 ∙ rw (shl_exact {a = 1} 1 k 64 (omega arith) (omega arith), one-mul) (rw (one_left a.count l.counter c.loop-test.true) at more),
    )

-- the loop was left where no field stands, or with as many as there can be
done : (c : lts.Left-loop tie.the-claims reads.Pre reads.Post goal.the-invariant-loop goal.the-decreases-loop)
    → (fields (c.args.count - c.loop.counter) (drop c.loop.next c.args.text.now) ≡ [])
    × (behind_fields (c.args.count - c.loop.counter) (drop c.loop.next c.args.text.now)
    ≡ drop c.loop.next c.args.text.now)
unfolding fields behind_fields
done c =
    let l = c.loop in
    let a = c.args in
    elim c.loop-test.branch [
      | else-loop-test w ↦ let none : (a.count - l.counter) ≡ 0 = omega (arith, w.loop-test.false) in (rw none, rw none)
      | then-loop-test+in_default w ↦
          let F = missed a.text.now l.next (sym w.in_default.is ∙ w.field.ensures) in
          (F.fields-are (a.count - l.counter), F.behind-is (a.count - l.counter))
    ]

-- what was gathered is all that there is
whole : (c : lts.Left-loop tie.the-claims reads.Pre reads.Post goal.the-invariant-loop goal.the-decreases-loop) → (let l = c.loop in
    let a = c.args in
    gathering a.count a.count 0 0 (drop a.at a.text.now) ≡ record { good = ltb 0 l.least; mask = l.mask; rest = drop l.next a.text.now })
whole c =
    let l = c.loop in
    let a = c.args in
    let d = done c in
    l.invariant.3 ∙ gather-end a.text.now a.count (omega arith) (a.count - l.counter) l.least l.mask l.next l.invariant.2 d.0 d.1

pub returns-then-least-gt0 : goal.returns-then-least-gt0
returns-then-least-gt0 c =
    let l = c.loop in
    let all = whole c.before.before in
    record {
      good-is = ap (λ (g : Gathering). g.good) all ∙ lt-ltb 0 l.least c.if-least-gt0.true;
      mask_is = sym (ap (λ (g : Gathering). g.mask) all);
      rest-is = sym (ap (λ (g : Gathering). g.rest) all);
      low = l.invariant.0;
      high = l.invariant.1;
    }

pub returns-else-least-gt0 : goal.returns-else-least-gt0
returns-else-least-gt0 c = ap (λ (g : Gathering). g.good) (whole c.before.before) ∙ le-ltb 0 c.loop.least c.if-least-gt0.false
