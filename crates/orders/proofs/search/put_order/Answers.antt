-- `put_order` writes the blocks from the last place on.
use Rattle.flash.proofs.Kit.{◌≡◌, refl, sym, ap, ◌∙◌, ℕ, ◌+◌, ◌-◌, arith, length, drop}
use Rattle.orders.specs.inner.Search.{order_by}
use Rattle.orders.proofs.DictionaryLaws.{by_digits}
use Rattle.orders.proofs.PutLaws.{none-put, tail-small, rest_more, put-more}
use Rattle.orders.proofs.search.put_order.Goals as goal

pub loop-i-init : goal.loop-i-init
loop-i-init c = none-put c.args.order.now c.args.k

pub raise-requires : goal.raise-requires
raise-requires c j h =
    let l = c.loop-i in
    let n = length c.args.order.now in
    let up : l.i - 1 + 1 ≡ l.i = omega arith in
    let small = tail-small l.order c.args.k l.i n (omega arith) (omega arith) l.invariant.0 (length l.order - l.i) j (omega arith) (rw up at h) in
    rw up (omega (arith, small, c.requires.0))

pub loop-i-preserved : goal.loop-i-preserved
loop-i-preserved c =
    let l = c.loop-i in
    let n = length c.args.order.now in
    let up : l.i - 1 + 1 ≡ l.i = omega arith in
    let places : length l.order - (l.i - 1) ≡ n - l.i + 1 = omega arith in (
      rw up (put-more l.order c.args.k l.i n (omega arith) (omega arith) l.invariant.0 (omega arith) (length l.order - l.i) _ l.rest
          (length l.order - (l.i - 1)) c.raise.new.part (omega arith) places l.invariant.1 refl (rw up at c.raise.ensures)),
      rest_more l.order c.args.k l.i n (omega arith) (omega arith) l.invariant.0 (omega arith) l.rest
          (length l.order - (l.i - 1)) l.invariant.1 places,
    )

pub returns : goal.returns
returns c =
    let l = c.loop-i in
    let z : l.i ≡ 0 = omega (arith, c.loop-i-test.false) in
    let n = length c.args.order.now in
    let all : n - l.i ≡ n = omega arith in
    ap (λ (x : ℕ). drop x l.order) (sym z) ∙ l.invariant.0 ∙ ap (λ (x : ℕ). order_by x c.args.k) all ∙ by_digits n c.args.k c.requires.1
