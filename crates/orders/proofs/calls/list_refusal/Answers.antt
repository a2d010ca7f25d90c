-- `list_refusal` looks for the numbers in their order.
use Rattle.flash.proofs.Kit.{◌≡◌, sym, ◌∙◌, true, ◌&&◌, ◌*◌, ◌≤◌, arith, eqb, length, not-true, not-false}
use Rattle.orders.specs.Answer.{are_sizes}
use Rattle.orders.proofs.RowLaws.{few, gives-1, gives-16, gives-2, gives-3, gives-0}
use Rattle.orders.proofs.CallLaws.{other-size, both-sizes}
use Rattle.orders.proofs.calls.list_refusal.Goals as goal
use Rattle.orders.proofs.calls.list_refusal.Lts as lts
use Rattle.orders.proofs.calls.list_refusal.Reads as reads
use Rattle.orders.proofs.calls.list_refusal.Tie as tie

pub returns-then-not-in_range : goal.returns-then-not-in_range
returns-then-not-in_range c = sym (gives-1 _ _ _ _ _ (sym c.in_range.ensures ∙ c.if-not-in_range.true))

sized : (c : lts.Else1 tie.the-claims reads.Pre reads.Post) → (let a = c.args in are_sizes a.n a.m ≡ true)
sized c = sym c.in_range.ensures ∙ c.if-not-in_range.false

pub returns-then-n-most : goal.returns-then-n-most
returns-then-n-most c = sym (gives-16 _ _ _ _ _ (sized c.before.before) c.if-n-most.true)

product : (c : lts.Else2 tie.the-claims reads.Pre reads.Post) → (let a = c.args in a.n * a.m ≤ 4096)
product c = let a = c.args in few a.n a.m a.most a.list.now a.order.now (sized c.before)

pub returns-then-list-n : goal.returns-then-list-n
returns-then-list-n c =
    let a = c.args in
    sym (gives-2 _ _ _ _ _ (sized c.before.before.before) c.if-n-most.false
    (other-size (eqb (length a.list.now) (a.n * a.m)) (eqb (length a.order.now) a.n) c.if-list-n.true))

lengths : (c : lts.Else3 tie.the-claims reads.Pre reads.Post) → (let a = c.args in
    (eqb (length a.list.now) (a.n * a.m) && eqb (length a.order.now) a.n) ≡ true)
lengths c =
    let a = c.args in
    both-sizes (eqb (length a.list.now) (a.n * a.m)) (eqb (length a.order.now) a.n) c.if-list-n.false

pub is_good-requires : goal.is_good-requires
is_good-requires c = product c.before.before

pub returns-then-not-is_good : goal.returns-then-not-is_good
returns-then-not-is_good c =
    sym (gives-3 _ _ _ _ _ (sized c.before.before.before.before.before) c.if-n-most.false (lengths c.before.before.before)
    (not-false _ (sym c.is_good.ensures ∙ c.if-not-is_good.true)))

pub returns : goal.returns
returns c =
    sym (gives-0 _ _ _ _ _ (sized c.before.before.before.before.before) c.if-n-most.false (lengths c.before.before.before)
    (not-true _ (sym c.is_good.ensures ∙ c.if-not-is_good.false)))

pub overflow_mul-n : goal.overflow_mul-n
overflow_mul-n c = omega (arith, product c.before)
