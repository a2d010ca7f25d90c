-- `check` looks for the numbers in their order, then at the lines.
use Rattle.flash.proofs.Kit.{◌≡◌, sym, ◌∙◌, ℕ, List, true, ◌+◌, ◌*◌, ◌≤◌, add-mul, arith, length, take, replicate, length-replicate, length-take-le}
use Rattle.checker.specs.Answer.{are_sizes}
use Rattle.checker.proofs.RowsLaws.{sizes-few, refuse-1, refuse-2, refuse-drop, refuse-list, checkable, accepted-rows}
use Rattle.checker.proofs.check.check.Goals as goal

pub returns-then-not-are_sizes : goal.returns-then-not-are_sizes
returns-then-not-are_sizes c =
    let a = c.args in
    (refuse-1 a.n a.m a.list.now a.text.now (sym c.are_sizes.ensures ∙ c.if-not-are_sizes.true))

pub overflow_mul-n : goal.overflow_mul-n
overflow_mul-n c =
    let a = c.args in
    omega (arith, sizes-few a.n a.m a.list.now a.text.now (sym c.are_sizes.ensures ∙ c.if-not-are_sizes.false))

pub returns-then-list-n : goal.returns-then-list-n
returns-then-list-n c =
    let a = c.args in
    (refuse-2 a.n a.m a.list.now a.text.now (sym c.are_sizes.ensures ∙ c.if-not-are_sizes.false) c.if-list-n.true)

pub returns-then-has_drop : goal.returns-then-has_drop
returns-then-has_drop c =
    let a = c.args in
    (refuse-drop a.n a.m a.list.now a.text.now (sym c.are_sizes.ensures ∙ c.if-not-are_sizes.false) c.if-list-n.false
    (sym c.has_drop.ensures ∙ c.if-has_drop.true))

pub is_good-requires : goal.is_good-requires
is_good-requires c =
    let a = c.args in
    omega (arith, sizes-few a.n a.m a.list.now a.text.now (sym c.are_sizes.ensures ∙ c.if-not-are_sizes.false))

pub returns-then-not-is_good : goal.returns-then-not-is_good
returns-then-not-is_good c =
    let a = c.args in
    (refuse-list a.n a.m a.list.now a.text.now (sym c.are_sizes.ensures ∙ c.if-not-are_sizes.false)
    c.if-list-n.false (sym c.has_drop.ensures ∙ c.if-has_drop.false)
    (sym c.is_good.ensures ∙ c.if-not-is_good.true))

-- as many slots as fit
slots : (n m : ℕ) (list text : List ℕ) → are_sizes n m ≡ true → (n ≤ 64) × ((n + 1) * m ≤ 128)
slots n m list text sizes =
    let s = sizes-few n m list text sizes in
    (s.1, omega (arith, s.3, s.4, add-mul n 1 m))

-- the part that is lent has as many
front : (n m : ℕ) (list text : List ℕ) → are_sizes n m ≡ true → length (take ((n + 1) * m) (replicate {A = ℕ} 128 0)) ≡ (n + 1) * m
front n m list text sizes =
    length-take-le ((n + 1) * m) (replicate 128 0) (omega (arith, slots n m list text sizes, length-replicate {A = ℕ} 128 0))

pub slice_bounds-check_from_rest-end : goal.slice_bounds-check_from_rest-end
slice_bounds-check_from_rest-end c = sym (front c.args.n c.args.m c.args.list.now c.args.text.now (sym c.are_sizes.ensures ∙ c.if-not-are_sizes.false))

pub check_from_rest-requires : goal.check_from_rest-requires
check_from_rest-requires c =
    let a = c.args in (
      checkable a.n a.m a.list.now a.text.now (sym c.are_sizes.ensures ∙ c.if-not-are_sizes.false) c.if-list-n.false
          (sym c.has_drop.ensures ∙ c.if-has_drop.false) (sym c.is_good.ensures ∙ c.if-not-is_good.false),
      front c.args.n c.args.m c.args.list.now c.args.text.now (sym c.are_sizes.ensures ∙ c.if-not-are_sizes.false),
    )

pub returns : goal.returns
returns c =
    let a = c.args in
    c.check_from_rest.ensures
    ∙ accepted-rows a.n a.m a.list.now a.text.now (sym c.are_sizes.ensures ∙ c.if-not-are_sizes.false) c.if-list-n.false
    (sym c.has_drop.ensures ∙ c.if-has_drop.false) (sym c.is_good.ensures ∙ c.if-not-is_good.false)

pub overflow_add-slots : goal.overflow_add-slots
overflow_add-slots c = omega (arith, slots c.args.n c.args.m c.args.list.now c.args.text.now (sym c.are_sizes.ensures ∙ c.if-not-are_sizes.false))

pub slice_bounds-pages-end : goal.slice_bounds-pages-end
slice_bounds-pages-end c = omega (arith, slots c.args.n c.args.m c.args.list.now c.args.text.now (sym c.are_sizes.ensures ∙ c.if-not-are_sizes.false))
