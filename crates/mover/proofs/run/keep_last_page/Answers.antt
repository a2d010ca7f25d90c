-- The slot of the last write is told by the place of the last step, and lies in the store.
use Rattle.flash.proofs.Kit.{◌≡◌, ◌+◌, ◌-◌, ◌*◌, arith}
use Rattle.flash.specs.Lists.{part}
use Rattle.mover.specs.inner.Steps.{last_slot}
use Rattle.mover.proofs.RunLaws.{last-told, last-inside}
use Rattle.mover.proofs.run.keep_last_page.Goals as goal

pub new-last-requires : goal.new-last-requires
new-last-requires c = (c.requires.0, c.requires.1)

pub overflow_mul-slot : goal.overflow_mul-slot
overflow_mul-slot c = omega (arith, last-told _ c.requires.0 _ c.requires.1 _ c.new-last.ensures)

pub overflow_sub-sizes : goal.overflow_sub-sizes
overflow_sub-sizes c = c.requires.0.m-low

pub overflow_add-slot : goal.overflow_add-slot
overflow_add-slot c =
    let T = last-told _ c.requires.0 _ c.requires.1 _ c.new-last.ensures in
    let is : c.new-last.result.block * c.args.sizes.m + c.min.result ≡ last_slot c.args.sizes c.args.at = rw (c.min.ensures, T.0, T.1) in
    omega (arith, is, last-inside _ c.requires.0 _ c.requires.1)

pub overflow_mul-start : goal.overflow_mul-start
overflow_mul-start c =
    let T = last-told _ c.requires.0 _ c.requires.1 _ c.new-last.ensures in
    let is : c.new-last.result.block * c.args.sizes.m + c.min.result ≡ last_slot c.args.sizes c.args.at = rw (c.min.ensures, T.0, T.1) in
    rw is (omega (arith, last-inside _ c.requires.0 _ c.requires.1))

pub overflow_add-start : goal.overflow_add-start
overflow_add-start c =
    let T = last-told _ c.requires.0 _ c.requires.1 _ c.new-last.ensures in
    let is : c.new-last.result.block * c.args.sizes.m + c.min.result ≡ last_slot c.args.sizes c.args.at = rw (c.min.ensures, T.0, T.1) in
    rw is (omega (arith, last-inside _ c.requires.0 _ c.requires.1))

pub slice_bounds-copy-end : goal.slice_bounds-copy-end
slice_bounds-copy-end c =
    let T = last-told _ c.requires.0 _ c.requires.1 _ c.new-last.ensures in
    let is : c.new-last.result.block * c.args.sizes.m + c.min.result ≡ last_slot c.args.sizes c.args.at = rw (c.min.ensures, T.0, T.1) in
    rw is (omega (arith, last-inside _ c.requires.0 _ c.requires.1, c.requires.2))

pub returns : goal.returns
unfolding part
returns c =
    let P = c.args.sizes.p in
    let T = last-told _ c.requires.0 _ c.requires.1 _ c.new-last.ensures in
    let is : c.new-last.result.block * c.args.sizes.m + c.min.result ≡ last_slot c.args.sizes c.args.at = rw (c.min.ensures, T.0, T.1) in
    let e : last_slot c.args.sizes c.args.at * P + P - last_slot c.args.sizes c.args.at * P ≡ P = omega arith in
    rw (c.copy.ensures, is, e)
