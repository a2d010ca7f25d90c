-- `flip_all` changes each bit.
use Rattle.flash.proofs.Kit.{◌/◌, arith}
use Rattle.split.proofs.MarkLaws.{flipped-mark}
use Rattle.split.proofs.drops.flip_all.Goals as goal

pub returns : goal.returns
returns c =
    let l = c.loop-mask in
    let m = c.args.masks.now in
    λ x h. (let r = l.invariant.0 (x / 64) (omega arith) in flipped-mark m l.masks x r.0 r.1)
