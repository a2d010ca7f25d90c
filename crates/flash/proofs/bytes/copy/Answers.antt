-- `copy` leaves in one part the bytes of another.
use Rattle.flash.proofs.Kit.{◌≡◌, ◌∙◌, append-nil, ◌≤◌, arith, length, drop-length, take_all}
use Rattle.flash.proofs.Loops.{front-more}
use Rattle.flash.proofs.bytes.copy.Goals as goal

pub loop-i-preserved : goal.loop-i-preserved
loop-i-preserved c =
    let l = c.loop-i in
    let a = c.args in
    rw l.invariant (front-more a.source.now a.target.now l.i c.requires (omega arith))

pub returns : goal.returns
returns c =
    let l = c.loop-i in
    let a = c.args in
    let short : length a.source.now ≤ length a.target.now = omega arith in
    let end : l.i ≡ length a.target.now = omega arith in
    l.invariant ∙ rw (end, drop-length, append-nil, take_all)
