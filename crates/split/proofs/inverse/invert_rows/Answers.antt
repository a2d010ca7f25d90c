-- `invert_rows` leaves the inverse of each row.
use Rattle.flash.proofs.Kit.{◌≡◌, sym, ◌∙◌, subst, List, ℕ, ◌+◌, ◌*◌, ◌≤◌, arith, length}
use Rattle.flash.proofs.Parts.{part-fits, length_part, lent-part, lent_back}
use Rattle.split.proofs.InverseLaws.{Turned, one-turned}
use Rattle.split.proofs.inverse.invert_rows.Goals as goal
use Rattle.split.proofs.inverse.invert_rows.Lts as lts
use Rattle.split.proofs.inverse.invert_rows.Reads as reads
use Rattle.split.proofs.inverse.invert_rows.Tie as tie

-- the row lies within the bytes
fits : (c : lts.In-loop tie.the-claims reads.Pre reads.Post goal.the-invariant-loop-i goal.the-decreases-loop-i) → (let m = c.args.m in c.loop-i.i * m + m ≤ length c.loop-i.bytes)
fits c =
    omega (arith, part-fits c.loop-i.i c.args.n c.args.m c.loop-i-test.true, c.requires.1, c.loop-i.auto.bytes)

pub invert-requires : goal.invert-requires
invert-requires c =
    let l = c.loop-i in
    let m = c.args.m in (
      rw (lent-part m l.i l.bytes, length_part m l.i l.bytes (fits c.before)) c.requires.0,
      rw (lent-part m l.i l.bytes, l.invariant.rest l.i (omega arith)) (c.requires.2 l.i (omega arith)),
    )

pub loop-i-preserved : goal.loop-i-preserved
loop-i-preserved c =
    let l = c.loop-i in
    let m = c.args.m in
    let new = c.invert.new.row in
    let room = fits c.before.before.before.before.before in
    let whole : length new ≡ m = c.invert.auto.row ∙ rw (lent-part m l.i l.bytes) (length_part m l.i l.bytes room) in
    subst (λ (bytes : List ℕ). Turned m c.args.bytes.now bytes (l.i + 1)) (sym (lent_back m l.i l.bytes new))
    (one-turned m c.args.bytes.now l.bytes new l.i l.invariant room whole (rw (lent-part m l.i l.bytes) at c.invert.ensures))
