-- `put_bytes` leaves the bytes that digits spell in a part.
use Rattle.flash.proofs.Kit.{◌≡◌, sym, ◌∙◌, append-nil, arith, drop-length, length, take_all}
use Rattle.flash.proofs.Loops.{front-more}
use Rattle.intel_hex.specs.inner.Lines.{bytes_from}
use Rattle.intel_hex.proofs.WeightLaws.{digit-pair}
use Rattle.intel_hex.proofs.PutLaws.{length-bytes, bytes-at}
use Rattle.intel_hex.proofs.put.put_bytes.Goals as goal

pub byte_of-requires : goal.byte_of-requires
byte_of-requires c =
    digit-pair c.args.text.now c.args.from (length c.args.part.now) c.loop-i.i c.requires.1 (omega arith)

pub loop-i-preserved : goal.loop-i-preserved
loop-i-preserved c =
    let a = c.args in
    let l = c.loop-i in
    let n = length a.part.now in
    let v = c.byte_of.ensures ∙ sym (bytes-at a.text.now a.from n l.i c.requires.0 (omega arith)) in
    rw (v, l.invariant)
    (front-more (bytes_from a.text.now a.from n) a.part.now l.i (length-bytes a.text.now a.from n c.requires.0) (omega arith))

pub returns : goal.returns
returns c =
    let a = c.args in
    let l = c.loop-i in
    let n = length a.part.now in
    let e : l.i ≡ n = omega arith in
    let short = length-bytes a.text.now a.from n c.requires.0 in
    l.invariant ∙ rw (e, drop-length, append-nil, take_all n (bytes_from a.text.now a.from n) (omega arith))
