-- `put` puts all bytes of a record, 16 at a time.
use Rattle.flash.proofs.Kit.{◌≡◌, ◌∙◌, ◌/◌, ◌+◌, ◌-◌, ◌*◌, arith}
use Rattle.intel_hex.proofs.WeightLaws.{digits-part}
use Rattle.intel_hex.proofs.PutLaws.{put_on, put_last}
use Rattle.intel_hex.proofs.put.put.Goals as goal

pub put_chunk-requires : goal.put_chunk-requires
put_chunk-requires c =
    let a = c.args in
    let i = c.loop-chunk.chunk * 16 in (
      omega arith,
      digits-part a.text.now a.from (2 * a.count) c.requires.1 (a.from + 2 * i) 32 (omega arith) (omega arith),
      omega arith,
    )

pub loop-chunk-preserved : goal.loop-chunk-preserved
loop-chunk-preserved c =
    let a = c.args in
    let l = c.loop-chunk in
    let e : (l.chunk + 1) * 16 ≡ l.chunk * 16 + 16 = omega arith in
    c.put_chunk.ensures ∙ rw (l.invariant, e) (put_on a.text.now a.from a.count a.image.now a.offset (l.chunk * 16) 16 c.requires.0 c.requires.2 (omega arith))

pub put_rest-requires : goal.put_rest-requires
put_rest-requires c =
    let a = c.args in
    let i = a.count / 16 * 16 in (
      omega arith,
      digits-part a.text.now a.from (2 * a.count) c.requires.1 (a.from + 2 * i) (2 * (a.count - i)) (omega arith) (omega arith),
      omega arith,
    )

pub returns : goal.returns
returns c =
    let a = c.args in
    let l = c.loop-chunk in
    let e : l.chunk ≡ a.count / 16 = omega arith in
    c.put_rest.ensures ∙ rw (l.invariant, e) (put_last a.text.now a.from a.count a.image.now a.offset (a.count / 16 * 16) c.requires.0 c.requires.2 (omega arith))
