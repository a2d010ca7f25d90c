-- `record_weight` weighs a record, with its bytes apart if they are a chunk.
use Rattle.flash.proofs.Kit.{◌+◌, arith}
use Rattle.intel_hex.proofs.WeightLaws.{weight-small}
use Rattle.intel_hex.proofs.ChunkLaws.{weighs-all, weighs-parts}
use Rattle.intel_hex.proofs.text.Text.record_weight.Goals as goal

pub returns-then-size-ne-CHUNK : goal.returns-then-size-ne-CHUNK
returns-then-size-ne-CHUNK c =
    let a = c.args in
    weighs-all a.self.now.codes.now a.from (5 + a.size) _ c.weight_from.ensures

pub overflow_add-result : goal.overflow_add-result
overflow_add-result c =
    let a = c.args in
    omega (arith, c.weight_from-head.ensures, weight-small a.self.now.codes.now a.from 4, c.chunk_weight-bytes.ensures.1)

pub overflow_add-result-2 : goal.overflow_add-result-2
overflow_add-result-2 c =
    let a = c.args in
    omega (
      arith,
      c.weight_from-head.ensures,
      weight-small a.self.now.codes.now a.from 4,
      c.chunk_weight-bytes.ensures.1,
      c.weight_from-2.ensures,
      weight-small a.self.now.codes.now (a.from + 40) 1,
    )

pub returns : goal.returns
returns c =
    let a = c.args in
    let W = weighs-parts a.self.now.codes.now a.from _ _ _ c.weight_from-head.ensures c.chunk_weight-bytes.ensures.0 c.weight_from-2.ensures in
    rw c.if-size-ne-CHUNK.false W
