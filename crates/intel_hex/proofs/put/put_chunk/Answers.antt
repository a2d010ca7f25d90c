-- `put_chunk` puts a chunk at an offset of the image.
use Rattle.flash.proofs.Kit.{refl, ◌∙◌}
use Rattle.intel_hex.proofs.PutLaws.{put_back}
use Rattle.intel_hex.proofs.put.put_chunk.Goals as goal

pub returns : goal.returns
returns c =
    let a = c.args in
    put_back a.text.now a.from 16 a.image.now _ a.offset _ refl (c.copy_from_slice.ensures.after ∙ c.put_bytes.ensures)
