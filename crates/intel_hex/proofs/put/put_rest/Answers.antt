-- `put_rest` puts bytes at an offset of the image.
use Rattle.flash.proofs.Kit.{refl, ◌∙◌, ap}
use Rattle.intel_hex.specs.inner.Lines.{bytes_from}
use Rattle.intel_hex.proofs.PutLaws.{put_back, lent_length}
use Rattle.intel_hex.proofs.put.put_rest.Goals as goal

pub returns : goal.returns
returns c =
    let a = c.args in
    let n = lent_length a.image.now a.offset a.count c.requires.2 in
    put_back a.text.now a.from a.count a.image.now _ a.offset _ refl (c.put_bytes.ensures ∙ ap (bytes_from a.text.now a.from) n)
