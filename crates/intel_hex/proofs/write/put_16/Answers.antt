-- `put_16` prints a data record of 16 bytes, behind its record of type 04.
use Rattle.flash.proofs.Kit.{refl, ap, ◌∙◌, ◌*◌, ◌+◌, arith, length}
use Rattle.listing.proofs.PrintLaws.{printed-then}
use Rattle.intel_hex.specs.Writing.{data_record}
use Rattle.intel_hex.proofs.Lengths.{length_part, text_at, length_at, data-length}
use Rattle.intel_hex.proofs.Writes.{part_cut}
use Rattle.intel_hex.proofs.write.put_16.Goals as goal

pub put_upper-next-requires : goal.put_upper-next-requires
put_upper-next-requires c = let a = c.args in (omega arith, omega (arith, length_at a.image.now a.i))

pub put_record-requires : goal.put_record-requires
put_record-requires c =
    let a = c.args in
    let image = a.image.now in
    let cut = ap length (part_cut image a.i (a.i * 16 + 16) (omega arith) (omega arith) (omega arith) (λ h. refl)) ∙ length_part a.i image in
    let upper = c.put_upper-next.ensures.next-is in
    (omega arith, omega (arith, cut), omega (arith, cut, length_at image a.i, data-length image a.i, upper))

pub returns : goal.returns
unfolding data_record
returns c =
    let a = c.args in
    let image = a.image.now in
    let cut = part_cut image a.i (a.i * 16 + 16) (omega arith) (omega arith) (omega arith) (λ h. refl) in
    rw (text_at image a.i)
    (printed-then c.put_upper-next.ensures (rw cut at c.put_record.ensures))
