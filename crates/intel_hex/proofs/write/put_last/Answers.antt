-- `put_last` prints the last data record, if it is shorter than 16 bytes.
use Rattle.flash.proofs.Kit.{ap, ◌∙◌, ◌/◌, arith, length}
use Rattle.listing.proofs.PrintLaws.{printed-then, nothing-printed}
use Rattle.intel_hex.specs.Writing.{data_record}
use Rattle.intel_hex.proofs.Lengths.{length_part, text_at, length_at, data-length}
use Rattle.intel_hex.proofs.Writes.{part_cut, none_last, one_last}
use Rattle.intel_hex.proofs.write.put_last.Goals as goal

pub returns-then-image-eq0 : goal.returns-then-image-eq0
returns-then-image-eq0 c =
    let a = c.args in
    rw (none_last a.image.now c.if-image-eq0.true) (nothing-printed a.text.now a.at (omega arith))

pub put_upper-next-requires : goal.put_upper-next-requires
put_upper-next-requires c =
    let image = c.args.image.now in
    (omega arith, omega (arith, ap length (one_last image c.if-image-eq0.false), length_at image (length image / 16)))

pub put_record-requires : goal.put_record-requires
put_record-requires c =
    let image = c.args.image.now in
    let i = length image / 16 in
    let more = c.if-image-eq0.false in
    let cut =
    ap length (part_cut image i (length image) (omega arith) (omega arith) (omega arith) (λ h. absurd (omega arith))) ∙ length_part i image in
    let upper = c.put_upper-next.ensures.next-is in
    (omega arith, omega (arith, cut), omega (arith, cut, ap length (one_last image more), length_at image i, data-length image i, upper))

pub returns : goal.returns
unfolding data_record
returns c =
    let image = c.args.image.now in
    let i = length image / 16 in
    let more = c.if-image-eq0.false in
    let cut = part_cut image i (length image) (omega arith) (omega arith) (omega arith) (λ h. absurd (omega arith)) in
    rw (one_last image more, text_at image i)
    (printed-then c.put_upper-next.ensures (rw cut at c.put_record.ensures))
