-- `put_image` writes the whole text of an image.
use Rattle.flash.proofs.Kit.{arith}
use Rattle.listing.proofs.PrintLaws.{printed-then}
use Rattle.intel_hex.specs.Writing.{end_record}
use Rattle.intel_hex.proofs.Lengths.{text-is}
use Rattle.intel_hex.proofs.Writes.{end-room, all-printed}
use Rattle.intel_hex.proofs.write.put_image.Goals as goal

pub put_record-requires : goal.put_record-requires
put_record-requires c =
    (omega arith, omega arith, omega (arith, c.put_data-next.ensures.next-is, end-room c.args.image.now))

pub returns : goal.returns
unfolding end_record
returns c =
    let a = c.args in
    let image = a.image.now in
    let whole = printed-then c.put_data-next.ensures c.put_record.ensures in
    all-printed image a.text.now _ _ (rw (← text-is image) at whole) (omega arith)
