-- `put_upper` prints a record of type 04 where the upper half changes.
use Rattle.flash.proofs.Kit.{◌≡◌, ◌/◌, ◌*◌, arith}
use Rattle.listing.proofs.PrintLaws.{nothing-printed}
use Rattle.intel_hex.specs.Writing.{upper_record}
use Rattle.intel_hex.proofs.Lengths.{upper-length}
use Rattle.intel_hex.proofs.Writes.{upper-stays, upper-changes, no-upper, new-upper}
use Rattle.intel_hex.proofs.write.put_upper.Goals as goal

pub returns-then-i : goal.returns-then-i
returns-then-i c =
    let a = c.args in
    rw (no-upper a.i (upper-stays a.i c.if-i.true)) (nothing-printed a.text.now a.at (omega arith))

pub put_record-requires : goal.put_record-requires
put_record-requires c =
    let i = c.args.i in
    let changes = upper-changes i c.if-i.false in
    (omega arith, omega arith, omega (arith, upper-length i))

pub returns : goal.returns
unfolding upper_record
returns c =
    let i = c.args.i in
    let upper : i * 16 / 65536 ≡ i / 4096 = omega arith in
    rw (new-upper i (upper-changes i c.if-i.false), upper) c.put_record.ensures
