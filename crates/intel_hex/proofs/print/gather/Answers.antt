-- `gather` puts the fields and the bytes of a record into an area.
use Rattle.flash.proofs.Kit.{◌≡◌, ◌+◌, ◌-◌, arith, length}
use Rattle.intel_hex.proofs.Prints.{gathered}
use Rattle.intel_hex.proofs.print.gather.Goals as goal

-- what the copy leaves
pub returns : goal.returns
returns c =
    let a = c.args in
    let n : 4 + length a.bytes.now - 4 ≡ length a.bytes.now = omega arith in
    rw (n, c.copy_from_slice.ensures.after, ← c.code.ensures) (gathered a.area.now a.bytes.now _ _ _ _ (omega arith))
