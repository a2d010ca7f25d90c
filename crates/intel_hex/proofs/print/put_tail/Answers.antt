-- `put_tail` prints the checksum and the line feed.
use Rattle.flash.proofs.Kit.{◌≡◌, ℕ, ◌-◌, ◌/◌, ◌%◌, arith}
use Rattle.intel_hex.proofs.Digits.{hex-is}
use Rattle.intel_hex.proofs.print.put_tail.Goals as goal

pub returns : goal.returns
returns c =
    let check : ℕ = (256 - c.args.sum % 256) % 256 in
    let d : check / 16 % 16 ≡ check / 16 = omega arith in
    rw (hex-is check, d, ← c.digit_of-high.ensures, ← c.digit_of-low.ensures) c.put_text.ensures
