-- Laws of areas of which the front was written.
use Rattle.flash.proofs.Kit.{◌≡◌, sym, ap, List, ℕ, ◌≤◌, arith, length, take, drop, length-append, take_at}
use Rattle.listing.specs.Area.{over}

module _ (front area after : List ℕ) (count : ℕ) (size : count ≡ length front) (whole : after ≡ over front area) where
  pub over-front : take count after ≡ front
  over-front = rw whole (take_at front (drop (length front) area) count (sym size))

  pub over-room : count ≤ length after
  over-room = omega (arith, simp length-append at (ap length whole))
