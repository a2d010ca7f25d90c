-- Bits that show which bytes of a span of 64 KiB are given.
use Rattle.std.specs.Prelude.{◌≡◌, Bool, true, false, ◌&&◌, List, ◌⊎◌, ℕ, ◌+◌, ◌*◌, ◌/◌, ◌%◌, ◌^◌, ◌≤◌, ◌<◌, eqb, length, get_or, take, drop}
use Rattle.std.proofs.Math.Option.{Option, none}
use Rattle.flash.specs.Lists.{any, range}
use Rattle.intel_hex.specs.Reading.{is_given}
use Rattle.intel_hex.specs.inner.Passes.{put_at, only_in}

abbrev pub is_set : (words : List ℕ) → (b : ℕ) → Bool
is_set words b = eqb (get_or words (b / 64) 0 / 2 ^ (b % 64) % 2) 1

pub record SetIs (words : List ℕ) (b : ℕ) (after : List ℕ) : Type 0 where
  pub set : is_set after b ≡ true
  pub same : (j : ℕ) → (j ≡ b → ⊥) → is_set after j ≡ is_set words j

-- `count` bits are set, unless one of them was
pub record MarkIs (words : List ℕ) (from count : ℕ) (after : List ℕ) (r : Bool) : Type 0 where
  pub found : r ≡ any (is_set words) (range from count)
  pub set : r ≡ false → (b : ℕ) → from ≤ b → b < from + count → is_set after b ≡ true
  pub same : r ≡ false → (b : ℕ) → (b < from) ⊎ (from + count ≤ b) → is_set after b ≡ is_set words b

abbrev pub Shows : (words : List ℕ) → (w : ℕ) → (given : List (Option ℕ)) → Type 0
Shows words w given = (b : ℕ) → b < 65536 → is_set words b ≡ is_given (get_or given (w * 65536 + b) none)

pub record LookIs (words : List ℕ) (w half offset count : ℕ) (after : List ℕ) (r : Bool) : Type 0 where
  pub found : (given : List (Option ℕ)) → Shows words w given → offset + count ≤ length given
      → r ≡ (only_in w half && any is_given (take count (drop offset given)))
  pub shows : r ≡ false → (given : List (Option ℕ)) (bytes : List ℕ) → Shows words w given → offset + count ≤ length given → length bytes ≡ count
      → Shows after w (put_at given offset bytes)
