-- Sets kept as masks: bit `set` of a 64-bit number tells of the set.
use Rattle.std.specs.Prelude.{◌≡◌, ◌≢◌, ◌⊎◌, Bool, List, ℕ, ◌-◌, ◌/◌, ◌%◌, ◌^◌, eqb, get_or}
use Rattle.flash.specs.Lists.{range, first}

abbrev pub bit_at : (mask bit : ℕ) → ℕ
bit_at mask bit = mask / 2 ^ bit % 2

-- the lowest bit that is 0, or 64
unfoldable pub lowest_zero : (mask : ℕ) → ℕ
lowest_zero mask = first (λ bit. eqb (bit_at mask bit) 0) (range 0 64) 64

-- r is the mask with one bit set
pub record WithBit (mask bit r : ℕ) : Type 0 where
  pub now : bit_at r bit ≡ 1
  pub same : (other : ℕ) → other ≢ bit → bit_at r other ≡ bit_at mask other

-- `after` is a table of masks, one a block, with one bit of one mask changed
pub record FlippedAt (masks : List ℕ) (block bit : ℕ) (after : List ℕ) : Type 0 where
  pub changed : bit_at (get_or after block 0) bit ≡ 1 - bit_at (get_or masks block 0) bit
  pub same : (at other : ℕ) → (at ≢ block) ⊎ (other ≢ bit) → bit_at (get_or after at 0) other ≡ bit_at (get_or masks at 0) other

-- and with two bits of one mask changed
pub record FlippedBoth (masks : List ℕ) (block a b : ℕ) (after : List ℕ) : Type 0 where
  pub changed : (bit : ℕ) → (bit ≡ a) ⊎ (bit ≡ b) → bit_at (get_or after block 0) bit ≡ 1 - bit_at (get_or masks block 0) bit
  pub same : (at bit : ℕ) → (at ≢ block) ⊎ ((bit ≢ a) × (bit ≢ b)) → bit_at (get_or after at 0) bit ≡ bit_at (get_or masks at 0) bit

-- bit k of a table of masks
abbrev pub is_marked : (masks : List ℕ) → (k : ℕ) → Bool
is_marked masks k = eqb (bit_at (get_or masks (k / 64) 0) (k % 64)) 1
