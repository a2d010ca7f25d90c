-- The check of set bytes by rows: one row for each source block, and one for each destination block in a table of the sets by destination.
use Rattle.std.specs.Prelude.{◌≡◌, Bool, true, List, ℕ, ◌*◌, ◌%◌, ◌≤◌, ◌<◌, eqb, length, get_or}
use Rattle.flash.specs.Lists.{range, all, any, part}
use Rattle.split.specs.OneToOne.{is_one_to_one}
use Rattle.split.specs.inner.Mask.{bit_at}

-- what the calls know of a list that is not refused as 1, 2 or 3
pub record Accepted (n m : ℕ) (list : List ℕ) : Type 0 where
  pub some-pages : 1 ≤ m
  pub n-fits : n ≤ 64
  pub m-fits : m ≤ 64
  pub listed : length list ≡ n * m
  pub one-to-one : is_one_to_one (n * m) list ≡ true

-- the table has at each destination the set byte of the original that goes there, without its highest bit, which no set has
abbrev pub ByDestination : (list sets table : List ℕ) → Type 0
ByDestination list sets table = (k : ℕ) → k < length list → get_or table (get_or list k 0) 0 ≡ get_or sets k 0 % 128

-- The first k sets are entered by destination, and bytes of 128 or more stand where none is. A number that is no place is taken modulo 4,096,
-- and the last of equal numbers counts.
pub record Entered (list sets : List ℕ) (k : ℕ) (table : List ℕ) : Type 0 where
  pub met : (j : ℕ) → j < k → get_or table (get_or list j 0 % 4096) 0 < 128
  pub from : (place : ℕ) → place < length list → get_or table place 0 < 128
      → (j : ℕ) × (j < k) × (get_or list j 0 % 4096 ≡ place) × (get_or table place 0 ≡ get_or sets j 0 % 128)

-- the mask has the bits of the bytes from `start` to before `end`, taken modulo 64
pub record Bits (bytes : List ℕ) (start end mask : ℕ) : Type 0 where
  pub marked : (k : ℕ) → start ≤ k → k < end → bit_at mask (get_or bytes k 0 % 64) ≡ 1
  pub only : (number : ℕ) → bit_at mask number ≡ 1 → (k : ℕ) × (start ≤ k) × (k < end) × (get_or bytes k 0 % 64 ≡ number)

-- a row has each number below m, where bytes are taken modulo 64
unfoldable pub has_each : (m : ℕ) → List ℕ → Bool
has_each m row = all (λ number. any (λ byte. eqb (byte % 64) number) row) (range 0 m)

-- so has each of the first n rows of m bytes
unfoldable pub rows_have_each : (n m : ℕ) → List ℕ → Bool
rows_have_each n m bytes = all (λ i. has_each m (part m i bytes)) (range 0 n)
