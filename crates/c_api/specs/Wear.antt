-- Rule 12.8: the record of erases in the C calls.
use Rattle.std.specs.Prelude.{List, [], ◌∷◌, ◌++◌, map, ℕ, ◌+◌, ◌*◌, ◌/◌, ◌%◌, get_or}
use Rattle.flash.specs.Lists.{range, concat_map}
use Rattle.flash.specs.declared.wear.Wear.{Wear}
use Rattle.flash.specs.Wear.{counter_count}

-- four bytes for each counter and for the highest count, one for its block
abbrev pub wear_length : ℕ
wear_length = 265

-- the number that four bytes spell, the low one first
unfoldable pub spelled : (low second third high : ℕ) → ℕ
spelled low second third high = low + second * 256 + third * 65536 + high * 16777216

unfoldable pub spelled_at : List ℕ → (at : ℕ) → ℕ
spelled_at bytes at = spelled (get_or bytes at 0) (get_or bytes (at + 1) 0) (get_or bytes (at + 2) 0) (get_or bytes (at + 3) 0)

-- and the bytes that spell a number
unfoldable pub spelling : ℕ → List ℕ
spelling number = number % 256 ∷ number / 256 % 256 ∷ number / 65536 % 256 ∷ number / 16777216 % 256 ∷ []

unfoldable pub wear_of : (bytes : List ℕ) → Wear
wear_of bytes = record {
  counters = map (λ block. spelled_at bytes (block * 4)) (range 0 counter_count);
  highest = spelled_at bytes 260;
  block = get_or bytes 264 0;
}

unfoldable pub counter_bytes : Wear → List ℕ
counter_bytes wear = concat_map spelling wear.counters

unfoldable pub wear_bytes : Wear → List ℕ
wear_bytes wear = counter_bytes wear ++ (spelling wear.highest ++ (wear.block ∷ []))
