-- A number to multiply by in place of a division.
use Rattle.std.specs.Prelude.{ℕ, ◌+◌, ◌/◌}

-- 65,536 numbers times 64 pages of a block
abbrev pub scale : ℕ
scale = 4194304

-- x * reciprocal_of m / scale is x / m, for each x of 16 bits and each m from 1 to 64.
unfoldable pub reciprocal_of : (m : ℕ) → ℕ
reciprocal_of m = scale / m + 1
