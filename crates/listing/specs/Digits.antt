-- Rule 9.6: numbers as text. The bytes of a page are hexadecimal, all other numbers decimal.
use Rattle.std.specs.Prelude.{cond, List, [], ◌∷◌, ◌++◌, ℕ, zero, suc, ◌+◌, ◌/◌, ◌%◌, ltb}

-- What is added to 10 to give the first letter: `a` or `A`.
abbrev pub small : ℕ
small = 87

abbrev pub capitals : ℕ
capitals = 55

-- the digit of a number below 16: `0` to `9`, then letters
unfoldable pub digit_of : (letters d : ℕ) → ℕ
digit_of letters d = cond (ltb d 10) (48 + d) (letters + d)

-- the last `count` digits of n in a base, the highest first
unfoldable pub digits : (letters base count n : ℕ) → List ℕ
digits letters base zero n = []
digits letters base (suc count) n = digits letters base count (n / base) ++ (digit_of letters (n % base) ∷ [])

-- How many decimal digits n has, `most` + 1 at most.
unfoldable pub places_up_to : (most n : ℕ) → ℕ
places_up_to zero n = 1
places_up_to (suc most) n = cond (ltb n 10) 1 (suc (places_up_to most (n / 10)))

-- without leading zeros: n has no more than n + 1 digits
unfoldable pub decimal : (n : ℕ) → List ℕ
decimal n = digits small 10 (places_up_to n n) n

unfoldable pub hex : (letters byte : ℕ) → List ℕ
hex letters byte = digits letters 16 2 byte
