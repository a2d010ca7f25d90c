-- Rules 13.2 and 13.3: the lines of a listing and their exact form. A line is read from the front of a text, and what stands behind it is left.
use Rattle.std.specs.Prelude.{Bool, true, cond, ◌&&◌, ◌||◌, not, List, [], ◌∷◌, ℕ, zero, suc, ◌+◌, ◌*◌, eqb, leb, ltb, length, get_or, drop, take}
use Rattle.flash.specs.Lists.{all, is_same}
use Rattle.listing.specs.Numbers.{is_digit, spelled}

-- the digits that a text starts with, and what stands behind them
unfoldable pub leading : (text : List ℕ) → List ℕ
leading [] = []
leading (byte ∷ text) = cond (is_digit byte) (byte ∷ leading text) []

unfoldable pub behind : (text : List ℕ) → List ℕ
behind [] = []
behind (byte ∷ text) = cond (is_digit byte) (behind text) (byte ∷ text)

-- Rule 13.3: as many digits as one likes, but no 0 (48) in front of others.
unfoldable pub is_number : (digits : List ℕ) → Bool
is_number digits = leb 1 (length digits) && (eqb (length digits) 1 || not (eqb (get_or digits 0 0) 48))

-- A field is a space (32) and a number behind it.
unfoldable pub is_field : (text : List ℕ) → Bool
is_field text = eqb (get_or text 0 0) 32 && is_number (leading (drop 1 text))

-- the numbers of the fields that a text starts with, `most` of them at most, and what stands behind these
unfoldable pub fields : (most : ℕ) → (text : List ℕ) → List ℕ
fields zero text = []
fields (suc most) text = cond (is_field text) (spelled 0 (leading (drop 1 text)) ∷ fields most (behind (drop 1 text))) []

unfoldable pub behind_fields : (most : ℕ) → (text : List ℕ) → List ℕ
behind_fields zero text = text
behind_fields (suc most) text = cond (is_field text) (behind_fields most (behind (drop 1 text))) text

-- from `least` on, and each above the one before it
unfoldable pub is_rising : (least : ℕ) → List ℕ → Bool
is_rising least [] = true
is_rising least (k ∷ ks) = leb least k && is_rising (suc k) ks

-- one or more, below `count`
unfoldable pub are_originals : (count : ℕ) → List ℕ → Bool
are_originals count ks = leb 1 (length ks) && is_rising 0 ks && all (λ k. ltb k count) ks

-- what a line says
pub data Line : Type 0 where
  write : (block page : ℕ) → (originals : List ℕ) → Line
  erase : (block : ℕ) → Line
  end : (writes erases : ℕ) → Line
  -- a line of another form
  other : Line

-- a line, and the text behind it
pub record Read : Type 0 where
  pub line : Line
  pub rest : List ℕ

abbrev pub unformed : Read
unformed = record { line = other; rest = [] }

-- a line feed (10) stands behind the fields, and they are good
unfoldable pub formed : (good : Bool) → Line → (behind : List ℕ) → Read
formed good line behind = cond (good && eqb (get_or behind 0 0) 10) (record { line = line; rest = drop 1 behind }) unformed

-- the writes and the erases, of any size
unfoldable pub read_end : (text : List ℕ) → Read
read_end text =
    let values = fields 2 text in
    formed (eqb (length values) 2) (end (get_or values 0 0) (get_or values 1 0)) (behind_fields 2 text)

-- a block
unfoldable pub read_erase : (n : ℕ) → (text : List ℕ) → Read
read_erase n text =
    let values = fields 1 text in
    formed (eqb (length values) 1 && leb (get_or values 0 0) n) (erase (get_or values 0 0)) (behind_fields 1 text)

-- A block, a page, and one original or more, rising. No more than n × m of them can rise.
unfoldable pub read_write : (n m : ℕ) → (text : List ℕ) → Read
read_write n m text =
    let values = fields (2 + n * m) text in
    let originals = drop 2 values in
    formed (leb (get_or values 0 0) n && ltb (get_or values 1 0) m && are_originals (n * m) originals)
    (write (get_or values 0 0) (get_or values 1 0) originals) (behind_fields (2 + n * m) text)

-- the step's own number, and behind it ` W` or ` E`
unfoldable pub read_step : (n m step : ℕ) → (text : List ℕ) → Read
read_step n m step text =
    let more = behind text in
    cond (is_number (leading text) && eqb (spelled 0 (leading text)) step)
    (cond (is_same (take 2 more) (32 ∷ 87 ∷ [])) (read_write n m (drop 2 more))
    (cond (is_same (take 2 more) (32 ∷ 69 ∷ [])) (read_erase n (drop 2 more)) unformed))
    unformed

-- Rule 13.2: the first line of a text, where it has the number `step`. `end` is a line without one.
unfoldable pub read_line : (n m step : ℕ) → (text : List ℕ) → Read
read_line n m step text = cond (is_same (take 3 text) (101 ∷ 110 ∷ 100 ∷ [])) (read_end (drop 3 text)) (read_step n m step text)
