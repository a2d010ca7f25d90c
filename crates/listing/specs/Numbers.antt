-- Rule 9.1: the numbers of a text. Texts are lists of ASCII codes.
use Rattle.std.specs.Prelude.{Bool, cond, ◌&&◌, ◌||◌, List, [], ◌∷◌, ◌++◌, map, ℕ, zero, suc, ◌+◌, ◌-◌, ◌*◌, eqb, leb, length}
use Rattle.std.proofs.Math.Option.{Option, none, some}
use Rattle.flash.specs.Lists.{all}

-- A space or a line feed; no tab and no carriage return. Any run of them parts two numbers, and may stand first and last.
unfoldable pub is_separator : ℕ → Bool
is_separator byte = eqb byte 32 || eqb byte 10

unfoldable pub is_digit : ℕ → Bool
is_digit byte = leb 48 byte && leb byte 57

-- a word that has begun ends here, if there is one
unfoldable pub ended : (begun : List ℕ) → List (List ℕ) → List (List ℕ)
ended [] later = later
ended (byte ∷ begun) later = (byte ∷ begun) ∷ later

-- The words of a text are what separators part. `begun` are the bytes of a word that has begun, and is empty between words.
unfoldable pub words_from : (begun text : List ℕ) → List (List ℕ)
words_from begun [] = ended begun []
words_from begun (byte ∷ text) = cond (is_separator byte) (ended begun (words_from [] text)) (words_from (begun ++ (byte ∷ [])) text)

-- what digits spell after those that spell `value`
unfoldable pub spelled : (value : ℕ) → (digits : List ℕ) → ℕ
spelled value [] = value
spelled value (digit ∷ digits) = spelled (value * 10 + (digit - 48)) digits

-- a sign, or a sixth digit, makes a word that is no number
unfoldable pub number_of : (word : List ℕ) → Option ℕ
number_of word = cond (leb 1 (length word) && leb (length word) 5 && all is_digit word) (some (spelled 0 word)) none

-- the words of a text, each as its number, or none where it is no number
unfoldable pub numbers_in : (text : List ℕ) → List (Option ℕ)
numbers_in text = map number_of (words_from [] text)

-- The first word of a text, with the words behind it.
pub data Next : Type 0 where
  number : (value : ℕ) → (rest : List (Option ℕ)) → Next
  malformed : Next
  end : Next

unfoldable pub next : List (Option ℕ) → Next
next [] = end
next (none ∷ rest) = malformed
next (some value ∷ rest) = number value rest

-- Numbers read from the front, and the words behind them.
pub record Taken : Type 0 where
  pub values : List ℕ
  pub rest : List (Option ℕ)

-- `count` numbers after those in `values`, or none where a word is no number or there are too few
unfoldable pub taken : (values : List ℕ) → (count : ℕ) → List (Option ℕ) → Option Taken
taken values zero words = some (record { values = values; rest = words })
taken values (suc count) [] = none
taken values (suc count) (none ∷ words) = none
taken values (suc count) (some value ∷ words) = taken (values ++ (value ∷ [])) count words

-- the numbers before the first word that is none, `count` of them at most
unfoldable pub numbers_met : (count : ℕ) → List (Option ℕ) → List ℕ
numbers_met zero words = []
numbers_met (suc count) [] = []
numbers_met (suc count) (none ∷ words) = []
numbers_met (suc count) (some value ∷ words) = value ∷ numbers_met count words
