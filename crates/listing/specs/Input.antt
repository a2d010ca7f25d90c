-- Rules 9.1 to 9.4: what an input of the step program asks for.
use Rattle.std.specs.Prelude.{Bool, cond, ◌&&◌, List, [], ◌∷◌, ◌++◌, ℕ, ◌+◌, ◌*◌, eqb, leb, length, get_or, take, drop}
use Rattle.std.proofs.Math.Option.{Option, none, some}
use Rattle.flash.specs.Lists.{all}
use Rattle.flash.specs.declared.sizes.Sizes.{Sizes}
use Rattle.flash.specs.Geometry.{original_count, is_letter}
use Rattle.listing.specs.Numbers.{numbers_in, Taken, taken, numbers_met}

pub data Input : Type 0 where
  unreadable : Input
  -- `refused 1`
  refused : Input
  -- The list's entries are numbers as they were written, to 99999: whether the list is a good one is judged later.
  request : Sizes → (list bytes : List ℕ) → Input

-- rules 9.2 and 9.3: the program's own limits
unfoldable pub is_allowed : Sizes → Bool
is_allowed Z = leb 1 Z.n && leb Z.n 8 && leb 1 Z.m && leb Z.m 8 && leb 1 Z.p && leb Z.p 64 && is_letter Z.s

abbrev pub sizes_from : (values : List ℕ) → Sizes
sizes_from values = record { n = get_or values 0 0; m = get_or values 1 0; p = get_or values 2 0; s = get_or values 3 0 }

-- rule 9.1: n × m entries, and P bytes for each original
abbrev pub numbers_due : Sizes → ℕ
numbers_due Z = original_count Z + original_count Z * Z.p

-- Rule 9.4: the numbers due and no others. The first `count` of them are the list, the rest are bytes.
unfoldable pub exactly : (count : ℕ) → Option Taken → Option (List ℕ)
exactly count none = none
exactly count (some due) =
    cond (all (λ byte. leb byte 255) (drop count due.values) && eqb (length due.rest) 0) (some due.values) none

unfoldable pub requested : Sizes → Option (List ℕ) → Input
requested Z none = unreadable
requested Z (some due) = request Z (take (original_count Z) due) (drop (original_count Z) due)

-- rule 9.3: the sizes are judged before anything behind them is read
unfoldable pub after_sizes : Option Taken → Input
after_sizes none = unreadable
after_sizes (some sizes) =
    let Z = sizes_from sizes.values in
    cond (is_allowed Z) (requested Z (exactly (original_count Z) (taken [] (numbers_due Z) sizes.rest))) refused

unfoldable pub input_of : (text : List ℕ) → Input
input_of text = after_sizes (taken [] 4 (numbers_in text))

-- the numbers that a reader has put down when it stops: those due behind sizes that are allowed, as far as it met them
unfoldable pub met_after : Option Taken → List ℕ
met_after none = []
met_after (some sizes) =
    let Z = sizes_from sizes.values in
    cond (is_allowed Z) (numbers_met (numbers_due Z) sizes.rest) []

unfoldable pub numbers_put : (text : List ℕ) → List ℕ
numbers_put text = met_after (taken [] 4 (numbers_in text))

-- Rule 9.2: what lies beyond 4,096 bytes counts as one byte that no number has. So longer input is `unreadable` unless
-- its sizes, complete before that byte, are refused.
abbrev pub input_limit : ℕ
input_limit = 4096

unfoldable pub within_limit : (input : List ℕ) → List ℕ
within_limit input = cond (leb (length input) input_limit) input (take input_limit input ++ (0 ∷ []))
