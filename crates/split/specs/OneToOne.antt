-- Rules 1.19 and 2.1: which lists of destinations are accepted. Others are refused as 3.
use Rattle.std.specs.Prelude.{Bool, false, ◌||◌, not, List, [], ◌∷◌, ℕ, eqb, leb}
use Rattle.flash.specs.Lists.{any, filter}

-- an entry is met twice
unfoldable pub met_twice : List ℕ → Bool
met_twice [] = false
met_twice (entry ∷ entries) = any (eqb entry) entries || met_twice entries

-- No entry is `originals` or more, and none is met twice. A list of that length is then a permutation of the page numbers.
unfoldable pub is_one_to_one : (originals : ℕ) → List ℕ → Bool
is_one_to_one originals list = not (any (leb originals) list || met_twice list)

-- rule 1.19: the entry of a page that is dropped
abbrev pub dropped : ℕ
dropped = 65535

-- the entries of the pages that are kept
unfoldable pub kept_entries : List ℕ → List ℕ
kept_entries list = filter (λ entry. not (eqb entry dropped)) list

-- Number 3, of a lent list: the entry of a page that is kept names no page, or two of them name the same.
unfoldable pub bad_list : (originals : ℕ) → List ℕ → Bool
bad_list originals list = not (is_one_to_one originals (kept_entries list))
