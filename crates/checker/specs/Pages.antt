-- Rules 13.4 to 13.8: what the pages hold, how a line changes it, and which originals can be computed from it.
use Rattle.std.specs.Prelude.{Bool, ◌&&◌, ◌||◌, not, List, [], ◌∷◌, ◌++◌, map, ℕ, ◌-◌, ◌*◌, ◌^◌, eqb, length, get_or, set, replicate}
use Rattle.std.specs.Int.Bits.{bit_xor}
use Rattle.flash.specs.Lists.{range, all, any, set_part}
use Rattle.flash.specs.Geometry.{slot, slot_of}

-- Rule 13.4: a page holds a sum of originals, as a mask: bit k stands for original k, and sums are exclusive-or. A blank page
-- holds 0, the sum of none, and a written one never does (Claims.NeverBlank).
unfoldable pub mask_of : (originals : List ℕ) → ℕ
mask_of [] = 0
mask_of (k ∷ ks) = bit_xor (2 ^ k) (mask_of ks)

abbrev pub is_blank : (pages : List ℕ) → (t : ℕ) → Bool
is_blank pages t = eqb (get_or pages t 0) 0

-- the slots at rest: the spare is blank, and behind it is each original
unfoldable pub resting_pages : (n m : ℕ) → List ℕ
resting_pages n m = replicate m 0 ++ map (λ k. 2 ^ k) (range 0 (n * m))

-- rule 13.5: the page is not blank, or a higher one of its block is not
unfoldable pub is_bad_write : (m : ℕ) → (pages : List ℕ) → (block page : ℕ) → Bool
is_bad_write m pages block page = any (λ q. not (is_blank pages (slot m block q))) (range page (m - page))

unfoldable pub page_written : (m : ℕ) → (pages : List ℕ) → (block page mask : ℕ) → List ℕ
page_written m pages block page mask = set pages (slot m block page) mask

-- rule 13.6
unfoldable pub block_erased : (m : ℕ) → (pages : List ℕ) → (block : ℕ) → List ℕ
block_erased m pages block = set_part m block pages (replicate m 0)

-- Rule 13.7: some of the pages sum to the mask. The first page is not among them, or it is.
unfoldable pub is_sum : (pages : List ℕ) → (mask : ℕ) → Bool
is_sum [] mask = eqb mask 0
is_sum (page ∷ pages) mask = is_sum pages mask || is_sum pages (bit_xor mask page)

-- each original below `count` is the sum of some of the pages, and nothing else is in that sum
unfoldable pub are_determined : (count : ℕ) → (pages : List ℕ) → Bool
are_determined count pages = all (λ k. is_sum pages (2 ^ k)) (range 0 count)

-- rule 13.8: after a line, and with what it wrote or erased taken as lost
unfoldable pub survives : (count : ℕ) → (after lost : List ℕ) → Bool
survives count after lost = are_determined count after && are_determined count lost

-- rule 13.9: each original lies where the list sends it, alone, and the spare is blank
unfoldable pub is_requested : (m : ℕ) → (list pages : List ℕ) → Bool
is_requested m list pages =
    all (λ k. eqb (get_or pages (slot_of m (get_or list k 0)) 0) (2 ^ k)) (range 0 (length list)) && all (is_blank pages) (range 0 m)
