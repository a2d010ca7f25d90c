-- Worked cases with a page that the chip has given up, as those of Cases.antt: the program's case and P3, at places and after cuts.
use Rattle.std.specs.Prelude.{◌≡◌, List, [], ◌∷◌, ℕ}
use Rattle.std.proofs.Math.Option.{none, some}
use Rattle.flash.specs.PageSum.{sum}
use Rattle.flash.specs.Chip.{Chip, page_at}
use Rattle.split.specs.Request.{Request, request_of, unpinned}
use Rattle.method.specs.Rebuild.{rebuilt_from, whole_move, rebuild_answer}
use Rattle.method.specs.Cases.{chip, junk, sizes, two, three, three_torn, three_before_erase}

-- the call leaves these pages and flags, and returns 0
abbrev Rebuilds : Request → Chip → (bad : ℕ) → (area flags : List ℕ) → Type 0
Rebuilds R lent bad area flags = rebuild_answer R lent (junk 3) (junk 3) bad ≡ record { number = 0; area = area; flags = flags }

abbrev Refuses : Request → Chip → (bad number : ℕ) → Type 0
Refuses R lent bad number = rebuild_answer R lent (junk 3) (junk 3) bad ≡ record { number = number; area = junk 3; flags = junk 3 }

-- before step 3: blocks 0 and 1 are coded, 2 and 3 plain; the bytes of slots 0 and 3 may be anything
abbrev three_filled : (first last : ℕ) → Chip
three_filled first last = chip (first ∷ 3 ∷ 2 ∷ last ∷ []) (1 ∷ 1 ∷ 0 ∷ 0 ∷ [])

-- before step 9, the erase of block 1: blocks 0 and 1 are coded, 2 and 3 final
abbrev three_written : (store : List ℕ) → Chip
three_written store = chip store (1 ∷ 1 ∷ 2 ∷ 2 ∷ [])

-- page 2 is pinned and stays, and another is dropped
abbrev three_drops : Request
three_drops = request_of three.sizes (1 ∷ 65535 ∷ 0 ∷ []) (0 ∷ 0 ∷ 1 ∷ []) three.sets

abbrev three_pinned : Request
three_pinned = request_of three.sizes three.list (0 ∷ 0 ∷ 1 ∷ []) (0 ∷ 1 ∷ 0 ∷ [])

-- P3's move with block 1 of four pages torn: blocks 0 and 2 are full
abbrev two_torn : (byte : ℕ) → Chip
two_torn byte = chip (6 ∷ 1 ∷ byte ∷ 8 ∷ 4 ∷ 8 ∷ []) (1 ∷ 1 ∷ 100 ∷ 1 ∷ 0 ∷ 0 ∷ [])

-- and with block 0 filled, which holds the coded pages of block 1
abbrev two_filled : (byte : ℕ) → Chip
two_filled byte = chip (6 ∷ 1 ∷ byte ∷ 2 ∷ 4 ∷ 8 ∷ []) (1 ∷ 1 ∷ 0 ∷ 0 ∷ 0 ∷ 0 ∷ [])

pub record RebuildCasesHold (byte : ℕ) : Type 0 where
  -- no block is unfinished: the first original by the other sum, the pages of slots 1 and 2
  pub other-sum : Rebuilds three (three_filled byte 4) 0 (1 ∷ 2 ∷ 4 ∷ []) (1 ∷ 1 ∷ 1 ∷ [])
  pub other-slots : rebuilt_from (whole_move three) (1 ∷ 1 ∷ 0 ∷ 0 ∷ []) (record { place = 3; to_erase = none }) 0 0 ≡ some (1 ∷ 2 ∷ [])
  -- and the third too, as the sum of three
  pub sum-of-three : Rebuilds three (three_filled 5 byte) 3 (1 ∷ 2 ∷ 4 ∷ []) (1 ∷ 1 ∷ 1 ∷ [])
  -- where the slot is not in read's sum, that is taken, though the bytes are nonsense
  pub own-sum : Rebuilds three (three_filled 5 100) 1 (97 ∷ 2 ∷ 100 ∷ []) (1 ∷ 1 ∷ 1 ∷ [])
  -- in the second pass: an original by two other pages, one by three, and one that is lost
  pub final-page : Rebuilds three (three_written (5 ∷ 3 ∷ byte ∷ 2 ∷ [])) 2 (1 ∷ 2 ∷ 4 ∷ []) (1 ∷ 1 ∷ 1 ∷ [])
  pub lost-full : Rebuilds three (three_written (byte ∷ 3 ∷ 1 ∷ 2 ∷ [])) 0 (1 ∷ 2 ∷ 255 ∷ []) (1 ∷ 1 ∷ 0 ∷ [])
  -- P9: block 2 is torn, and the second original is the sum of all other pages
  pub lost-torn : Rebuilds three (three_torn byte) 1 (1 ∷ 255 ∷ 4 ∷ []) (1 ∷ 0 ∷ 1 ∷ [])
  pub all-torn : Rebuilds three (three_torn byte) 3 (255 ∷ 255 ∷ 255 ∷ []) (0 ∷ 0 ∷ 0 ∷ [])
  -- the torn block's own slot loses nothing
  pub torn-slot : Rebuilds three (three_torn byte) 2 (1 ∷ 2 ∷ 4 ∷ []) (1 ∷ 1 ∷ 1 ∷ [])
  -- two pages a block: only the set of the slot is touched
  pub one_set : rebuild_answer two (two_torn byte) (junk 4) (junk 4) 0 ≡ record { number = 0; area = 1 ∷ 255 ∷ 4 ∷ 8 ∷ []; flags = 1 ∷ 0 ∷ 1 ∷ 1 ∷ [] }
  -- two sets, two zero sums: that of the original's own set is added
  pub own-zero-sum : rebuild_answer two (two_filled byte) (junk 4) (junk 4) 2 ≡ record { number = 0; area = 1 ∷ 2 ∷ 4 ∷ 8 ∷ []; flags = 1 ∷ 1 ∷ 1 ∷ 1 ∷ [] }
  -- with the other's added too there is a third sum: that there is only one more is so within a set
  pub other-set : (rebuilt_from (whole_move two) (two_filled byte).marks (record { place = 2; to_erase = none }) 2 0 ≡ some (1 ∷ []))
      × (sum (page_at 1 (two_filled byte)) (1 ∷ []) ≡ 1 ∷ []) × (sum (page_at 1 (two_filled byte)) (1 ∷ 0 ∷ 3 ∷ 4 ∷ []) ≡ 1 ∷ [])
  -- refusals: the slot behind the last, marks before it, a drop before pins, pins before sets, and lengths first
  pub number-7 : Refuses three three_before_erase 4 7
  pub number-6 : Refuses three (chip (5 ∷ 3 ∷ 2 ∷ 4 ∷ []) (1 ∷ 0 ∷ 1 ∷ 0 ∷ [])) 4 6
  pub number-3 : Refuses three_drops three_before_erase 0 3
  pub number-11 : Refuses three_pinned three_before_erase 4 11
  pub number-4 : Refuses (unpinned three.sizes three.list (0 ∷ 1 ∷ 0 ∷ [])) three_before_erase 4 4
  pub number-2 : (rebuild_answer three_drops three_before_erase (junk 2) (junk 3) 4 ≡ record { number = 2; area = junk 2; flags = junk 3 })
      × (rebuild_answer three_drops three_before_erase (junk 3) (junk 4) 4 ≡ record { number = 2; area = junk 3; flags = junk 4 })
  pub number-1 : Refuses (unpinned (sizes 65 1) three.list three.sets) three_before_erase 4 1
