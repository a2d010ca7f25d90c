-- Worked cases with dropped pages, as those of Cases.antt: the program's case with its last page dropped, step by step, and what is refused.
use Rattle.std.specs.Prelude.{◌≡◌, [], ◌∷◌, map, List, ℕ}
use Rattle.flash.specs.Chip.{Chip}
use Rattle.split.specs.Drops.{completed}
use Rattle.split.specs.Request.{Request, request_of, unpinned}
use Rattle.split.specs.Answer.{split_answer}
use Rattle.method.specs.Move.{plan}
use Rattle.method.specs.Answers.{read_answer}
use Rattle.method.specs.Runs.{Start}
use Rattle.method.specs.Cases.{W, E, listing, Reaches, sizes, chip, junk, counts, runs, reads_at, ran, small, three, three_at_rest, ListRefused, refused_run}

-- page 2 is dropped, and place 0 is free: the completed list is that of `three`
abbrev pub thrown : Request
thrown = small 3 (1 ∷ 2 ∷ 65535 ∷ [])

-- page 1 is dropped instead, and place 2 is free
abbrev thrown_inner : Request
thrown_inner = small 3 (1 ∷ 65535 ∷ 0 ∷ [])

-- after two steps: block 0 holds 1 ⊕ 255, and block 3 still has the bytes of the dropped page
abbrev thrown_begun : Chip
thrown_begun = chip (254 ∷ 255 ∷ 2 ∷ 4 ∷ []) (1 ∷ 255 ∷ 0 ∷ 0 ∷ [])

-- after seven: 255s are stored as c(3), a coded page like others
abbrev thrown_half : Chip
thrown_half = chip (254 ∷ 3 ∷ 255 ∷ 2 ∷ []) (1 ∷ 1 ∷ 1 ∷ 2 ∷ [])

abbrev thrown_end : Chip
thrown_end = chip (255 ∷ 255 ∷ 1 ∷ 2 ∷ []) (255 ∷ 2 ∷ 2 ∷ 2 ∷ [])

-- two pages are dropped, and again the completed list is that of `three`
abbrev thrown_two : Request
thrown_two = small 3 (65535 ∷ 65535 ∷ 0 ∷ [])

-- page 2 is pinned
abbrev pinned_last : List ℕ → Request
pinned_last list = request_of (sizes 3 1) list (0 ∷ 0 ∷ 1 ∷ []) (junk 3)

-- every page is dropped, and each is paired with its own place
abbrev thrown_all : Request
thrown_all = small 3 (65535 ∷ 65535 ∷ 65535 ∷ [])

pub record DropCasesHold : Type 0 where
  -- the premises of demand 3 can be met with a list that drops pages
  pub starts : Start thrown three_at_rest
  -- dropped pages and free places are paired, both ascending
  pub pairs : (completed (65535 ∷ 3 ∷ 65535 ∷ 65535 ∷ 0 ∷ []) ≡ 1 ∷ 3 ∷ 2 ∷ 4 ∷ 0 ∷ [])
      × (completed thrown.list ≡ three.list)
      × (split_answer (unpinned (sizes 2 2) (65535 ∷ 2 ∷ 65535 ∷ 0 ∷ []) (junk 4)) ≡ record { number = 0; sets = 0 ∷ 1 ∷ 0 ∷ 1 ∷ [] })
      × (split_answer (unpinned (sizes 3 1) thrown.list (junk 3)) ≡ record { number = 0; sets = 0 ∷ 0 ∷ 0 ∷ [] })
  pub lines : listing (plan thrown) 12 0 (record { chip = three_at_rest; work = [] })
      ≡ W 0 0 0 (254 ∷ []) ∷ E 1 1 ∷ W 2 1 0 (3 ∷ []) ∷ E 3 2 ∷ W 4 2 0 (255 ∷ []) ∷ E 5 3
      ∷ W 6 3 0 (2 ∷ []) ∷ E 7 2 ∷ W 8 2 0 (1 ∷ []) ∷ E 9 1 ∷ W 10 1 0 (255 ∷ []) ∷ E 11 0 ∷ []
  pub inner-lines : listing (plan thrown_inner) 12 0 (record { chip = three_at_rest; work = [] })
      ≡ W 0 0 0 (5 ∷ []) ∷ E 1 1 ∷ W 2 1 0 (254 ∷ []) ∷ E 3 2 ∷ W 4 2 0 (4 ∷ []) ∷ E 5 3
      ∷ W 6 3 0 (255 ∷ []) ∷ E 7 2 ∷ W 8 2 0 (1 ∷ []) ∷ E 9 1 ∷ W 10 1 0 (4 ∷ []) ∷ E 11 0 ∷ []
  -- of the six pages written two are 255s
  pub whole : runs thrown three_at_rest (junk 1) 0 99 ≡ ran 12 (counts 12 6 6 4 8) 1 thrown_end (255 ∷ []) (1 ∷ 2 ∷ 2 ∷ 1 ∷ [])
  -- what each page costs: none for D(i) where it is dropped, nor for D(pred(i)), nor for the final page; and for c(2) of the first list, where
  -- the walk ends at the dropped page, one less than without it
  pub reads : (map (reads_at thrown (1 ∷ 2 ∷ 4 ∷ [])) (0 ∷ 2 ∷ 4 ∷ 6 ∷ 8 ∷ 10 ∷ []) ≡ 1 ∷ 2 ∷ 0 ∷ 3 ∷ 2 ∷ 0 ∷ [])
      × (map (reads_at thrown_inner (1 ∷ 2 ∷ 4 ∷ [])) (0 ∷ 2 ∷ 4 ∷ 6 ∷ 8 ∷ 10 ∷ []) ≡ 2 ∷ 2 ∷ 1 ∷ 0 ∷ 2 ∷ 2 ∷ [])
      × (map (reads_at thrown_all (1 ∷ 2 ∷ 4 ∷ [])) (0 ∷ 2 ∷ 4 ∷ 6 ∷ 8 ∷ 10 ∷ []) ≡ 0 ∷ 0 ∷ 0 ∷ 0 ∷ 0 ∷ 0 ∷ [])
  pub states : Reaches thrown (1 ∷ 2 ∷ 4 ∷ []) 12 × Reaches thrown_two (1 ∷ 2 ∷ 4 ∷ []) 12 × Reaches thrown_all (1 ∷ 2 ∷ 4 ∷ []) 12
  -- the way back from block 1 ends at the dropped page, still plain: 255s are added and not counted
  pub read_plain : read_answer thrown thrown_begun (junk 1) 0 ≡ record { number = 0; count = 1; bytes = 1; work = 1 ∷ [] }
  -- past its coded page the walk goes on, and that page is counted
  pub read-coded : read_answer thrown thrown_half (junk 1) 0 ≡ record { number = 0; count = 2; bytes = 1; work = 1 ∷ [] }
  -- the dropped page itself, wherever its bytes are
  pub read_dropped : (read_answer thrown three_at_rest (junk 1) 2 ≡ record { number = 0; count = 0; bytes = 0; work = 255 ∷ [] })
      × (read_answer thrown thrown_half (junk 1) 2 ≡ record { number = 0; count = 0; bytes = 0; work = 255 ∷ [] })
  -- c(2) is the sum of two dropped pages, which is zeros
  pub zeros : runs thrown_two three_at_rest (junk 1) 0 3
      ≡ ran 3 (counts 3 2 1 2 1) 0 (chip (251 ∷ 0 ∷ 2 ∷ 4 ∷ []) (1 ∷ 1 ∷ 0 ∷ 0 ∷ [])) (0 ∷ []) (0 ∷ 1 ∷ [])
  -- number 3: what is kept still names two pages alike, or none
  pub number-3 : ListRefused 3 3 (65535 ∷ 1 ∷ 1 ∷ []) × ListRefused 3 3 (65535 ∷ 65534 ∷ 1 ∷ [])
  -- number 11 is given for a pinned page that is dropped, behind 3
  pub pinned : (split_answer (pinned_last thrown.list) ≡ record { number = 11; sets = junk 3 })
      × (runs (pinned_last thrown.list) three_at_rest (junk 1) 0 9 ≡ refused_run 11 three_at_rest (junk 1))
      × (read_answer (pinned_last thrown.list) three_at_rest (junk 1) 0 ≡ record { number = 11; count = 0; bytes = 0; work = junk 1 })
      × (split_answer (pinned_last (1 ∷ 1 ∷ 65535 ∷ [])) ≡ record { number = 3; sets = junk 3 })
