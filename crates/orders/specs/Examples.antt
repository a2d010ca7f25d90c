-- Worked cases: the papers' sets in the blocks' own order, the best orders of small lists, dropped pages, and each number.
use Rattle.std.specs.Prelude.{◌≡◌, List, [], ◌∷◌, ℕ, replicate}
use Rattle.flash.specs.Lists.{range}
use Rattle.orders.specs.Answer.{LeastAnswer, BestAnswer, least_answer, best_answer}

abbrev given : (y page : ℕ) → LeastAnswer
given y page = record { number = 0; y = y; page = page }

abbrev refused : (number : ℕ) → LeastAnswer
refused number = record { number = number; y = 0; page = 0 }

abbrev found : (order : List ℕ) → (y page : ℕ) → BestAnswer
found order y page = record { number = 0; order = order; y = y; page = page }

-- the lent bytes stay
abbrev not_found : (number : ℕ) → (order : List ℕ) → BestAnswer
not_found number order = record { number = number; order = order; y = 0; page = 0 }

-- the 14 blocks of document 000, and the 21 of the set printed in document 003
abbrev fourteen : List ℕ
fourteen = 8 ∷ 3 ∷ 4 ∷ 13 ∷ 6 ∷ 12 ∷ 2 ∷ 9 ∷ 5 ∷ 11 ∷ 10 ∷ 0 ∷ 1 ∷ 7 ∷ []

abbrev twenty_one : List ℕ
twenty_one = 5 ∷ 0 ∷ 9 ∷ 11 ∷ 10 ∷ 8 ∷ 4 ∷ 16 ∷ 15 ∷ 13 ∷ 12 ∷ 18 ∷ 14 ∷ 7 ∷ 20 ∷ 19 ∷ 1 ∷ 17 ∷ 6 ∷ 2 ∷ 3 ∷ []

-- three blocks of one page, 1 2 0
abbrev three : List ℕ
three = 1 ∷ 2 ∷ 0 ∷ []

-- three blocks of two pages
abbrev six : List ℕ
six = 2 ∷ 4 ∷ 0 ∷ 5 ∷ 1 ∷ 3 ∷ []

pub record Examples : Type 0 where
  pub fourteen-blocks : least_answer 14 1 fourteen (range 1 14) ≡ given 8 13
  pub twenty-one-blocks : least_answer 21 1 twenty_one (range 1 21) ≡ given 8 13
  pub in-line : least_answer 3 1 three (1 ∷ 2 ∷ 3 ∷ []) ≡ given 1 2
  pub turned : least_answer 3 1 three (1 ∷ 3 ∷ 2 ∷ []) ≡ given 0 0
  -- page 0 can be the one that forbids
  pub page-0 : least_answer 3 1 three (2 ∷ 3 ∷ 1 ∷ []) ≡ given 1 0
  pub at_rest : least_answer 3 1 (0 ∷ 1 ∷ 2 ∷ []) (3 ∷ 2 ∷ 1 ∷ []) ≡ given 0 0
  -- two pages forbid 0: 4 and 5 in one order, 0 and 1 in the other
  pub lowest-page : least_answer 3 2 (4 ∷ 5 ∷ 2 ∷ 3 ∷ 0 ∷ 1 ∷ []) (1 ∷ 2 ∷ 3 ∷ []) ≡ given 1 4
  pub other_way : least_answer 3 2 (4 ∷ 5 ∷ 2 ∷ 3 ∷ 0 ∷ 1 ∷ []) (3 ∷ 2 ∷ 1 ∷ []) ≡ given 1 0
  -- the page that forbids is dropped, and no other is sent in its stead
  pub dropped-page : least_answer 3 1 (1 ∷ 2 ∷ 65535 ∷ []) (1 ∷ 2 ∷ 3 ∷ []) ≡ given 0 0
  pub all-dropped : least_answer 3 1 (replicate 3 65535) (3 ∷ 1 ∷ 2 ∷ []) ≡ given 0 0
  pub highest : least_answer 4 1 (2 ∷ 3 ∷ 0 ∷ 1 ∷ []) (1 ∷ 2 ∷ 3 ∷ 4 ∷ []) ≡ given 2 3
  pub best-of-three : best_answer 3 1 three (0 ∷ 0 ∷ 0 ∷ []) ≡ found (1 ∷ 3 ∷ 2 ∷ []) 0 0
  pub own-order : best_answer 3 1 (2 ∷ 0 ∷ 1 ∷ []) (9 ∷ 9 ∷ 9 ∷ []) ≡ found (1 ∷ 2 ∷ 3 ∷ []) 0 0
  -- every block sends to every other: each order has y 1, and the first is given
  pub none-better : best_answer 3 2 six (0 ∷ 0 ∷ 0 ∷ []) ≡ found (1 ∷ 2 ∷ 3 ∷ []) 1 4
  pub best-of-four : best_answer 4 1 (1 ∷ 2 ∷ 3 ∷ 0 ∷ []) (0 ∷ 0 ∷ 0 ∷ 0 ∷ []) ≡ found (1 ∷ 4 ∷ 3 ∷ 2 ∷ []) 0 0
  pub no-pages : least_answer 3 0 [] (1 ∷ 2 ∷ 3 ∷ []) ≡ refused 1
  pub too_many : least_answer 65 1 [] [] ≡ refused 1
  -- 1 before 16
  pub no_blocks : least_answer 0 1 [] [] ≡ refused 1
  pub two_blocks : least_answer 2 1 (0 ∷ 1 ∷ []) (1 ∷ 2 ∷ []) ≡ refused 16
  -- 16 before 2
  pub two-blocks-no-list : least_answer 2 1 [] [] ≡ refused 16
  pub short-list : least_answer 3 1 (0 ∷ 1 ∷ []) (1 ∷ 2 ∷ 3 ∷ []) ≡ refused 2
  pub short-order : least_answer 3 1 three (1 ∷ 2 ∷ []) ≡ refused 2
  -- 2 before 3
  pub short-bad-list : least_answer 3 1 (0 ∷ 0 ∷ []) (1 ∷ 2 ∷ 3 ∷ []) ≡ refused 2
  pub bad-list : least_answer 3 1 (0 ∷ 0 ∷ 1 ∷ []) (1 ∷ 2 ∷ 3 ∷ []) ≡ refused 3
  -- 3 before 17
  pub bad-list-and-order : least_answer 3 1 (0 ∷ 3 ∷ 1 ∷ []) (1 ∷ 1 ∷ 3 ∷ []) ≡ refused 3
  pub block-twice : least_answer 3 1 three (1 ∷ 1 ∷ 3 ∷ []) ≡ refused 17
  pub block_0 : least_answer 3 1 three (1 ∷ 0 ∷ 3 ∷ []) ≡ refused 17
  pub block_4 : least_answer 3 1 three (1 ∷ 2 ∷ 4 ∷ []) ≡ refused 17
  pub best-of-two : best_answer 2 1 (0 ∷ 1 ∷ []) (5 ∷ 5 ∷ []) ≡ not_found 16 (5 ∷ 5 ∷ [])
  pub best-of-eight : best_answer 8 1 (range 0 8) (range 1 8) ≡ not_found 16 (range 1 8)
  pub best-short-order : best_answer 3 1 three (5 ∷ []) ≡ not_found 2 (5 ∷ [])
  pub best-bad-list : best_answer 3 1 (1 ∷ 1 ∷ 0 ∷ []) (1 ∷ 1 ∷ 5 ∷ []) ≡ not_found 3 (1 ∷ 1 ∷ 5 ∷ [])
