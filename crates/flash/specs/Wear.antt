-- Rules 12.1, 12.6 and 12.7: how often blocks were erased, and which the most.
use Rattle.std.specs.Prelude.{Bool, cond, ◌&&◌, ◌||◌, ◌≡◌, ◌≢◌, ℕ, zero, suc, ◌+◌, ◌≤◌, ◌<◌, eqb, ltb, get_or, set, replicate}
use Rattle.flash.specs.declared.wear.Wear.{Wear}

-- the largest number of 32 bits, where a counter stays
abbrev pub counter_end : ℕ
counter_end = 4294967295

-- the spare and the most data blocks
abbrev pub counter_count : ℕ
counter_count = 65

unfoldable pub counter_at : Wear → (block : ℕ) → ℕ
counter_at wear block = get_or wear.counters block 0

unfoldable pub raised : ℕ → ℕ
raised counter = cond (ltb counter counter_end) (counter + 1) counter

-- ---- the pair: the count of the most worn block, and the lowest such block
-- a higher count takes its place, and so does an equal one at a lower block
unfoldable pub replaces : (highest kept count block : ℕ) → Bool
replaces highest kept count block = ltb highest count || (eqb count highest && ltb block kept)

-- the pair once this count of a block is known
unfoldable pub noted : (block count : ℕ) → Wear → Wear
noted block count wear =
    cond (replaces wear.highest wear.block count block) (record { counters = wear.counters; highest = count; block = block }) wear

-- one erase of a block more: its counter rises, and the pair is looked at with the count that it has then
unfoldable pub risen : (block : ℕ) → Wear → Wear
risen block wear =
    let count = raised (counter_at wear block) in
    noted block count (record { counters = set wear.counters block count; highest = wear.highest; block = wear.block })

-- the pair made of the counters of so many blocks, from block 0 on
unfoldable pub noted_up_to : (blocks : ℕ) → Wear → Wear
noted_up_to zero wear = record { counters = wear.counters; highest = 0; block = 0 }
noted_up_to (suc block) wear = noted block (counter_at wear block) (noted_up_to block wear)

-- the pair made afresh
unfoldable pub refreshed : Wear → Wear
refreshed wear = noted_up_to counter_count wear

-- The pair is correct for the counters of so many blocks, from block 0 on.
pub record CorrectFor (blocks : ℕ) (wear : Wear) : Type 0 where
  pub inside : wear.block < blocks
  pub has : counter_at wear wear.block ≡ wear.highest
  pub most : (b : ℕ) → b < blocks → counter_at wear b ≤ wear.highest
  pub lowest : (b : ℕ) → b < wear.block → counter_at wear b ≢ wear.highest

-- and for all of them
abbrev pub PairCorrect : Wear → Type 0
PairCorrect wear = CorrectFor counter_count wear

abbrev pub unworn : Wear
unworn = record { counters = replicate counter_count 0; highest = 0; block = 0 }
