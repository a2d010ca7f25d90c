-- Demand 3 is not empty: a list of events with a cut write, a cut recovery, a cut erase and the finish. It is allowed, and the bound
-- on erases is met exactly. Each other bound is met as well, so that no smaller one would hold (that of the split's walk: crate `split`).
use Rattle.std.specs.Prelude.{true, ◌≡◌, List, [], ◌∷◌, ℕ, ◌+◌, ◌-◌, ◌*◌, length}
use Rattle.flash.specs.Lists.{count}
use Rattle.flash.specs.Chip.{Chip}
use Rattle.flash.specs.Wear.{counter_end, unworn}
use Rattle.method.specs.Move.{move}
use Rattle.method.specs.Place.{last_place}
use Rattle.method.specs.Read.{read_slots}
use Rattle.method.specs.Step.{is_erase, erases_block}
use Rattle.method.specs.Runs.{Start}
use Rattle.method.specs.Events.{Call, run, mend, uncut, inside, Event, History, starting, after, moments}
use Rattle.method.specs.Demand3.{AllAllowed, AtEach, Keeps}
use Rattle.method.specs.Cases.{chip, junk, runs, reads_at, small, resting, three, three_at_rest, three_before_erase, three_torn}

-- a call that is not cut
abbrev pub whole : Call → Event
whole call = record { call = call; cut = uncut }

-- a call cut inside the step after so many finished ones
abbrev pub cut_inside : Call → (finished : ℕ) → (left : Chip) → Event
cut_inside call finished left = record { call = call; cut = inside finished left }

-- what the cut inside step 2 leaves, the write of page 0 of block 1, and the cut inside its recovery
abbrev torn_write : (mark : ℕ) → Chip
torn_write mark = chip (5 ∷ 9 ∷ 2 ∷ 4 ∷ []) (1 ∷ mark ∷ 0 ∷ 0 ∷ [])

unfoldable pub example_events : List Event
example_events =
    cut_inside (run three (junk 1) unworn 0 5 counter_end) 2 (torn_write 254)
    ∷ cut_inside (mend three.sizes unworn) 0 (torn_write 3)
    ∷ whole (mend three.sizes unworn)
    -- inside step 3, the erase of block 2, which has taken no mark yet
    ∷ cut_inside (run three (junk 1) unworn 2 9 counter_end) 1 three_before_erase
    ∷ whole (mend three.sizes unworn)
    ∷ whole (run three (junk 1) unworn 3 99 counter_end)
    ∷ []

unfoldable pub after_all : List Event → History → History
after_all [] h = h
after_all (event ∷ events) h = after_all events (after event h)

abbrev example_end : History
example_end = after_all example_events (starting three_at_rest)

pub record ExampleHolds : Type 0 where
  pub start : Start three three_at_rest
  pub allowed : AllAllowed three example_events (starting three_at_rest)
  pub kept : AtEach (Keeps three three_at_rest) (moments example_events (starting three_at_rest))
  -- nine erases: 2 × 3, and one for each of three recoveries
  pub mends : example_end.mends ≡ 3
  pub erases : count is_erase example_end.begun ≡ 2 * 3 + 3
  pub finished : example_end.finished ≡ true

-- one run from rest to the finish: no cut and no recovery
abbrev alone : History
alone = after (whole (run three (junk 1) unworn 0 (last_place three.sizes) counter_end)) (starting three_at_rest)

pub record BoundsMet : Type 0 where
  -- the pages that a read sums: n
  pub pages : length (read_slots (move three) (three_torn 0).marks 1) ≡ three.sizes.n
  pub undisturbed : (alone.cuts ≡ 0) × (alone.mends ≡ 0) × (alone.finished ≡ true)
  pub erases : count is_erase alone.begun ≡ 2 * three.sizes.n
  pub block-erases : count (erases_block 1) alone.begun ≡ 2
  pub steps : length alone.begun ≡ last_place three.sizes
  -- the bytes that a whole move programs: 2 × n × m × P
  pub bytes : (runs three three_at_rest (junk 1) 0 (last_place three.sizes)).tally.bytes
      ≡ 2 * three.sizes.n * three.sizes.m * three.sizes.p
  -- the stored pages that one page written costs: n; and those that a whole move reads: 2 × n × n × m, with one block
  pub page-reads : reads_at three (1 ∷ 2 ∷ 4 ∷ []) 2 ≡ three.sizes.n
  pub move-reads : (runs (small 1 (0 ∷ [])) (resting 1) (junk 1) 0 4).tally.reads ≡ 2 * 1 * 1 * 1
  -- with a budget of one step less the finish is not reached
  pub budget : (runs three three_at_rest (junk 1) 0 (last_place three.sizes - 1)).finished ≡ 0
