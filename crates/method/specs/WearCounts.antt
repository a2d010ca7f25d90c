-- What is claimed of the counters: of a call that returns, of any list of calls, and of number 12.
use Rattle.std.specs.Prelude.{true, false, ◌≡◌, ◌≢◌, List, [], ◌∷◌, ℕ, ◌+◌, ◌≤◌, ◌<◌, min, length}
use Rattle.flash.specs.Lists.{count, total}
use Rattle.flash.specs.Tables.{refusal}
use Rattle.flash.specs.declared.sizes.Sizes.{Sizes}
use Rattle.flash.specs.Geometry.{in_range}
use Rattle.flash.specs.Chip.{Chip}
use Rattle.flash.specs.declared.wear.Wear.{Wear}
use Rattle.flash.specs.Wear.{counter_end, counter_count, counter_at}
use Rattle.split.specs.Request.{Request}
use Rattle.method.specs.Place.{operations}
use Rattle.method.specs.Step.{erases_block}
use Rattle.method.specs.Worn.{erases_of, wears_out}
use Rattle.method.specs.Answers.{run_rows, run_answer}
use Rattle.method.specs.Events.{Call, Event, History, number_of, steps_of, after, wear_given, wear_returned, erases_returned, wear_after, wear_at_end}
use Rattle.method.specs.Events.{erases_reported, operations_reported}

-- a record as it can be given: 65 counters of 32 bits
pub record Counters (wear : Wear) : Type 0 where
  pub length-is : length wear.counters ≡ counter_count
  pub within : (b : ℕ) → b < counter_count → counter_at wear b ≤ counter_end

-- no counter has come to its end
abbrev pub NoneEnded : Wear → Type 0
NoneEnded wear = (b : ℕ) → b < counter_count → counter_at wear b < counter_end

-- one call that returns: its steps are those of `steps_of`, none where it is refused
module _ (call : Call) (chip : Chip) (kept : Wear) where
  abbrev given : Wear
  given = wear_given call kept

  abbrev back : Wear
  back = wear_returned call chip kept

  pub record CallWears : Type 0 where
    -- each counter rises by the erases of its block, and stays at its end
    pub each : (b : ℕ) → b < counter_count → counter_at back b ≡ min (counter_at given b + count (erases_block b) (steps_of call chip)) counter_end
    pub never-falls : (b : ℕ) → b < counter_count → counter_at given b ≤ counter_at back b
    -- while none has come to its end, all together rise by the erases that the call reports
    pub together : NoneEnded back → total back.counters ≡ total given.counters + erases_returned call chip
    pub refused : number_of call chip ≢ 0 → back ≡ given

-- each call of a list is given the record that the last one to return gave back
unfoldable pub Carried : List Event → History → (kept : Wear) → Type 0
Carried [] h kept = Unit {0}
Carried (event ∷ events) h kept = (wear_given event.call kept ≡ kept) × Carried events (after event h) (wear_after event h kept)

-- The same over a list of calls with cuts: what cut calls erased is not in the record, nor is it reported.
module _ (events : List Event) (h : History) (kept : Wear) where
  abbrev end : Wear
  end = wear_at_end events h kept

  pub record ListWears : Type 0 where
    pub each : (b : ℕ) → b < counter_count → counter_at end b ≡ min (counter_at kept b + count (erases_block b) (operations_reported events h)) counter_end
    pub never-falls : (b : ℕ) → b < counter_count → counter_at kept b ≤ counter_at end b
    pub together : NoneEnded end → total end.counters ≡ total kept.counters + erases_reported events h

-- number 12
pub record WornOut : Type 0 where
  -- what it reckons with is what a whole move erases
  pub erases : (Z : Sizes) → in_range Z ≡ true → (b : ℕ) → b ≤ Z.n → count (erases_block b) (operations Z) ≡ erases_of Z.n b
  -- it is given exactly where some block of the store would pass the limit, in a run from place 0 that nothing else refuses
  pub passes : (n : ℕ) (wear : Wear) (limit : ℕ) → wears_out n wear limit ≡ true → (b : ℕ) × (b ≤ n) × (limit < counter_at wear b + erases_of n b)
  pub keeps : (n : ℕ) (wear : Wear) (limit : ℕ) → wears_out n wear limit ≡ false → (b : ℕ) → b ≤ n → counter_at wear b + erases_of n b ≤ limit
  pub at_rest : (R : Request) (chip : Chip) (work : List ℕ) (wear : Wear) (place budget limit : ℕ)
      → (run_answer R chip work wear place budget limit).number ≡ 12 → (place ≡ 0) × (wears_out R.sizes.n wear limit ≡ true)
  -- the limit aside: a run with another one that is not refused would be refused for nothing else
  pub alone : (R : Request) (chip : Chip) (work : List ℕ) (wear other : Wear) (budget limit least : ℕ)
      → refusal (run_rows R chip work other 0 least) ≡ 0 → wears_out R.sizes.n wear limit ≡ true
      → (run_answer R chip work wear 0 budget limit).number ≡ 12
  -- a move that it let pass, taken as far as one likes, leaves every counter of the store at or below the limit
  pub holds : (R : Request) (chip : Chip) (work : List ℕ) (wear : Wear) (budget limit : ℕ) → Counters wear
      → refusal (run_rows R chip work wear 0 limit) ≡ 0
      → (b : ℕ) → b ≤ R.sizes.n → counter_at (run_answer R chip work wear 0 budget limit).wear b ≤ limit

pub record WearCounts : Type 0 where
  pub call-wears : (call : Call) (chip : Chip) (kept : Wear) → Counters (wear_given call kept) → CallWears call chip kept
  pub list-wears : (events : List Event) (h : History) (kept : Wear) → Counters kept → Carried events h kept → ListWears events h kept
  pub worn-out : WornOut
