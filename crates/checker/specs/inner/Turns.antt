-- What the loop over the lines keeps, and what the code tells of one line.
use Rattle.std.specs.Prelude.{◌≡◌, Bool, true, cond, Result, Ok, Err, List, ℕ, ◌+◌, ◌*◌, ◌≤◌, length, drop}
use Rattle.flash.specs.declared.refusal.Refusal.{Refusal}
use Rattle.flash.specs.declared.refusal.Refusal.TheVariants.{BadLine}
use Rattle.split.specs.OneToOne.{is_one_to_one}
use Rattle.checker.specs.declared.fault.Fault.{Fault}
use Rattle.checker.specs.declared.fault.Fault.TheVariants.{Line}
use Rattle.checker.specs.declared.turn.Turn as code
use Rattle.checker.specs.declared.turn.Turn.TheVariants.{On, End}
use Rattle.checker.specs.Pages.{are_determined}
use Rattle.checker.specs.Answer.{Turn, on, stop}
use Rattle.checker.specs.inner.Pages.{Masks}
use Rattle.checker.specs.inner.Checks.{checked_as}

-- sizes and a list that rows 1 to 3 let pass
pub record Checkable (n m : ℕ) (list : List ℕ) : Type 0 where
  pub n-low : 1 ≤ n
  pub n-high : n ≤ 64
  pub m-low : 1 ≤ m
  pub m-high : m ≤ 64
  pub few : n * m ≤ 64
  pub size : length list ≡ n * m
  pub one-to-one : is_one_to_one (n * m) list ≡ true

-- between two lines: pages are sums of originals, every original is determined, and there were no more lines than bytes
pub record Standing (n m : ℕ) (pages text : List ℕ) (writes erases at : ℕ) : Type 0 where
  pub size : length pages ≡ (n + 1) * m
  pub masks : Masks (n * m) pages
  pub determined : are_determined (n * m) pages ≡ true
  pub few : writes + erases ≤ at
  pub within : at ≤ length text

abbrev pub fault_at : Refusal → (line : ℕ) → Result code.Turn Fault
fault_at refusal line = Err (Line refusal line)

-- the listing goes on behind a good line, and a bad one is refused
abbrev pub on_if : (good : Bool) → (writes erases next : ℕ) → Refusal → (line : ℕ) → Result code.Turn Fault
on_if good writes erases next refusal line = cond good (Ok (On (record { writes = writes; erases = erases; at = next }))) (fault_at refusal line)

-- what stands behind the end line is faulty, and if nothing does the answer is known
abbrev pub ended_if : (more : Bool) → (step : ℕ) → (accepted : Bool) → Result code.Turn Fault
ended_if more step accepted = cond more (fault_at BadLine (step + 2)) (Ok (End accepted))

abbrev pub turn_as : Result code.Turn Fault → (pages : List ℕ) → Turn
turn_as (Ok (On done)) pages = on (record { writes = done.writes; erases = done.erases; pages = pages })
turn_as (Ok (End accepted)) pages = stop (checked_as (Ok accepted))
turn_as (Err fault) pages = stop (checked_as (Err fault))

-- where the listing goes on, one step further
abbrev pub GoesOn : (n m : ℕ) → (pages text : List ℕ) → (step : ℕ) → (rest : List ℕ) → Result code.Turn Fault → Type 0
GoesOn n m pages text step rest (Ok (On done)) =
    Standing n m pages text done.writes done.erases done.at × (drop done.at text ≡ rest) × (done.writes + done.erases ≡ step + 1)
GoesOn n m pages text step rest (Ok (End accepted)) = Unit {0}
GoesOn n m pages text step rest (Err fault) = Unit {0}
