-- What each case of the code's enum stands for: the table's number, and the place and block of rules 5.3 to 5.6.
use Rattle.std.specs.Prelude.{Bool, cond, Result, Ok, Err, List, ℕ, ◌+◌, ◌-◌, ◌*◌}
use Rattle.std.proofs.Math.Option.{Option, none, some}
use Rattle.flash.specs.declared.sizes.Sizes.{Sizes}
use Rattle.flash.specs.declared.refusal.Refusal.{Refusal}
use Rattle.flash.specs.declared.wear.Wear.{Wear}
use Rattle.flash.specs.Refusals.{number_of}
use Rattle.method.specs.Mend.{Reading}
use Rattle.method.specs.Answers.{MarksAnswer, MendAnswer}
use Rattle.recovery.specs.declared.marks.MarksRead.{MarksRead}
use Rattle.recovery.specs.declared.marks.MarksRead.TheVariants.{NoMoment, Full, Torn}
use Rattle.recovery.specs.declared.mend.Mended.{Mended}
use Rattle.recovery.specs.declared.mend.MendResult.{MendResult}

-- the place in the turn that fills this block, where so many of its pages are written
unfoldable pub place_in_turn : Sizes → (is_backward : Bool) → (block written : ℕ) → ℕ
place_in_turn Z is_backward block written = cond is_backward (2 * Z.n - block) block * (Z.m + 1) + written

-- each case: the number of the table of refusals, the place, and the block that mend erases
unfoldable pub answer_of : Sizes → MarksRead → MarksAnswer
answer_of Z NoMoment = record { number = 6; told = none }
answer_of Z (Full is_backward change) = record {
  number = 0;
  told = some (record { place = place_in_turn Z is_backward (cond is_backward change (change - 1)) Z.m; to_erase = none });
}
answer_of Z (Torn is_backward block) = record { number = 0; told = some (record { place = place_in_turn Z is_backward block 0; to_erase = some block }) }

abbrev pub reading_of : Sizes → MarksRead → Option Reading
reading_of Z told = (answer_of Z told).told

-- what a recovery comes to and leaves, as the definition's answer has it: a refusal gives its number, and 0 in every other one
abbrev pub recovered_as : Result Mended Refusal → (store marks : List ℕ) → Wear → MendAnswer
recovered_as (Ok done) store marks wear =
    record { number = 0; place = done.place; erases = done.erases; chip = record { store = store; marks = marks }; wear = wear }
recovered_as (Err refusal) store marks wear =
    record { number = number_of refusal; place = 0; erases = 0; chip = record { store = store; marks = marks }; wear = wear }

-- what mend returns and leaves
abbrev pub answered : MendResult → (store marks : List ℕ) → MendAnswer
answered r store marks = recovered_as r.outcome store marks r.wear
