-- What the code's answers say, in the words of the definitions.
use Rattle.std.specs.Prelude.{List, ℕ, take, drop, Some, None, Result, Ok, Err}
use Rattle.std.specs.Prelude
use Rattle.std.proofs.Math.Option.{Option, none, some}
use Rattle.flash.specs.declared.sizes.Sizes.{Sizes}
use Rattle.flash.specs.Geometry.{original_count}
use Rattle.listing.specs.declared.number.Word.{Word}
use Rattle.listing.specs.declared.number.Word.TheVariants.{Number, Malformed, End}
use Rattle.listing.specs.declared.input.InputError.{InputError}
use Rattle.listing.specs.declared.input.InputError.TheVariants.{Unreadable, Refused}
use Rattle.listing.specs.Numbers.{numbers_in, Next, number, malformed, end, Taken}
use Rattle.listing.specs.Input.{Input, unreadable, refused, request, numbers_due}

abbrev pub told_as : (text : List ℕ) → Word → Next
told_as text (Number value next) = number value (numbers_in (drop next text))
told_as text Malformed = malformed
told_as text End = end

-- an area that was filled has the numbers
abbrev pub filled_as : (text area : List ℕ) → Prelude.Option ℕ → Option Taken
filled_as text area (Some next) = some (record { values = area; rest = numbers_in (drop next text) })
filled_as text area None = none

-- the request whose numbers stand at the front of an area
abbrev pub request_in : (area : List ℕ) → Sizes → Input
request_in area Z =
    let due = take (numbers_due Z) area in
    request Z (take (original_count Z) due) (drop (original_count Z) due)

abbrev pub asked_as : (area : List ℕ) → Result Sizes InputError → Input
asked_as area (Err Unreadable) = unreadable
asked_as area (Err Refused) = refused
asked_as area (Ok Z) = request_in area Z
