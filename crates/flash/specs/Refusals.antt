-- The numbers of the table of refusals, each with the case that the code has for it.
use Rattle.std.specs.Prelude.{ℕ, Result, Ok, Err}
use Rattle.flash.specs.declared.refusal.Refusal.{Refusal}
use Rattle.flash.specs.declared.refusal.Refusal.TheVariants.{BadSizes, BadLength, BadList, BadSplit, BadPlace, BadMarks, BadOriginal, BadRecord, BadAddress, BadText, BadPins, BadWear, BadLine, BadWrite, LostOriginal, BadBlocks, BadOrder}

abbrev pub number_of : Refusal → ℕ
number_of BadSizes = 1
number_of BadLength = 2
number_of BadList = 3
number_of BadSplit = 4
number_of BadPlace = 5
number_of BadMarks = 6
number_of BadOriginal = 7
number_of BadRecord = 8
number_of BadAddress = 9
number_of BadText = 10
number_of BadPins = 11
number_of BadWear = 12
number_of BadLine = 13
number_of BadWrite = 14
number_of LostOriginal = 15
number_of BadBlocks = 16
number_of BadOrder = 17

-- Rule 7.7: what a call answers, as a number. One that is carried out gives 0.
abbrev pub number_in : {A : Type 0} → Result A Refusal → ℕ
number_in (Ok done) = 0
number_in (Err refusal) = number_of refusal
