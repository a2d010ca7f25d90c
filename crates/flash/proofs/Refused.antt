-- What the number of a refusal tells.
use Rattle.flash.proofs.Kit.{◌≤◌, arith}
use Rattle.flash.specs.Refusals.{number_of}
use Rattle.flash.specs.declared.refusal.Refusal.{Refusal}
use Rattle.flash.specs.declared.refusal.Refusal.TheVariants.{BadSizes, BadLength, BadList, BadSplit, BadPlace, BadMarks, BadOriginal, BadRecord, BadAddress, BadText, BadPins, BadWear, BadLine, BadWrite, LostOriginal, BadBlocks, BadOrder}

pub some-number : (r : Refusal) → 1 ≤ number_of r
some-number BadSizes = omega arith
some-number BadLength = omega arith
some-number BadList = omega arith
some-number BadSplit = omega arith
some-number BadPlace = omega arith
some-number BadMarks = omega arith
some-number BadOriginal = omega arith
some-number BadRecord = omega arith
some-number BadAddress = omega arith
some-number BadText = omega arith
some-number BadPins = omega arith
some-number BadWear = omega arith
some-number BadLine = omega arith
some-number BadWrite = omega arith
some-number LostOriginal = omega arith
some-number BadBlocks = omega arith
some-number BadOrder = omega arith
