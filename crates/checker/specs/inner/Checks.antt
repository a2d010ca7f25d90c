-- The call's answer as the code returns it.
use Rattle.std.specs.Prelude.{Bool, cond, Result, Ok, Err}
use Rattle.flash.specs.Refusals.{number_of}
use Rattle.checker.specs.declared.fault.Fault.{Fault}
use Rattle.checker.specs.declared.fault.Fault.TheVariants.{Lent, Line}
use Rattle.checker.specs.Answer.{CheckAnswer}

abbrev pub checked_as : Result Bool Fault → CheckAnswer
checked_as (Ok accepted) = record { number = 0; line = 0; accepted = cond accepted 1 0 }
checked_as (Err (Lent refusal)) = record { number = number_of refusal; line = 0; accepted = 0 }
checked_as (Err (Line refusal line)) = record { number = number_of refusal; line = line; accepted = 0 }
