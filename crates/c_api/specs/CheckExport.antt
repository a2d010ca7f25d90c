-- What the export of the check of a listing promises: the numbers of the call on the list that the bytes spell.
use Rattle.std.specs.Prelude.{cond, List, ℕ, min}
use Rattle.checker.specs.Answer.{CheckAnswer, refused, are_sizes, check_answer}
use Rattle.c_api.specs.Bytes.{entries_of, is_odd}

-- the largest number of 32 bits: a line with a higher number is told as this one
abbrev pub last_line : ℕ
last_line = 4294967295

unfoldable pub in32_bits : CheckAnswer → CheckAnswer
in32_bits answer = record { number = answer.number; line = min answer.line last_line; accepted = answer.accepted }

-- an odd number of bytes is refused as a list of another length is, after sizes out of range
unfoldable pub check_of_bytes : (n m : ℕ) → (list text : List ℕ) → CheckAnswer
check_of_bytes n m list text = cond (is_odd list) (refused (cond (are_sizes n m) 2 1)) (in32_bits (check_answer n m (entries_of list) text))
