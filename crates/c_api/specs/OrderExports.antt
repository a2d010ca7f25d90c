-- What the exports about block orders promise: the calls on the list that the bytes spell.
use Rattle.std.specs.Prelude.{cond, List, [], ℕ}
use Rattle.orders.specs.Answer.{LeastAnswer, least_answer, BestAnswer, best_answer}
use Rattle.c_api.specs.Bytes.{entries_of, is_odd}

-- an odd number of bytes is no list: it counts as one without entries, which no sizes have, so that it is refused where a list of another length is
unfoldable pub list_of : (bytes : List ℕ) → List ℕ
list_of bytes = cond (is_odd bytes) [] (entries_of bytes)

unfoldable pub least_of_bytes : (n m : ℕ) → (list order : List ℕ) → LeastAnswer
least_of_bytes n m list order = least_answer n m (list_of list) order

unfoldable pub best_of_bytes : (n m : ℕ) → (list order : List ℕ) → BestAnswer
best_of_bytes n m list order = best_answer n m (list_of list) order
