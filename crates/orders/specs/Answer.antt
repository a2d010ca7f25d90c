-- Rule 14.8: the two whole answers.
use Rattle.std.specs.Prelude.{Bool, cond, ◌&&◌, ◌||◌, not, List, [], ◌∷◌, ◌++◌, ℕ, ◌*◌, eqb, ltb, length}
use Rattle.flash.specs.Tables.{Row, refusal}
use Rattle.flash.specs.Geometry.{in_range}
use Rattle.split.specs.OneToOne.{bad_list}
use Rattle.orders.specs.Orders.{bad_order, least_y, forbidding_page}
use Rattle.orders.specs.Dictionary.{best_order}

-- n and m are in their ranges; a page size and a start letter are not taken
abbrev pub are_sizes : (n m : ℕ) → Bool
are_sizes n m = in_range (record { n = n; m = m; p = 1; s = 0 })

-- what both calls look for, in this order; `most` is the highest n that the call takes
unfoldable pub list_rows : (n m most : ℕ) → (list order : List ℕ) → List (Row ℕ)
list_rows n m most list order =
    record { fits = not (are_sizes n m); gives = 1 }
    ∷ record { fits = ltb n 3 || ltb most n; gives = 16 }
    ∷ record { fits = not (eqb (length list) (n * m) && eqb (length order) n); gives = 2 }
    ∷ record { fits = bad_list (n * m) list; gives = 3 }
    ∷ []

unfoldable pub least_rows : (n m : ℕ) → (list order : List ℕ) → List (Row ℕ)
least_rows n m list order = list_rows n m 64 list order ++ (record { fits = bad_order n order; gives = 17 } ∷ [])

unfoldable pub best_rows : (n m : ℕ) → (list order : List ℕ) → List (Row ℕ)
best_rows n m list order = list_rows n m 7 list order

pub record LeastAnswer : Type 0 where
  pub number : ℕ
  pub y : ℕ
  pub page : ℕ

unfoldable pub least_answer : (n m : ℕ) → (list order : List ℕ) → LeastAnswer
least_answer n m list order =
    let number = refusal (least_rows n m list order) in
    cond (eqb number 0)
    (record { number = 0; y = least_y n m list order; page = forbidding_page n m list order })
    (record { number = number; y = 0; page = 0 })

pub record BestAnswer : Type 0 where
  pub number : ℕ
  -- the lent bytes after the call
  pub order : List ℕ
  pub y : ℕ
  pub page : ℕ

unfoldable pub best_answer : (n m : ℕ) → (list order : List ℕ) → BestAnswer
best_answer n m list order =
    let number = refusal (best_rows n m list order) in
    let best = best_order n m list in
    cond (eqb number 0)
    (record { number = 0; order = best; y = least_y n m list best; page = forbidding_page n m list best })
    (record { number = number; order = order; y = 0; page = 0 })
