-- What the two calls answer once no row applies.
use Rattle.flash.proofs.Kit.{◌≡◌, refl, sym, ap₂, ◌∙◌, Bool, true, false, ◌&&◌, ◌||◌, not, List, ℕ, ◌*◌, ◌/◌, ◌≤◌, ◌<◌, div-lt_iff_lt-mul, length}
use Rattle.flash.specs.Tables.{refusal}
use Rattle.orders.specs.Orders.{bad_order}
use Rattle.orders.specs.Answer.{list_rows, LeastAnswer, least_answer}
use Rattle.orders.specs.inner.Places.{Placed, Surveyed}
use Rattle.orders.specs.declared.survey.Least.{Least}
use Rattle.orders.proofs.PlaceLaws.{least-found, page-found}
use Rattle.orders.proofs.RowLaws.{passed, least-done}

-- two lengths of which one is another
pub other-size : (a b : Bool) → (not a || not b) ≡ true → (a && b) ≡ false
other-size true true e = sym e
other-size true false e = refl
other-size false b e = refl

pub both-sizes : (a b : Bool) → (not a || not b) ≡ false → (a && b) ≡ true
both-sizes true true e = refl
both-sizes true false e = sym e
both-sizes false b e = sym e

-- a page number within so many blocks
pub quotient-lt : (m x most : ℕ) → 1 ≤ m → x < most * m → x / m < most
quotient-lt m x most low h = (div-lt_iff_lt-mul low).1 h

pub least-answered : (n m : ℕ) (list order : List ℕ) → refusal (list_rows n m 64 list order) ≡ 0 → bad_order n order ≡ false
    → (places : List ℕ) → Placed order n places → (found : Least) → Surveyed m list places (length list) found
    → ◌≡◌ {A = LeastAnswer} (record { number = 0; y = found.y; page = found.page }) (least_answer n m list order)
least-answered n m list order rows good places P found S =
    let few = (passed n m 64 list order rows).list-size in
    let S' : Surveyed m list places (n * m) found = rw (← few) S in
    ap₂ (λ (y page : ℕ). record { number = 0; y = y; page = page }) (sym (least-found m list places n order P few found S'))
    (sym (page-found m list places n order P few found S'))
    ∙ least-done n m list order rows good
