-- What holds of each number of a list.
use Rattle.flash.proofs.Kit.{refl, sym, ap, ◌≢◌, List, [], ◌∷◌, ℕ, zero, suc, ◌<◌, not-suc-le-zero, arith, length, get_or}
use Rattle.split.proofs.OneToOneLaws.{Distinct}

abbrev pub Each : (Q : ℕ → Type 0) → List ℕ → Type 0
Each Q ts = (i : ℕ) → i < length ts → Q (get_or ts i 0)

pub each-cons : (Q : ℕ → Type 0) (t : ℕ) (ts : List ℕ) → Q t → Each Q ts → Each Q (t ∷ ts)
each-cons Q t ts q each zero h = q
each-cons Q t ts q each (suc i) h = each i (omega arith)

pub each-one : (Q : ℕ → Type 0) (t : ℕ) → Q t → Each Q (t ∷ [])
each-one Q t q = each-cons Q t [] q (λ i h. absurd (not-suc-le-zero h))

pub distinct_cons : (t : ℕ) (ts : List ℕ) → Each (λ u. u ≢ t) ts → Distinct ts → Distinct (t ∷ ts)
distinct_cons t ts fresh distinct zero zero h l e = refl
distinct_cons t ts fresh distinct zero (suc j) h l e = absurd (fresh j (omega arith) (sym e))
distinct_cons t ts fresh distinct (suc i) zero h l e = absurd (fresh i (omega arith) e)
distinct_cons t ts fresh distinct (suc i) (suc j) h l e = ap suc (distinct i j (omega arith) (omega arith) e)
