-- A range that grows by one number, and a test of it, for the turn of a loop.
use Rattle.flash.proofs.Kit.{◌≡◌, ap, Bool, ◌||◌, or-false, List, [], ◌∷◌, ◌++◌, ℕ, zero, suc, ◌+◌, arith}
use Rattle.flash.specs.Lists.{range, any}
use Rattle.flash.proofs.Searches.{any_append}

range-append : (start a b : ℕ) → range start (a + b) ≡ range start a ++ range (start + a) b
unfolding range
range-append start zero b =
    let e : 0 + b ≡ b = omega arith in
    let f : start + 0 ≡ start = omega arith in
    rw (e, f)
range-append start (suc a) b =
    let e : suc a + b ≡ suc (a + b) = omega arith in
    let f : suc start + a ≡ start + suc a = omega arith in
    rw (e, ← f) (ap (λ (t : List ℕ). start ∷ t) (range-append (suc start) a b))

pub range-more : (start size : ℕ) → range start (size + 1) ≡ range start size ++ ((start + size) ∷ [])
unfolding range
range-more start size = range-append start size 1

pub any-more : (test : ℕ → Bool) (start size : ℕ) → any test (range start (size + 1)) ≡ (any test (range start size) || test (start + size))
unfolding any
any-more test start size = rw (range-more start size, any_append test (range start size), or-false)
