-- One place more of an order that is written from its last place on.
use Rattle.flash.proofs.Kit.{◌≡◌, refl, sym, ap, ap₂, ◌∙◌, List, [], ◌∷◌, ◌++◌, map, append-nil, ℕ, suc, ◌+◌, ◌-◌, ◌/◌, ◌%◌, ◌≤◌, ◌<◌, add-one, mod-lt, arith}
use Rattle.flash.proofs.Kit.{length, length-append, length-set, length-drop, length-take-le, get_or, set, take, drop, take_all, drop_of_length-le, drop-cons, drop_at, drop-set-lt}
use Rattle.flash.proofs.Kit.{get_or-set_same, div-one, drop-length}
use native.Mathlib.Nat.{mul_comm, div-div-eq-div-mul}
use Rattle.orders.specs.Dictionary.{factorial, leaving}
use Rattle.orders.specs.inner.Search.{order_by}
use Rattle.orders.proofs.DictionaryLaws.{factorial-some, factorial-next, each-order, by-remainder}

no_place : (k : ℕ) → order_by 0 k ≡ []
unfolding order_by
no_place k = refl

no-rest : (k : ℕ) → k / factorial 0 ≡ k
unfolding factorial
no-rest k = div-one k

by-small : (n k j : ℕ) → j < n → get_or (order_by n k) j 0 ≤ n
by-small n k j h = rw (by-remainder n k) ((each-order n (k % factorial n) (mod-lt k (factorial-some n))).high j h)

module _ (order : List ℕ) (k i n : ℕ) (size : length order ≡ n) (high : i ≤ n) (tail : drop i order ≡ order_by (n - i) k) where
  tail-size : length (drop i order) ≡ n - i
  tail-size = length-drop i order ∙ ap (λ (x : ℕ). x - i) size

  pub tail-small : (c j : ℕ) → c ≡ n - i → j < length (take c (drop i order)) → get_or (take c (drop i order)) j 0 ≤ n
  tail-small c j e h =
      let all : take c (drop i order) ≡ drop i order = take_all c (drop i order) (omega (arith, tail-size)) in
      let l : j < n - i = rw (← tail-size, ← all) h in
      let b : get_or (take c (drop i order)) j 0 ≡ get_or (order_by (n - i) k) j 0 = ap (λ (xs : List ℕ). get_or xs j 0) (all ∙ tail) in
      omega (arith, by-small (n - i) k j l)

  module _ (low : 1 ≤ i) where
    pub rest_more : (rest c : ℕ) → rest ≡ k / factorial (n - i) → c ≡ n - i + 1 → rest / c ≡ k / factorial (n - (i - 1))
    rest_more rest c e f =
        let next : n - (i - 1) ≡ n - i + 1 = omega arith in
        ap₂ (λ (a b : ℕ). a / b) e f ∙ div-div-eq-div-mul k (factorial (n - i)) (n - i + 1)
        ∙ ap (λ (x : ℕ). k / x) (mul_comm (factorial (n - i)) (n - i + 1) ∙ factorial-next (n - i) ∙ ap factorial (sym next))

    next-order : (block : ℕ) → block ≡ k / factorial (n - i) % (n - i + 1) + 1 → block ∷ map (leaving block) (order_by (n - i) k) ≡ order_by (n - (i - 1)) k
    unfolding order_by
    next-order block e =
        let next : n - (i - 1) ≡ suc (n - i) = omega arith in
        rw (next, ← add-one (n - i), ← e)

    pub put-more : (c block rest d : ℕ) (part : List ℕ) → c ≡ n - i → d ≡ n - i + 1 → rest ≡ k / factorial (n - i) → block ≡ rest % d + 1
        → part ≡ map (leaving block) (take c (drop i order))
        → drop (i - 1) (set (take i order ++ (part ++ drop c (drop i order))) (i - 1) block) ≡ order_by (n - (i - 1)) k
    put-more c block rest d part ce de re be pe =
        let body : List ℕ = take i order ++ (part ++ drop c (drop i order)) in
        let front : length (take i order) ≡ i = length-take-le i order (omega arith) in
        let long : i - 1 < length body = omega (arith, length-append (take i order) (part ++ drop c (drop i order))) in
        let long' : i - 1 < length (set body (i - 1) block) = omega (arith, length-set body (i - 1) block) in
        let up : suc (i - 1) ≡ i = omega arith in
        let all : take c (drop i order) ≡ drop i order = take_all c (drop i order) (omega (arith, tail-size)) in
        let none : drop c (drop i order) ≡ [] = drop_of_length-le (drop i order) {i = c} (omega (arith, tail-size)) in
        let behind : drop i body ≡ map (leaving block) (order_by (n - i) k) =
        drop_at (take i order) (part ++ drop c (drop i order)) i front
        ∙ ap₂ (λ (xs ys : List ℕ). xs ++ ys) (pe ∙ ap (map (leaving block)) (all ∙ tail)) none ∙ append-nil _ in
        drop-cons (set body (i - 1) block) (i - 1) 0 long'
        ∙ ap₂ (λ (x : ℕ) (xs : List ℕ). x ∷ xs) (get_or-set_same body (i - 1) block 0 long)
        (drop-set-lt (suc (i - 1)) body (i - 1) block (omega arith) ∙ ap (λ (x : ℕ). drop x body) up ∙ behind)
        ∙ next-order block (be ∙ ap₂ (λ (a b : ℕ). a % b + 1) re de)

-- before the last place is written
pub none-put : (order : List ℕ) (k : ℕ) → (drop (length order) order ≡ order_by (length order - length order) k) × (k ≡ k / factorial (length order - length order))
none-put order k =
    let z : length order - length order ≡ 0 = omega arith in
    (drop-length order ∙ sym (ap (λ (x : ℕ). order_by x k) z ∙ no_place k), sym (ap (λ (x : ℕ). k / factorial x) z ∙ no-rest k))
