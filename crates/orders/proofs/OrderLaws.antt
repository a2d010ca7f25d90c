-- Laws of orders: what the check of one says, and how an order of n + 1 blocks is made of one of n.
use Rattle.flash.proofs.Kit.{◌≡◌, refl, sym, ap, ap₂, ◌∙◌, ◌≢◌, ⊎_elim, true, false, cond, ◌&&◌, not, List, [], ◌∷◌, map, ℕ, zero, suc, ◌+◌}
use Rattle.flash.proofs.Kit.{◌-◌, ◌≤◌, ◌<◌, not-suc-le-zero, le_of_suc-le-suc, arith, leb, ltb, length, length-map, get_or, le-leb, lt-leb, lt-ltb, le-ltb}
use Rattle.flash.proofs.Kit.{leb-true, not-true, not-false}
use Rattle.flash.specs.Lists.{any}
use Rattle.flash.proofs.Bools.{both, or-false-left, or-false-right}
use Rattle.flash.proofs.Comparisons.{lt-cases}
use Rattle.flash.proofs.Searches.{none-at, none_of}
use Rattle.split.specs.OneToOne.{met_twice, is_one_to_one}
use Rattle.split.proofs.OneToOneLaws.{one-to-one-of, entry-same}
use Rattle.orders.specs.Orders.{bad_order}
use Rattle.orders.specs.Dictionary.{leaving}
use Rattle.orders.specs.Claims.{IsOrder}

-- ---- the check of an order
module _ (n : ℕ) (order : List ℕ) where
  -- no number is met twice where all are below n + 1 and each is another
  met-none : IsOrder n order → met_twice order ≡ false
  unfolding is_one_to_one
  met-none O =
      let one = one-to-one-of (n + 1) order (λ k h. omega (arith, O.high k (omega (arith, O.size)), O.size))
      (λ i j h l q. O.once i j (omega (arith, O.size)) (omega (arith, O.size)) q) in
      or-false-right (any (leb (n + 1)) order) (met_twice order) (not-true _ one)

  pub good-order : IsOrder n order → bad_order n order ≡ false
  unfolding bad_order
  good-order O = rw (
    none_of (λ block. not (leb 1 block && leb block n)) order 0 (λ i h.
        let l : i < n = omega (arith, O.size) in
        rw (le-leb 1 (get_or order i 0) (O.low i l), le-leb (get_or order i 0) n (O.high i l))),
    met-none O,
  )

  module _ (size : length order ≡ n) (good : bad_order n order ≡ false) where
    inside : (i : ℕ) → i < n → (1 ≤ get_or order i 0) × (get_or order i 0 ≤ n)
    unfolding bad_order
    inside i h =
        let x = get_or order i 0 in
        let e = none-at (λ block. not (leb 1 block && leb block n)) order i 0
        (or-false-left (any (λ block. not (leb 1 block && leb block n)) order) (met_twice order) good) (omega arith) in
        let b = both (leb 1 x) (leb x n) (not-false (leb 1 x && leb x n) e) in
        (leb-true 1 x b.0, leb-true x n b.1)

    one-to-one : is_one_to_one (n + 1) order ≡ true
    unfolding is_one_to_one bad_order
    one-to-one =
        rw (
          none_of (leb (n + 1)) order 0 (λ i h. lt-leb (n + 1) (get_or order i 0) (omega (arith, (inside i (omega arith)).1))),
          or-false-right (any (λ block. not (leb 1 block && leb block n)) order) (met_twice order) good,
        )

    pub is-order : IsOrder n order
    is-order = record {
      size = size;
      low = λ i h. (inside i h).0;
      high = λ i h. (inside i h).1;
      once = λ i j h l q. entry-same (n + 1) order one-to-one i j (omega arith) (omega arith) q;
    }

-- ---- a block left out, and taken in again
unfoldable pub closing : (left block : ℕ) → ℕ
closing left block = cond (ltb left block) (block - 1) block

module _ (b x : ℕ) where
  leaving-from : b ≤ x → leaving b x ≡ x + 1
  unfolding leaving
  leaving-from h = rw (le-leb b x h)

  leaving-below : x < b → leaving b x ≡ x
  unfolding leaving
  leaving-below h = rw (lt-leb b x h)

  closing-above : b < x → closing b x ≡ x - 1
  unfolding closing
  closing-above h = rw (lt-ltb b x h)

  closing-below : x ≤ b → closing b x ≡ x
  unfolding closing
  closing-below h = rw (le-ltb b x h)

  pub leaving-low : x ≤ leaving b x
  leaving-low = ⊎_elim (λ (h : x < b). omega (arith, leaving-below h)) (λ (h : b ≤ x). omega (arith, leaving-from h)) (lt-cases x b)

  pub leaving-high : leaving b x ≤ x + 1
  leaving-high = ⊎_elim (λ (h : x < b). omega (arith, leaving-below h)) (λ (h : b ≤ x). omega (arith, leaving-from h)) (lt-cases x b)

  leaving-ne : leaving b x ≢ b
  leaving-ne q = ⊎_elim (λ (h : x < b). absurd (omega (arith, leaving-below h))) (λ (h : b ≤ x). absurd (omega (arith, leaving-from h))) (lt-cases x b)

  closing-low : 1 ≤ b → 1 ≤ x → 1 ≤ closing b x
  closing-low l k = ⊎_elim (λ (h : b < x). omega (arith, closing-above h)) (λ (h : x ≤ b). omega (arith, closing-below h)) (lt-cases b x)

  closing-high : (n : ℕ) → b ≤ suc n → x ≤ suc n → x ≢ b → closing b x ≤ n
  closing-high n l k ne = ⊎_elim (λ (h : b < x). omega (arith, closing-above h)) (λ (h : x ≤ b). omega (arith, closing-below h, ne)) (lt-cases b x)

leaving-closing : (b x : ℕ) → x ≢ b → leaving b (closing b x) ≡ x
leaving-closing b x ne = ⊎_elim
    (λ (h : b < x). rw (closing-above b x h) (leaving-from b (x - 1) (omega arith) ∙ omega arith))
    (λ (h : x ≤ b). rw (closing-below b x h) (leaving-below b x (omega (arith, ne))))
    (lt-cases b x)

pub leaving-lt : (b x y : ℕ) → x < y → leaving b x < leaving b y
leaving-lt b x y l = ⊎_elim
    (λ (h : y < b). omega (arith, leaving-below b x (omega arith), leaving-below b y h))
    (λ (h : b ≤ y). omega (arith, leaving-high b x, leaving-from b y h))
    (lt-cases y b)

leaving-same : (b x y : ℕ) → leaving b x ≡ leaving b y → x ≡ y
leaving-same b x y q =
    let a : x < y → ⊥ = λ l. omega (arith, leaving-lt b x y l) in
    let c : y < x → ⊥ = λ l. omega (arith, leaving-lt b y x l) in
    omega arith

pub map_at : (f : ℕ → ℕ) (xs : List ℕ) (i : ℕ) → i < length xs → get_or (map f xs) i 0 ≡ f (get_or xs i 0)
map_at f [] i h = absurd (not-suc-le-zero h)
map_at f (x ∷ xs) zero h = refl
map_at f (x ∷ xs) (suc i) h = map_at f xs i (le_of_suc-le-suc h)

-- ---- one block more in front
module _ (n b : ℕ) (rest : List ℕ) (from : 1 ≤ b) (to : b ≤ suc n) (R : IsOrder n rest) where
  later : (i : ℕ) → i < n → get_or (map (leaving b) rest) i 0 ≡ leaving b (get_or rest i 0)
  later i h = map_at (leaving b) rest i (omega (arith, R.size))

  more-low : (i : ℕ) → i < suc n → 1 ≤ get_or (b ∷ map (leaving b) rest) i 0
  more-low zero h = from
  more-low (suc i) h = rw (later i (le_of_suc-le-suc h)) (omega (arith, leaving-low b (get_or rest i 0), R.low i (le_of_suc-le-suc h)))

  more-high : (i : ℕ) → i < suc n → get_or (b ∷ map (leaving b) rest) i 0 ≤ suc n
  more-high zero h = to
  more-high (suc i) h = rw (later i (le_of_suc-le-suc h)) (omega (arith, leaving-high b (get_or rest i 0), R.high i (le_of_suc-le-suc h)))

  more-once : (i j : ℕ) → i < suc n → j < suc n → get_or (b ∷ map (leaving b) rest) i 0 ≡ get_or (b ∷ map (leaving b) rest) j 0 → i ≡ j
  more-once zero zero h l q = refl
  more-once zero (suc j) h l q = absurd (leaving-ne b (get_or rest j 0) (sym (q ∙ later j (le_of_suc-le-suc l))))
  more-once (suc i) zero h l q = absurd (leaving-ne b (get_or rest i 0) (sym (later i (le_of_suc-le-suc h)) ∙ q))
  more-once (suc i) (suc j) h l q =
      let x = later i (le_of_suc-le-suc h) in
      let y = later j (le_of_suc-le-suc l) in
      ap suc (R.once i j (le_of_suc-le-suc h) (le_of_suc-le-suc l) (leaving-same b (get_or rest i 0) (get_or rest j 0) (sym x ∙ q ∙ y)))

  pub order-more : IsOrder (suc n) (b ∷ map (leaving b) rest)
  order-more = record { size = ap suc (length-map rest (leaving b) ∙ R.size); low = more-low; high = more-high; once = more-once }

-- ---- the first block taken off
module _ (n b : ℕ) (rest : List ℕ) (O : IsOrder (suc n) (b ∷ rest)) where
  rest-size : length rest ≡ n
  rest-size = let s = O.size in omega arith

  pub others : (i : ℕ) → i < length rest → get_or rest i 0 ≢ b
  others i h q = let z : suc i ≡ 0 = O.once (suc i) 0 (omega (arith, rest-size)) (omega arith) q in omega arith

  at : (i : ℕ) → i < n → get_or (map (closing b) rest) i 0 ≡ closing b (get_or rest i 0)
  at i h = map_at (closing b) rest i (omega (arith, rest-size))

  less-low : (i : ℕ) → i < n → 1 ≤ get_or (map (closing b) rest) i 0
  less-low i h = rw (at i h) (closing-low b (get_or rest i 0) (O.low 0 (omega arith)) (O.low (suc i) (omega arith)))

  less-high : (i : ℕ) → i < n → get_or (map (closing b) rest) i 0 ≤ n
  less-high i h = rw (at i h) (closing-high b (get_or rest i 0) n (O.high 0 (omega arith)) (O.high (suc i) (omega arith)) (others i (omega (arith, rest-size))))

  less-once : (i j : ℕ) → i < n → j < n → get_or (map (closing b) rest) i 0 ≡ get_or (map (closing b) rest) j 0 → i ≡ j
  less-once i j h l q =
      let same : closing b (get_or rest i 0) ≡ closing b (get_or rest j 0) = sym (at i h) ∙ q ∙ at j l in
      let x = leaving-closing b (get_or rest i 0) (others i (omega (arith, rest-size))) in
      let y = leaving-closing b (get_or rest j 0) (others j (omega (arith, rest-size))) in
      let z : suc i ≡ suc j = O.once (suc i) (suc j) (omega arith) (omega arith) (sym x ∙ ap (leaving b) same ∙ y) in
      omega arith

  pub order-less : IsOrder n (map (closing b) rest)
  order-less = record { size = length-map rest (closing b) ∙ rest-size; low = less-low; high = less-high; once = less-once }

pub opened : (b : ℕ) (rest : List ℕ) → ((i : ℕ) → i < length rest → get_or rest i 0 ≢ b) → map (leaving b) (map (closing b) rest) ≡ rest
opened b [] f = refl
opened b (x ∷ xs) f = ap₂ (λ (y : ℕ) (ys : List ℕ). y ∷ ys) (leaving-closing b x (f 0 (omega arith))) (opened b xs (λ i h. f (suc i) (omega arith)))
