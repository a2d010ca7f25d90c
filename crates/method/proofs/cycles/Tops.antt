-- The top of a cycle in an accepted move: it is the highest block that is reached from any block of the cycle.
use Rattle.flash.proofs.Kit.{◌≡◌, refl, sym, ap, ◌∙◌, ◌⊎◌, inl, inr, ⊎_elim, true, List, [], ◌∷◌, ℕ, zero, suc, ◌+◌, ◌≤◌, ◌<◌, max, not-suc-le-zero}
use Rattle.flash.proofs.Kit.{le_antisymm, arith, length, get_or, eqb-true, eq-eqb}
use Rattle.flash.specs.Lists.{iterates}
use Rattle.flash.proofs.Comparisons.{lt-cases}
use Rattle.method.specs.Move.{Move, AcceptedMove}
use Rattle.method.specs.Cycle.{highest, dest, pred, cycle, top, is_top}
use Rattle.method.proofs.cycles.Orbits.{DataBlock, OneToOne, iterate, iterate-last, iterate-add, length-iterates, iterates-at, undone, iterate-in, among, leads-back}
use Rattle.method.proofs.cycles.SetCycles.{dest-one, dest-pred, pred-dest, pred_in}

-- the highest of x and a list is one of them, and no lower than any
highest-first : (x : ℕ) (ys : List ℕ) → x ≤ highest x ys
unfolding highest
highest-first x [] = omega arith
highest-first x (y ∷ ys) = omega (arith, highest-first (max x y) ys)

pub highest-ge : (x : ℕ) (ys : List ℕ) (i : ℕ) → i < length ys → get_or ys i 0 ≤ highest x ys
unfolding highest
highest-ge x [] i h = absurd (not-suc-le-zero h)
highest-ge x (y ∷ ys) zero h = omega (arith, highest-first (max x y) ys)
highest-ge x (y ∷ ys) (suc i) h = highest-ge (max x y) ys i (omega arith)

pub highest-is : (x : ℕ) (ys : List ℕ) → (highest x ys ≡ x) ⊎ ((i : ℕ) × (i < length ys) × (highest x ys ≡ get_or ys i 0))
unfolding highest
highest-is x [] = inl refl
highest-is x (y ∷ ys) =
    ⊎_elim
    (λ (e : highest (max x y) ys ≡ max x y).
    ⊎_elim
    (λ (l : x < y). inr (0, omega arith, e ∙ omega arith))
    (λ (l : y ≤ x). inl (e ∙ omega arith))
    (lt-cases x y))
    (λ (r : (i : ℕ) × (i < length ys) × (highest (max x y) ys ≡ get_or ys i 0)). inr (suc r.0, omega (arith, r.1), r.2))
    (highest-is (max x y) ys)

module _ (M : Move) (A : AcceptedMove M) (set : ℕ) (set-ok : set < M.sizes.m) where
  open M.sizes use {n}

  one-to-one : OneToOne n (dest M set)
  one-to-one = dest-one M A set set-ok

  -- ---- the top is reached, and nothing above it is
  pub top-is : (i : ℕ) → DataBlock n i → (j : ℕ) × (j < n) × (top M set i ≡ iterate (dest M set) j i)
  unfolding top cycle iterate
  top-is i b = ⊎_elim
      (λ (e : top M set i ≡ i). (0, omega arith, e))
      (λ (r : (j : ℕ) × (j < length (iterates (dest M set) n i)) × (top M set i ≡ get_or (iterates (dest M set) n i) j 0)).
      let j-in : r.0 < n = omega (arith, r.1, length-iterates (dest M set) n i) in
      (r.0, j-in, r.2 ∙ iterates-at (dest M set) n i r.0 j-in))
      (highest-is i (iterates (dest M set) n i))

  pub top-ge : (steps i : ℕ) → DataBlock n i → iterate (dest M set) steps i ≤ top M set i
  unfolding top cycle
  top-ge steps i b =
      let r = among n (dest M set) one-to-one steps i b in
      let size = length-iterates (dest M set) n i in
      let at = iterates-at (dest M set) n i r.0 r.1 in
      omega (arith, r.1, r.2, highest-ge i (iterates (dest M set) n i) r.0 (omega (arith, r.1)))

  pub top-ge-self : (i : ℕ) → DataBlock n i → i ≤ top M set i
  unfolding iterate
  top-ge-self = top-ge 0

  pub top_in : (i : ℕ) → DataBlock n i → DataBlock n (top M set i)
  top_in i b = let r = top-is i b in rw r.2 (iterate-in n (dest M set) one-to-one r.0 i b)

  -- ---- all blocks of a cycle have the same top
  top-same : (steps i : ℕ) → DataBlock n i → top M set (iterate (dest M set) steps i) ≡ top M set i
  top-same steps i b =
      let w : ℕ = iterate (dest M set) steps i in
      let w-in = iterate-in n (dest M set) one-to-one steps i b in
      let there = top-is w w-in in
      let here = top-is i b in
      let back = leads-back n (dest M set) one-to-one steps i b in
      let down : top M set w ≤ top M set i = rw (there.2, ← iterate-add (dest M set) there.0 steps i) (top-ge (steps + there.0) i b) in
      let from-w : iterate (dest M set) (back.0 + here.0) w ≡ iterate (dest M set) here.0 i =
      iterate-add (dest M set) here.0 back.0 w ∙ ap (iterate (dest M set) here.0) back.2 in
      le_antisymm down (omega (arith, here.2, from-w, top-ge (back.0 + here.0) w w-in))

  pub top-dest : (i : ℕ) → DataBlock n i → top M set (dest M set i) ≡ top M set i
  unfolding iterate
  top-dest = top-same 1

  pub top-pred : (i : ℕ) → DataBlock n i → top M set (pred M set i) ≡ top M set i
  top-pred i b =
      sym (top-dest (pred M set i) (pred_in M A set set-ok i b)) ∙ ap (top M set) (dest-pred M A set set-ok i b)

  pub top-top : (i : ℕ) → DataBlock n i → top M set (top M set i) ≡ top M set i
  top-top i b = let r = top-is i b in ap (top M set) r.2 ∙ top-same r.0 i b

  -- ---- the walks meet it
  -- going back from a block, within n turns
  pub top-behind : (i : ℕ) → DataBlock n i → (j : ℕ) × (j < n) × (iterate (pred M set) j i ≡ top M set i)
  top-behind i b =
      let r = top-is i b in
      let t-in = top_in i b in
      let back = leads-back n (dest M set) one-to-one r.0 i b in
      let from-top : iterate (dest M set) back.0 (top M set i) ≡ i = ap (iterate (dest M set) back.0) r.2 ∙ back.2 in (
        back.0,
        back.1,
        ap (iterate (pred M set) back.0) (sym from-top)
            ∙ undone n (dest M set) (pred M set) one-to-one (pred-dest M A set set-ok) back.0 (top M set i) t-in,
      )

  -- going on from a block, the one before it within n turns
  pub top-ahead : (i : ℕ) → DataBlock n i → (j : ℕ) × (j < n) × (dest M set (iterate (dest M set) j i) ≡ top M set i)
  unfolding iterate
  top-ahead i b =
      let r = top-is (dest M set i) (one-to-one.into i b) in
      (r.0, r.1, sym (iterate-last (dest M set) r.0 i) ∙ sym r.2 ∙ top-dest i b)

-- ---- the test
module _ (M : Move) (set i : ℕ) where
  pub is_top-true : is_top M set i ≡ true → top M set i ≡ i
  unfolding is_top
  is_top-true = eqb-true (top M set i) i

  pub top-is_top : top M set i ≡ i → is_top M set i ≡ true
  unfolding is_top
  top-is_top = eq-eqb (top M set i) i
