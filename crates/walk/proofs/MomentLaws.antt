-- Marks that fit the move have a moment, which tells what each block is full of.
use Rattle.flash.proofs.Kit.{◌≡◌, inl, inr, ⊎_elim, ◌≢◌, Bool, true, false, cond, List, ℕ, ◌+◌, ◌≤◌, ◌<◌, arith, leb, ltb, leb-true, le-leb}
use Rattle.flash.proofs.Kit.{lt-leb, ltb-true, lt-ltb}
use Rattle.flash.specs.Geometry.{letter}
use Rattle.flash.proofs.Bools.{bool_eq, fails}
use Rattle.flash.proofs.Blocks.{full-same}
use Rattle.method.specs.Move.{Move, AcceptedMove}
use Rattle.method.specs.Read.{full_of}
use Rattle.method.specs.inner.Shape.{Shape}
use Rattle.method.proofs.walks.StoredPages.{full-clear}
use Rattle.walk.specs.inner.Moments.{Tells, moment_in}

module _ (M : Move) (A : AcceptedMove M) (marks : List ℕ) (low high i : ℕ) (S : Shape M.sizes marks low high i) where
  open M.sizes use {n, m}

  -- a block that is full of the letter j is full of no other
  full-below : (j u : ℕ) → u ≤ n → letter M.sizes i ≢ letter M.sizes j → full_of M marks j u ≡ true → u < low
  unfolding full_of
  full-below j u h ne e = ⊎_elim
      (λ (l : u < low). l)
      (λ (l : high ≤ u). absurd (ne (full-same m marks u (letter M.sizes i) (letter M.sizes j) A.ranges.m-low (S.above u l h) e)))
      (full-clear M marks low high A i S j u e)

  full-above : (j u : ℕ) → letter M.sizes 1 ≢ letter M.sizes j → full_of M marks j u ≡ true → high ≤ u
  unfolding full_of
  full-above j u ne e = ⊎_elim
      (λ (l : u < low). absurd (ne (full-same m marks u (letter M.sizes 1) (letter M.sizes j) A.ranges.m-low (S.below u l) e)))
      (λ (l : high ≤ u). l)
      (full-clear M marks low high A i S j u e)

  coded-tells : letter M.sizes i ≢ letter M.sizes 1 → (u : ℕ) → u ≤ n → full_of M marks 1 u ≡ ltb u low
  unfolding full_of
  coded-tells ne u h = bool_eq (full_of M marks 1 u) (ltb u low) (λ e. lt-ltb u low (full-below 1 u h ne e)) (λ e. S.below u (ltb-true u low e))

  above-tells : letter M.sizes 1 ≢ letter M.sizes i → (u : ℕ) → u ≤ n → full_of M marks i u ≡ leb high u
  unfolding full_of
  above-tells ne u h = bool_eq (full_of M marks i u) (leb high u) (λ e. le-leb high u (full-above i u ne e)) (λ e. S.above u (leb-true high u e) h)

  none-tells : (j : ℕ) → letter M.sizes i ≢ letter M.sizes j → letter M.sizes 1 ≢ letter M.sizes j → (u : ℕ) → u ≤ n → full_of M marks j u ≡ leb (n + 1) u
  none-tells j ne-i ne-1 u h =
      rw (lt-leb (n + 1) u (omega arith))
      (fails (λ e. (let a = full-below j u h ne-i e in let b = full-above j u ne-1 e in omega (arith, S.order))))

pub tells : (M : Move) → AcceptedMove M → (marks : List ℕ) (is_backward : Bool) (low high : ℕ) → Shape M.sizes marks low high (cond is_backward 2 0) → Tells M marks (moment_in is_backward M.sizes.n low high)
unfolding letter
tells M A marks false low high S = record {
  plain-is = above-tells M A marks low high 0 S (λ e. omega arith);
  coded-is = coded-tells M A marks low high 0 S (λ e. omega arith);
  done-is = none-tells M A marks low high 0 S 2 (λ e. omega arith) (λ e. omega arith);
  above = λ u h l. inl (omega (arith, S.near));
}
tells M A marks true low high S = record {
  plain-is = none-tells M A marks low high 2 S 0 (λ e. omega arith) (λ e. omega arith);
  coded-is = coded-tells M A marks low high 2 S (λ e. omega arith);
  done-is = above-tells M A marks low high 2 S (λ e. omega arith);
  above = λ u h l. inr (omega (arith, S.near));
}
