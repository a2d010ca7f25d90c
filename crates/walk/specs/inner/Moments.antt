-- A moment tells which letter each block is full of, so that no mark is looked at.
use Rattle.std.specs.Prelude.{◌≡◌, ◌⊎◌, Bool, cond, List, ℕ, ◌+◌, ◌≤◌, ◌<◌, leb, ltb}
use Rattle.flash.specs.declared.sizes.Sizes.{Sizes}
use Rattle.method.specs.Move.{Move}
use Rattle.method.specs.Read.{full_of}
use Rattle.method.specs.inner.Shape.{Shape}
use Rattle.walk.specs.declared.moment.Moment.{Moment}

pub record Tells (M : Move) (marks : List ℕ) (moment : Moment) : Type 0 where
  pub plain-is : (u : ℕ) → u ≤ M.sizes.n → full_of M marks 0 u ≡ leb moment.plain u
  pub coded-is : (u : ℕ) → u ≤ M.sizes.n → full_of M marks 1 u ≡ ltb u moment.coded
  pub done-is : (u : ℕ) → u ≤ M.sizes.n → full_of M marks 2 u ≡ leb moment.done u
  -- one block at most is full of nothing
  pub above : (u : ℕ) → u ≤ M.sizes.n → moment.coded < u → (moment.plain ≤ u) ⊎ (moment.done ≤ u)

-- the moment of a pass: blocks below `low` are full of s + 1, and from `high` on of what the pass has above
abbrev pub moment_in : (is_backward : Bool) → (n low high : ℕ) → Moment
moment_in is_backward n low high = record { coded = low; plain = cond is_backward (n + 1) high; done = cond is_backward high (n + 1) }

-- marks that have this moment
pub record HasMoment (Z : Sizes) (marks : List ℕ) (moment : Moment) : Type 0 where
  pub is_backward : Bool
  pub low : ℕ
  pub high : ℕ
  pub shape : Shape Z marks low high (cond is_backward 2 0)
  pub is : moment ≡ moment_in is_backward Z.n low high
  pub some : 1 ≤ high
