-- The shape of the marks that a place has.
use Rattle.flash.proofs.Kit.{◌≡◌, refl, ap, ◌∙◌, ◌⊎◌, inl, inr, ◌≢◌, List, ℕ, suc, ◌≤◌, ◌<◌, arith}
use Rattle.flash.specs.declared.sizes.Sizes.{Sizes}
use Rattle.flash.specs.Geometry.{slot, letter}
use Rattle.flash.specs.Chip.{erased, mark_at}
use Rattle.flash.proofs.Blocks.{full-of, not_full}
use Rattle.method.specs.Place.{Pass, forward, backward, last_place, pass_at, filling, filled, above, held_at, held_mark}
use Rattle.method.specs.inner.Shape.{Shape}
use Rattle.method.proofs.places.StepsAtPlaces.{filling-in}
use Rattle.method.proofs.places.PagesHeld.{edge, edge_in, MarksAt, held_below, held-above, held-blank, held-full-below, held-full-above}

-- what marks the blocks above the one that a pass fills: s + 0, s + 2
abbrev pub letter_above : Pass → ℕ
letter_above forward = 0
letter_above backward = 2

pub which-pass : (pass : Pass) → (letter_above pass ≡ 0) ⊎ (letter_above pass ≡ 2)
which-pass forward = inl refl
which-pass backward = inr refl

-- all that read needs of marks: their shape in one of the passes
pub record Shaped (Z : Sizes) (marks : List ℕ) : Type 0 where
  pub low : ℕ
  pub high : ℕ
  pub pass : Pass
  pub shape : Shape Z marks low high (letter_above pass)

module _ (Z : Sizes) where
  open Z use {n, m}

  pub mark-above : (pass : Pass) → held_mark Z (above pass) ≡ letter Z (letter_above pass)
  unfolding held_mark above
  mark-above forward = refl
  mark-above backward = refl

  module _ (place : ℕ) (in-move : place ≤ last_place Z) (marks : List ℕ) where
    -- While a block is being filled: one page without a letter keeps it from being full, whatever the others are.
    pub shape-around : ((b q : ℕ) → b ≢ filling Z place → b ≤ n → q < m → mark_at marks (slot m b q) ≡ held_mark Z (held_at Z place b q))
        → (q : ℕ) → q < m → 3 ≤ mark_at marks (slot m (filling Z place) q) → Shape Z marks (filling Z place) (suc (filling Z place)) (letter_above (pass_at Z place))
    unfolding held_mark letter
    shape-around others q k hole =
        let inside = filling-in Z place in-move in
        record {
          below = λ b h. full-of m marks b (letter Z 1) (λ p l. others b p (omega arith) (omega arith) l ∙ ap (held_mark Z) (held_below Z place b p h));
          above = λ b h r. full-of m marks b (letter Z (letter_above (pass_at Z place)))
              (λ p l. others b p (omega arith) r l ∙ ap (held_mark Z) (held-above Z place b p h) ∙ mark-above (pass_at Z place));
          between = λ b h l j.
              let at : b ≡ filling Z place = omega arith in
              rw at (not_full m marks (filling Z place) (letter Z j) q k (λ e. absurd (omega (arith, hole))));
          order = omega arith;
          near = omega arith;
          inside = inside;
        }

    module _ (A : MarksAt Z place marks) where
      pub shape-filling : filled Z place < m → Shape Z marks (filling Z place) (suc (filling Z place)) (letter_above (pass_at Z place))
      unfolding held_mark
      shape-filling k =
          let hole : mark_at marks (slot m (filling Z place) (filled Z place)) ≡ erased =
          A.mark-is (filling Z place) (filled Z place) (filling-in Z place in-move) k
          ∙ ap (held_mark Z) (held-blank Z place (filling Z place) (filled Z place) refl (omega arith)) in
          shape-around (λ b q apart. A.mark-is b q) (filled Z place) k (omega (arith, hole))

      -- when it is full
      pub shape-full : filled Z place ≡ m → Shape Z marks (edge (pass_at Z place) (filling Z place)) (edge (pass_at Z place) (filling Z place)) (letter_above (pass_at Z place))
      unfolding held_mark
      shape-full k =
          let inside = edge_in Z place in-move in
          record {
            below = λ b h. full-of m marks b (letter Z 1) (λ q l. A.mark-is b q (omega arith) l ∙ ap (held_mark Z) (held-full-below Z place k b q l h));
            above = λ b h r. full-of m marks b (letter Z (letter_above (pass_at Z place)))
                (λ q l. A.mark-is b q r l ∙ ap (held_mark Z) (held-full-above Z place k b q l h) ∙ mark-above (pass_at Z place));
            between = λ b h l. absurd (omega arith);
            order = omega arith;
            near = omega arith;
            inside = inside;
          }
