-- Marks that mend reads have a shape.
use Rattle.flash.proofs.Kit.{◌≡◌, refl, sym, ◌∙◌, ⊎_elim, true, false, some, List, [], ◌∷◌, List-as-Memᴰ, List·Memᴰ·head, List·Memᴰ·tail, ℕ, suc, ◌<◌, arith}
use Rattle.flash.specs.Geometry.{letter}
use Rattle.flash.specs.Tables.{Row, first_fit}
use Rattle.flash.specs.declared.sizes.Sizes.{Sizes}
use Rattle.flash.proofs.Bools.{bool_cases}
use Rattle.flash.proofs.Blocks.{unfinished-at}
use Rattle.method.specs.Place.{forward, backward}
use Rattle.method.specs.Mend.{Reading, lines, reading}
use Rattle.method.specs.inner.Shape.{Shape}
use Rattle.method.proofs.places.PlaceShape.{Shaped}
use Rattle.method.proofs.recovery.MarksSeen.{reading-is}
use Rattle.method.proofs.recovery.LinesAgree.{Torn, Filled, Fit, torn-forth, torn-back, full-forth, full_back, fit}

-- the row that is found fits
pub first-fit : {A : Type 0} (rows : List (Row A)) (found : A) → first_fit rows ≡ some found → (row : Row A) × List-as-Memᴰ row rows × (row.fits ≡ true) × (row.gives ≡ found)
unfolding first_fit
first-fit {A} [] found e = (let z : ◌≡◌ {A = ℕ} 0 1 = cc in absurd (omega arith))
first-fit {A} (top ∷ rows) found e = ⊎_elim
    (λ (f : top.fits ≡ true). (let is : some top.gives ≡ some found = rw f at e in (top, List·Memᴰ·head refl, f, cc)))
    (λ (f : top.fits ≡ false). (let r = first-fit rows found (rw f at e) in (r.0, List·Memᴰ·tail r.1, r.2, r.3)))
    (bool_cases top.fits)

module _ (Z : Sizes) (pages : 0 < Z.m) (marks : List ℕ) where
  -- block b is torn: it is the block between
  pub torn-shape : (i b : ℕ) → Torn Z pages marks i b → Shape Z marks b (suc b) i
  unfolding letter
  torn-shape i b T = record {
    below = T.under;
    above = λ c h l. T.over c h l;
    between = λ c h l j.
        let at : c ≡ b = omega arith in
        rw at (unfinished-at Z.m marks b (letter Z j) (omega arith) T.open_block);
    order = omega arith;
    near = omega arith;
    inside = T.low;
  }

  -- no block is torn: none lies between
  pub filled-shape : (i b : ℕ) → Filled Z pages marks i b → Shape Z marks b b i
  filled-shape i b F = record {
    below = F.under;
    above = F.over;
    between = λ c h l j. absurd (omega arith);
    order = omega arith;
    near = omega arith;
    inside = F.high;
  }

  -- what mend reads is told by a row that fits
  pub read-row : (found : Reading) → reading Z marks ≡ some found → (row : Row Reading) × Fit Z pages marks row × (row.gives ≡ found)
  read-row found e =
      let r = first-fit (lines Z marks) found (sym (reading-is marks Z) ∙ e) in
      (r.0, fit Z pages marks r.0 r.1 r.2, r.3)

  shaped_row : (row : Row Reading) → Fit Z pages marks row → Shaped Z marks
  shaped_row row (torn-forth b T e) = record { low = b; high = suc b; pass = forward; shape = torn-shape 0 b T }
  shaped_row row (torn-back b T e) = record { low = b; high = suc b; pass = backward; shape = torn-shape 2 b T }
  shaped_row row (full-forth b F e) = record { low = b; high = b; pass = forward; shape = filled-shape 0 b F }
  shaped_row row (full_back b F e) = record { low = b; high = b; pass = backward; shape = filled-shape 2 b F }

  pub shaped : (found : Reading) → reading Z marks ≡ some found → Shaped Z marks
  shaped found e = (let r = read-row found e in shaped_row r.0 r.1)
