-- Cuts that leave 255 and no other mark obey the rule of the cut, and no two blocks are unfinished where the marks fit a moment.
use Rattle.flash.proofs.Kit.{◌≡◌, inl, inr, ⊎_elim, Bool, true, List, ℕ, ◌≤◌, ◌<◌, arith, eqb, eqb-true}
use Rattle.flash.specs.declared.sizes.Sizes.{Sizes}
use Rattle.flash.specs.Chip.{Chip, erased, mark_at, is_unfinished}
use Rattle.flash.proofs.Bounds.{in-range}
use Rattle.method.specs.Place.{Operation, write, erase, done}
use Rattle.method.specs.Cut.{is_torn_mark, Kept, Torn, Touched}
use Rattle.method.specs.Claims.{OldCuts, OneUnfinished}
use Rattle.method.proofs.places.PlaceShape.{Shaped, letter_above}
use Rattle.method.proofs.recovery.LinesAgree.{finished}
use Rattle.method.proofs.recovery.FittingMarks.{shaped}
use Rattle.method.proofs.recovery.MarksFade.{torn-of}

abbrev old : ℕ → Bool
old mark = eqb mark erased

module _ (Z : Sizes) (before after : Chip) (t : ℕ) where
  widened : Torn old Z after t → Torn is_torn_mark Z after t
  widened T = torn-of Z after t (eqb-true (mark_at after.marks t) erased T.mark)

  touched : (operation : Operation) → Touched old Z operation before after t → Touched is_torn_mark Z operation before after t
  touched (write pass block page) x = widened x
  touched (erase block) x = ⊎_elim (λ (K : Kept Z before after t). inl K) (λ (T : Torn old Z after t). inr (widened T)) x
  touched done x = x

pub old-cuts : OldCuts
unfolding OldCuts
old-cuts Z operation before after C = record {
  store_length = C.store_length;
  marks-length = C.marks-length;
  inside = λ t h e. touched Z before after t operation (C.inside t h e);
  outside = C.outside;
}

-- an unfinished block is the one between
between : (Z : Sizes) (pages : 1 ≤ Z.m) (marks : List ℕ) (S : Shaped Z marks) (b : ℕ) → b ≤ Z.n → is_unfinished Z.m marks b ≡ true → (S.low ≤ b) × (b < S.high)
between Z pages marks S b h u =
    let not-below : b < S.low → ⊥ = λ l. finished Z pages marks 1 b (S.shape.below b l) u in
    let not-above : S.high ≤ b → ⊥ = λ l. finished Z pages marks (letter_above S.pass) b (S.shape.above b l h) u in
    (omega arith, omega arith)

pub one-unfinished : OneUnfinished
unfolding OneUnfinished
one-unfinished Z h marks found e b c b-in c-in u w =
    let pages = (in-range Z h).m-low in
    let S = shaped Z pages marks found e in
    let one = between Z pages marks S b b-in u in
    let other = between Z pages marks S c c-in w in
    omega (arith, S.shape.near)
