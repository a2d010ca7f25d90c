-- No two places have the same marks.
use Rattle.flash.proofs.Kit.{◌≡◌, refl, sym, ap, ap₂, ◌∙◌, ◌≢◌, ◌⊎◌, inl, inr, List, ℕ, ◌+◌, ◌*◌, ◌≤◌, ◌<◌, arith}
use Rattle.flash.specs.declared.sizes.Sizes.{Sizes}
use Rattle.flash.specs.Geometry.{slot}
use Rattle.flash.specs.Chip.{mark_at}
use Rattle.flash.proofs.Bounds.{in-range}
use Rattle.method.specs.Place.{Pass, forward, backward, last_place, pass_at, filling, filled, blank, plain, code, above, held_at}
use Rattle.method.specs.Claims.{PlacesDiffer}
use Rattle.method.proofs.basics.Indexes.{clash, Order, less, same, more, order}
use Rattle.method.proofs.places.StepsAtPlaces.{turn_of, located, page-cases, filling-in, forward-high}
use Rattle.method.proofs.places.PagesHeld.{HeldCases, coded, ended, resting, empty, held-cases, edge, edge_in, marks_of-at, held-above, held-blank, held-full-below, held-full-above, held-told}

above-code : (pass : Pass) → above pass ≢ code
unfolding above
above-code forward e = clash (cc)
above-code backward e = clash (cc)

same-pass : (x y : Pass) → (x ≡ forward → y ≡ forward) → (y ≡ forward → x ≡ forward) → x ≡ y
same-pass forward y f g = sym (f refl)
same-pass backward forward f g = g refl
same-pass backward backward f g = refl

edge-told : (pass : Pass) (b c : ℕ) → edge pass b ≡ edge pass c → b ≡ c
edge-told forward b c e = omega arith
edge-told backward b c e = e

module _ (Z : Sizes) where
  open Z use {n, m}

  -- only in the block that is being filled is a page blank, and only in the forward pass plain
  blank-is : (place b q : ℕ) → place ≤ last_place Z → b ≤ n → held_at Z place b q ≡ blank → (filling Z place ≡ b) × (filled Z place ≤ q)
  blank-is place b q i j h = go (held-cases Z place b q i j)
    where
      go : HeldCases Z place b q → (filling Z place ≡ b) × (filled Z place ≤ q)
      go (coded l e) = absurd (clash (cc))
      go (ended l e) = absurd (clash (cc))
      go (resting f l e) = absurd (clash (cc))
      go (empty f k e) = (f, k)

  plain-is : (place b q : ℕ) → place ≤ last_place Z → b ≤ n → held_at Z place b q ≡ plain → pass_at Z place ≡ forward
  plain-is place b q i j h = go (held-cases Z place b q i j)
    where
      go : HeldCases Z place b q → pass_at Z place ≡ forward
      go (coded l e) = absurd (clash (cc))
      go (ended l e) = absurd (clash (cc))
      go (resting f l e) = f
      go (empty f k e) = absurd (clash (cc))

  -- two places at which every page holds the same
  record Alike (p q : ℕ) : Type 0 where
    p-in : p ≤ last_place Z
    q-in : q ≤ last_place Z
    held : (b j : ℕ) → b ≤ n → j < m → held_at Z p b j ≡ held_at Z q b j

  alike-back : (p q : ℕ) → Alike p q → Alike q p
  alike-back p q A = record { p-in = A.q-in; q-in = A.p-in; held = λ b j h k. sym (A.held b j h k) }

  -- through the forward pass block n is plain
  forward-too : (p q : ℕ) → 0 < m → Alike p q → pass_at Z p ≡ forward → pass_at Z q ≡ forward
  unfolding above
  forward-too p q pages A e =
      plain-is q n 0 A.q-in (omega arith) (sym (A.held n 0 (omega arith) pages) ∙ held-above Z p n 0 (forward-high Z p A.p-in e) ∙ ap above e)

  -- the page that is written next tells the block and the page
  no-sooner : (p q : ℕ) → Alike p q → filled Z p < m → (filling Z q ≡ filling Z p) × (filled Z q ≤ filled Z p)
  no-sooner p q A k =
      blank-is q (filling Z p) (filled Z p) A.q-in (filling-in Z p A.p-in)
      (sym (A.held (filling Z p) (filled Z p) (filling-in Z p A.p-in) k) ∙ held-blank Z p (filling Z p) (filled Z p) refl (omega arith))

  -- where all pages are written, the edge tells the block
  no_lower : (p q : ℕ) → 0 < m → Alike p q → filled Z p ≡ m → filled Z q ≡ m
      → edge (pass_at Z p) (filling Z p) < edge (pass_at Z q) (filling Z q) → ⊥
  no_lower p q pages A k l h =
      let c : ℕ = edge (pass_at Z p) (filling Z p) in
      let inside : c ≤ n = omega (arith, edge_in Z q A.q-in) in
      above-code (pass_at Z p)
      (sym (held-full-above Z p k c 0 pages (omega arith)) ∙ A.held c 0 inside pages ∙ held-full-below Z q l c 0 pages h)

  same_block : (p q : ℕ) → 0 < m → Alike p q → pass_at Z p ≡ pass_at Z q → (filling Z p ≡ filling Z q) × (filled Z p ≡ filled Z q)
  same_block p q pages A e = go (page-cases Z p) (page-cases Z q)
    where
      level : filled Z p ≡ m → filled Z q ≡ m → Order (edge (pass_at Z p) (filling Z p)) (edge (pass_at Z q) (filling Z q)) → filling Z p ≡ filling Z q
      level k l (less h) = absurd (no_lower p q pages A k l h)
      level k l (same h) = edge-told (pass_at Z p) (filling Z p) (filling Z q) (rw (← e) at h)
      level k l (more h) = absurd (no_lower q p pages (alike-back p q A) l k h)

      go : (filled Z p < m) ⊎ (filled Z p ≡ m) → (filled Z q < m) ⊎ (filled Z q ≡ m) → (filling Z p ≡ filling Z q) × (filled Z p ≡ filled Z q)
      go (inl k) (inl l) = (sym (no-sooner p q A k).0, omega (arith, no-sooner p q A k, no-sooner q p (alike-back p q A) l))
      go (inl k) (inr l) = absurd (omega (arith, no-sooner p q A k))
      go (inr k) (inl l) = absurd (omega (arith, no-sooner q p (alike-back p q A) l))
      go (inr k) (inr l) = (level k l (order (edge (pass_at Z p) (filling Z p)) (edge (pass_at Z q) (filling Z q))), k ∙ sym l)

  alike_same : (p q : ℕ) → 0 < m → Alike p q → p ≡ q
  alike_same p q pages A =
      let pass = same-pass (pass_at Z p) (pass_at Z q) (forward-too p q pages A) (forward-too q p pages (alike-back p q A)) in
      let block = same_block p q pages A pass in
      (located Z p A.p-in).number
      ∙ ap₂ (λ (x y : ℕ). x * (m + 1) + y) (ap₂ (turn_of Z) pass block.0) block.1
      ∙ sym (located Z q A.q-in).number

pub places-differ : PlacesDiffer
unfolding PlacesDiffer
places-differ Z h p q p-in q-in e =
    alike_same Z p q (in-range Z h).m-low
    (record {
      p-in = p-in;
      q-in = q-in;
      held = λ b j k l.
          held-told Z (held_at Z p b j) (held_at Z q b j)
          (sym ((marks_of-at Z p).mark-is b j k l)
          ∙ ap (λ (marks : List ℕ). mark_at marks (slot Z.m b j)) e
          ∙ (marks_of-at Z q).mark-is b j k l);
    })
